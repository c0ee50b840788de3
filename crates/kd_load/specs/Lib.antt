-- In reading order. Believe all of them.

-- the draws, and the messages of each thread
pub mod Load
-- whom a message is for, how many are for each connection, and the summary
pub mod Counts
-- the bus of a load, and what is sent there
pub mod Bus
pub mod Laws
