-- In reading order. Believe the first three.

-- what the values stand for, and the tie between the desk's list and the pools' lists
pub mod Bus
-- passes between two calls
pub mod Rests
-- what is known of the lists after a run
pub mod Run
-- the hands and turns of a counter
pub mod Counts
