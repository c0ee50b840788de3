-- In reading order. A reader has to believe all but the last two, in whose words the laws of lists
-- and of puts are stated.

-- what one turn did
pub mod Turns
-- the desk along its list, and which of its entries are true
pub mod Slots
-- what the desk's list addresses to the pools, and what their lists have of it
pub mod Visits
-- who sits where, and that its commands come from it
pub mod Seats
-- a pool along its list, and which of its entries are true
pub mod Pools
-- that publishings are of what was offered
pub mod Pairs
-- the numbers that the pools' lists lend, and hands
pub mod Lent
-- what ties all lists
pub mod Tie
-- what follows of seats
pub mod Known
-- what a put of each kind of entry asks for
pub mod Puts
