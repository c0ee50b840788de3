-- In reading order. A reader of the law on offers has to believe those marked *; of the others each
-- says whose law it serves.

-- * what a desk's history addresses to a seat
pub mod Addressed
-- what a caller was told of its slices
pub mod Hands
-- * the world and its opening
pub mod State
-- * what the desk of a world plans
pub mod Planner
-- * what the holder of the desk does next
pub mod Holding
-- what a caller has of its own
pub mod Own
-- * the events, and which are legal
pub mod Legal
-- * what an event does to a pool
pub mod Pools
-- what it does to the callers
pub mod Callers
-- * the world after it
pub mod Step
-- * events one after the other
pub mod Runs
-- what an event answers
pub mod Answers
-- a command run whole, for whoever runs commands and not events
pub mod Whole
-- * each pool is offered exactly what the desk addresses to it
pub mod Tie
-- hands agree with pools, and slices keep their place and their bytes
pub mod Agreed
-- what was placed is published
pub mod Owed
