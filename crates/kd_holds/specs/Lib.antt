-- In reading order. All serve the contracts of the code alone.

-- a publishing, and what it answers
pub mod Publishing
-- the pools that are made before the visits of a plan
pub mod Stack
-- the parts that hand messages over, what is kept for them, and what answers tell
pub mod Handing
-- what a pool with its generation counts
pub mod Counts
-- words on lists
pub mod Lists
-- what a plan visits next
pub mod Ahead
-- a holder's visit of its next part
pub mod Visits
-- what a holder leaves behind
pub mod Placed
