-- What each act raises of a pool's counts, and that its size stays.

-- the counts before and after an act
pub mod Counts
-- the size, by acts and their answers
pub mod Sizes
