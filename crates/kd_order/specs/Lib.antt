-- how slices are linked
pub mod Chains
-- elements in order of rank
pub mod Ranks
-- the queue that they are
pub mod Kept
