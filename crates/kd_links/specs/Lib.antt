-- how slices and gaps are linked
pub mod Chains
-- the gaps in order of size
pub mod Filed
-- the book that they are
pub mod Kept
