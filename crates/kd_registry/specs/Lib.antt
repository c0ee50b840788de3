-- what a reader has to believe: who owns a name and what acquires and releases make of the claims;
-- what is listed, and which owners change where connections leave
pub mod Claims
pub mod Changes
-- what the functions inside the crate promise each other
pub mod Counts
pub mod Spans
