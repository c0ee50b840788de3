pub mod TwoParts
pub mod Standing
pub mod Sorting
pub mod Searching
pub mod Granting
pub mod Levels
pub mod Places
pub mod Marking
mod Rows
