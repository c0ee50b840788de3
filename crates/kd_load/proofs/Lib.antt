pub mod Addressed
pub mod Coming
pub mod Front
pub mod Messages
pub mod Mixed
pub mod Offers
pub mod Passing
pub mod Pools
pub mod Ran
pub mod Ranges
mod RowsLoad
pub mod Runs
pub mod Sends
pub mod Shares
pub mod Turns
pub mod Whole
