pub mod Tied
pub mod Script
pub mod Agreeing
pub mod Moving
pub mod Acts
pub mod Holders
pub mod Own
pub mod Reached
pub mod Staying
pub mod Made
pub mod Owing
pub mod Placing
pub mod Arriving
mod Messages
mod Naming
mod Policies
mod Broadcasts
mod Requests
mod Interleaved
