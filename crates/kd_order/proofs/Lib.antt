pub mod Writes
pub mod Made
pub mod Arrived
pub mod Ranks
pub mod Placed
pub mod Waiting
