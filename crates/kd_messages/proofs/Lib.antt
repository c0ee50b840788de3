pub mod Telling
pub mod Offering
pub mod Planned
pub mod Routed
pub mod Shares
