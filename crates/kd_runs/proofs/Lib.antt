pub mod Answered
pub mod Home
pub mod Left
pub mod Lists
pub mod Pools
pub mod Publishing
