pub mod Listings
pub mod Leavers
pub mod Slices
