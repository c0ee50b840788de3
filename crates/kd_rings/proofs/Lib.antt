pub mod Linked
pub mod Rings
pub mod Pairs
pub mod Ends
