pub mod Slices
pub mod Words
pub mod Filters
