mod Rows
pub mod Orders
pub mod Ordered
pub mod Sorting
pub mod Due
