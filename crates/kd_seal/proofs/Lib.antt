mod Rows
pub mod Fewer
pub mod Counting
