mod Rows
pub mod Least
pub mod Next
pub mod Numbers
pub mod Waits
