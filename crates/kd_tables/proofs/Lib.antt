pub mod Ending
pub mod Visits
pub mod Marks
pub mod Gone
