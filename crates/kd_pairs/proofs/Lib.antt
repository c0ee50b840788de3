pub mod Dues
pub mod Events
pub mod Along
