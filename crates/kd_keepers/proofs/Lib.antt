pub mod Lists
pub mod Desks
pub mod Commands
pub mod Along
pub mod Own
pub mod Puts
