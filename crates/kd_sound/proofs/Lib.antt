pub mod Written
pub mod Books
pub mod Steps
pub mod Lists
pub mod Only
