pub mod Finds
pub mod Goes
pub mod Lists
