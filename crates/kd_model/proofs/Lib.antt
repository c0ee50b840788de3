pub mod Truth
pub mod Gaps
pub mod Lists
pub mod Texts
pub mod Least
pub mod Places
