pub mod Filters
pub mod Ranked
pub mod Places
pub mod Spans
pub mod Kept
pub mod Answered
pub mod Leaving
pub mod Finding
pub mod Counting
mod Rows
