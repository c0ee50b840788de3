pub mod Pieces
pub mod Digits
pub mod Utf8
pub mod Reading
mod Rows
