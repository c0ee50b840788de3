pub mod Pieces
pub mod Counted
pub mod Covering
mod Rows
