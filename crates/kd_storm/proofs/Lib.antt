pub mod Built
pub mod Formed
