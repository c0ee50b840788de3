pub mod Joined
pub mod Sets
pub mod RowsBloom
pub mod Packs
pub mod Blocks
pub mod Marks
pub mod Masks
pub mod Law
