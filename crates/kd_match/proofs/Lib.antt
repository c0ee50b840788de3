pub mod Order
pub mod Kept
pub mod Owned
pub mod RowsRules
