pub mod Known
pub mod Lending
pub mod Least
pub mod Splits
