pub mod Cuts
pub mod OneLine
pub mod Written
