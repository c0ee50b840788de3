-- what a reader has to believe, in reading order: the book and its answers; what is done to it
pub mod Buses
pub mod Along
