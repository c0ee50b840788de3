-- what a reader has to believe: what bits a filter and a mask have, which of them meet, and what is
-- built of which strings
pub mod Bits
pub mod Bloom
pub mod Building
-- what the functions inside the crate promise each other of words of 64 bits
pub mod Packed
