pub mod Said
pub mod Sorted
pub mod Accesses
pub mod Rules
pub mod Sealed
