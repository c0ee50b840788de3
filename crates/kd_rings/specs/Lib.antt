-- what a ring of numbers is
pub mod Rings
