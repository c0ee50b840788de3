-- what a reader has to believe: what entries grant on a name, and whose entries there are
pub mod Level
pub mod Order
pub mod Policy
-- what the functions inside the crate promise each other
pub mod Granted
pub mod Marks
