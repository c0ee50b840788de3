pub mod Moved
pub mod Passes
pub mod Made
pub mod Tells
