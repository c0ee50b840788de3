pub mod Plans
pub mod Carried
pub mod Worlds
