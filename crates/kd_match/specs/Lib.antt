-- what a reader has to believe: what conditions hold of, and the rules of all connections
pub mod Told
pub mod Rules
