-- what a reader has to believe: names and labels, the patterns that cover names, and what a user
-- may call a bus of his own
pub mod Names
pub mod Patterns
pub mod BusNames
