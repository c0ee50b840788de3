-- In reading order. All serve the contracts of the code alone.

-- events and answers of the code, in the words of the definitions
pub mod Running
-- what a command comes to
pub mod Planned
-- an act at the pool of a seat, among all pools
pub mod Acting
-- what the caller is that leaves the desk
pub mod Turned
-- what contracts see of a world, and what it keeps
pub mod Held
-- lists of events
pub mod Along
