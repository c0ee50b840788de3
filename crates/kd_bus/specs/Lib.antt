-- In reading order.

-- what an entry says
pub mod Slips
-- what the values behind the locks stand for
pub mod Values
-- what contracts see of a bus and of its passes
pub mod Sight
-- what a call on one pool tells
pub mod Turned
-- what a caller is, at its desk and after a command
pub mod Members
-- what the holder of the desk tells of its visits
pub mod Visited
-- what a command needs before its first visit
pub mod Ready
-- what is told where the desk is left
pub mod Leaving
-- what a command tells
pub mod Commands
-- what is told where a bus comes
pub mod Begins
-- what a slot has come to when all its passes came back
pub mod Closing
