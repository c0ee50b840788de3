-- In reading order. What to believe:
-- how numbers, flags and bytes stand in a line
pub mod Marks
-- the names of commands and refusals
pub mod Names
-- a command as a line
pub mod Commands
-- an image, as part of a line
pub mod Images
-- a reply as a line
pub mod Replies
-- how bytes fall into frames or replies
pub mod Pieces
-- what is written of them
pub mod Lines
-- what is made of lines
pub mod Making
-- how a run ends
pub mod Ends
