-- In reading order. What to believe: the files down to `WellFormed` for commands, `Replies` for
-- replies. What the readers and writers do over them is proved.

-- the numbers of commands, and how many words each has
pub mod Opcodes
-- which commands and callers a replay has, and which a session
pub mod Ports
-- what items say, and the one spelling of each
pub mod Items
-- the flags, words and items of each command
pub mod Commands
-- a command's frame as bytes, and where a frame ends
pub mod Frames
-- which kinds of items each command takes, which once, which it needs
pub mod Kinds
-- items as they are read, and the place of the first that breaks
pub mod Reading
-- which refusal a frame has, in their order
pub mod Refusals
-- which commands have a frame
pub mod WellFormed
-- a reply as bytes, and which command it answers
pub mod Replies
-- replies as they are read, and the place of the first break
pub mod ReplyReading
-- numbers that fit their types, which the laws of all values ask for
pub mod Typed
