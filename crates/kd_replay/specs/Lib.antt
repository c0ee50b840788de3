-- In reading order. A reader has to believe those marked *.

-- * frames, how bytes fall into them, and the command of each
pub mod Frames
-- * what a command of a frame comes to
pub mod Turns
-- * the events that a frame is run by, and what they tell
pub mod Events
-- * what a replay writes, and how it ends
pub mod Transcript
-- * how a run's input was read
pub mod Ends
-- * what whoever is told of a run has heard
pub mod Hearing
-- what the code's answers are replied as
pub mod Answering
