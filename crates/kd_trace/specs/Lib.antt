-- In reading order. A reader has to believe those marked *.

-- * the items of a trace, each with its one spelling
pub mod Items
-- * which bytes are a trace, and where others break
pub mod Trace
-- * which traces are right
pub mod Right
-- * the words of a run
pub mod Words
-- * what is written of a verdict
pub mod Texts
-- * how a check ends, and what was read and written then
pub mod Ends
-- * the trace of the run that frames make, and how a record of them ends
pub mod Record
-- events and answers as they are read
pub mod Reading
-- what a reader finds at the front of bytes
pub mod Fronts
-- what a checker keeps of a run so far
pub mod Judging
-- what a recorder has written down of what it was told
pub mod Recorded
