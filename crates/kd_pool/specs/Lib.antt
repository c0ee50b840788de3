-- in reading order: what a call answers, which a reader has to believe
pub mod Told
-- the shares of sealed bytes, by slice number
pub mod Sealed
-- what the code keeps; to believe only how a slot is seen as a slice, since all else is proved
pub mod Table
