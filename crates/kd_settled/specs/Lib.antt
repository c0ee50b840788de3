-- What always holds of a desk, and of every plan. A reader has to believe the definitions that
-- `kd_commands` has, and these, in whose words the laws are stated.

-- whose each thing of a desk is
pub mod Owners
-- the invariant of a desk
pub mod Settled
-- what its tables have room for, and who is there where something is theirs
pub mod Room
-- the caller and all others after a command, and its reply
pub mod Callers
-- what the parts of a plan meet
pub mod Parts
-- in which order receivers are visited
pub mod Rising
-- how long the image of a message can be
pub mod Lengths
-- which size each open pool has
pub mod Sizes
