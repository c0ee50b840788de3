-- in reading order; all that a reader has to believe
pub mod Order
-- why a queue takes no memory once it is made: to believe nothing of it but that it fits
pub mod Room
