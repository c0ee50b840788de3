-- in reading order: all that a reader has to believe
-- a pool as data, what is done to it, and what it answers
pub mod State
-- each act on a pool: the pool after it, and the answer
pub mod Steps
-- what each open pool keeps
pub mod Sound
-- what lasts through any act
pub mod Lasting
-- arrival numbers, and the order in which messages wait
pub mod Arriving
