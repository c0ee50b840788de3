-- what a reader has to believe: flag words as sets of bits, the codes of refusals, and how each end
-- of a program is told
pub mod Flags
pub mod Refusal
pub mod Status
-- the words on lists that crates above take from here
pub use Rattle.kd_model.specs.Words
