-- What a reader has to believe: when a recorded conversation agrees.
pub mod Trials
