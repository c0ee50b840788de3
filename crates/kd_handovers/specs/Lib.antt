-- What holds of the parts of every plan.

-- the first two hand messages over, or none do
pub mod Handovers
-- how large the pools are that they open
pub mod Openings
