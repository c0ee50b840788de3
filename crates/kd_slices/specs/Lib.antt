-- in reading order; what a reader has to believe of placing stands in kd_model, and here nothing
-- what the search for a gap asks
pub mod Gaps
-- what the list of a book keeps
pub mod Kept
