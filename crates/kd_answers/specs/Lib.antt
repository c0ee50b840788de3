-- How long replies can be. A reader has to believe both files.

-- of every plan, and of whoever leaves the desk of a reached world
pub mod Short
-- of a read
pub mod Reads
