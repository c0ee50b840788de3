-- In reading order. A reader has to believe the first two files; the laws are stated in the last.

-- who keeps which endpoint, along the desk's list, and that its commands come from it
pub mod Keeping
-- what follows of every such list
pub mod Known
-- what ties all lists, and what a put asks for
pub mod Puts
