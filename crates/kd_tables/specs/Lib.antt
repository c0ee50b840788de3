-- What contracts of the desk's tables cite, in reading order. What commands come to stands in
-- kd_commands. Of this crate a reader has to believe what a desk and a plan are seen as, and what
-- a plan leaves.

-- what contracts see of a desk
pub mod Room
-- the plans of the code, beside those of the definitions
pub mod Drafts
-- what a plan leaves, by what the pools answered
pub mod Outs
