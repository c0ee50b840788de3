-- Sound pools stay sound.

-- what acts bring along
pub mod Lengths
-- after each act, and along lists of them
pub mod Staying
