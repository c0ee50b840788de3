-- What planning a command and finishing its plan come to together.

-- the step of a command, and that a settled desk stays settled
pub mod Steps
