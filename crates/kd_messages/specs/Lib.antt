-- What contracts of messages and notices cite, in reading order: steps on the way to what messages
-- come to by kd_commands.

-- steps: notices
pub mod News
-- steps: messages
pub mod Sending
