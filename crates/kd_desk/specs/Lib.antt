-- What contracts of the planners cite, in reading order: steps on the way to what commands come to,
-- which stands in kd_commands.

-- steps: the first connection of a caller
pub mod Arriving
-- steps: names and their owners
pub mod Owners
-- steps: endpoints
pub mod Keeping
-- steps: an endpoint that goes with every connection on it
pub mod Closing
-- steps: the lines of a listing
pub mod Listing
