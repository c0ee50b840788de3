-- What holds along every list of legal events from the opening of a bus. A reader has to believe
-- the definitions that `kd_world` has, and these, in whose words the laws are stated.

-- nobody is left out: who leaves the desk has visited every part, or the first one ended all
pub mod Left
-- the desk is settled, callers are at home, and pools are open and sized for live connections
pub mod Reached
-- what visits and publishings meet
pub mod Met
-- replies to commands
pub mod Answered
-- the world, the desk and the pools along lists, and with one event more
pub mod Lists
