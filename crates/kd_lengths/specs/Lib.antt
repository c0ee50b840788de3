-- What comes to the pools of a bus has the lengths that keep them sound.

-- of every plan
pub mod Plans
-- of every event, and the pools of every world that legal events lead to
pub mod Worlds
