-- An endpoint that goes with every connection on it, as the code plans it.
use Rattle.std.specs.Prelude.{ℕ, Bool, not, ◌&&◌, List}
use Rattle.kd_model.specs.Words.{in_order, those}
use Rattle.kd_commands.specs.declared.conn.Conn.{Conn}
use Rattle.kd_commands.specs.State.{Desk, came_before, is_monitor}
use Rattle.kd_commands.specs.Leaving.{ids_of}
use Rattle.kd_tables.specs.Room.{is_on}

-- it came by the endpoint, and those that stay are told that it left: it is no monitor
abbrev pub is_missed : ℕ → Conn → Bool
is_missed e c = is_on e c && not (is_monitor c.kind)

-- the ids of those, from the lowest on
abbrev pub ids_missed : Desk → ℕ → List ℕ
ids_missed d e = ids_of (in_order came_before (those (is_missed e) d.conns))
