-- Where frames come from.
use Rattle.std.specs.Prelude.{ℕ, Bool, true, false, ◌&&◌, nat_le, ◌==◌}
use Rattle.kd_wire.specs.declared.port.Port.{Port}
use Rattle.kd_wire.specs.declared.port.Port.TheVariants.{Replay, Session}
use Rattle.kd_wire.specs.declared.opcode.Opcode.{Opcode}
use Rattle.kd_wire.specs.declared.opcode.Opcode.TheVariants.{MakeBus, Enter}

-- a replay has the callers 1 to 64, a session the caller 0
abbrev pub takes_caller : Port → ℕ → Bool
takes_caller Replay caller = nat_le 1 caller && nat_le caller 64
takes_caller Session caller = caller == 0

-- no bus is made in a replay, and nobody enters in a session
abbrev pub takes_opcode : Port → Opcode → Bool
takes_opcode Replay MakeBus = false
takes_opcode Session Enter = false
takes_opcode port opcode = true
