-- Which commands have a frame.
use Rattle.std.specs.Prelude.{Bool, ◌&&◌, [], is_none, nat_le}
use Rattle.kd_wire.specs.declared.command.Command.{Command}
use Rattle.kd_wire.specs.Commands.{opcode_in, flags_of, items_of}
use Rattle.kd_wire.specs.Refusals.{command_flaw}
use Rattle.kd_wire.specs.Kinds.{kinds_of}
use Rattle.kd_wire.specs.Reading.{stand}
use Rattle.kd_wire.specs.Frames.{frame_length}

-- of at most so many bytes, and nothing in it is refused
abbrev pub is_well_formed : Command → Bool
is_well_formed x =
    nat_le (frame_length x) 131072
    && stand (kinds_of (opcode_in x) (flags_of x)) [] (items_of x)
    && is_none (command_flaw x)
