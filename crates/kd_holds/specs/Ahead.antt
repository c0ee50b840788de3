-- What a plan visits next.
use Rattle.std.specs.Prelude.{List, length, drop, Option, Some, None}
use Rattle.kd_tables.specs.declared.part.Out.{Out}
use Rattle.kd_tables.specs.declared.part.Part as code
use Rattle.kd_tables.specs.Drafts.{Draft, parts_with}
use Rattle.kd_tables.specs.Outs.{answers_of}
use Rattle.kd_commands.specs.Visits.{first_ends}
use Rattle.kd_holds.specs.Lists.{first_of}

-- none where the first part ended all
abbrev pub part_ahead : Draft → List Out → Option code.Part
part_ahead p outs =
    elim (first_ends (parts_with p.contents p.parts) (answers_of outs)) [
      | Some why ↦ None
      | None ↦ first_of (drop (length outs) p.parts)
    ]
