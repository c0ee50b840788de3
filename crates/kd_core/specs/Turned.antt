-- What the caller is that leaves the desk.
use Rattle.std.specs.Prelude.{List, Some, None}
use Rattle.kd_tables.specs.declared.part.Out.{Out}
use Rattle.kd_commands.specs.declared.who.Who.{Who}
use Rattle.kd_commands.specs.declared.who.WhoKind.{WhoKind}
use Rattle.kd_commands.specs.State.{Desk}
use Rattle.kd_commands.specs.Visits.{first_ends}
use Rattle.kd_tables.specs.Drafts.{Draft, parts_with}
use Rattle.kd_tables.specs.Outs.{answers_of}
use Rattle.kd_world.specs.State.{Caller}
use Rattle.kd_world.specs.Callers.{hand_after, kind_after}

-- after a refusal that ended all, what it was
abbrev pub becomes : Draft → WhoKind → List Out → WhoKind
becomes p was outs =
    elim (first_ends (parts_with p.contents p.parts) (answers_of outs)) [
      | Some why ↦ was
      | None ↦ p.after
    ]

-- a caller that is somebody else, by the desk then
abbrev pub turned : Desk → Who → Caller → Caller
turned d who c = record c {
  who = who;
  kind = kind_after d who.member c.kind;
  hand = hand_after who.member c.hand;
}
