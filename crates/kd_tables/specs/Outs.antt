-- What a plan leaves, by what the pools answered to its visits.
use Rattle.std.specs.Prelude.{Bool, true, false, not, List, ◌∷◌, Option, Some, None, map}
use Rattle.kd_types.specs.declared.refusal.Refusal.{Refusal}
use Rattle.kd_wire.specs.declared.reply.Reply.{Reply}
use Rattle.kd_wire.specs.declared.reply.Reply.TheVariants as reply
use Rattle.kd_acts.specs.State.{Answer, done, slice, refused}
use Rattle.kd_tables.specs.declared.part.Part as code
use Rattle.kd_tables.specs.declared.part.Part.TheVariants as part
use Rattle.kd_tables.specs.declared.part.Out.{Out}
use Rattle.kd_tables.specs.declared.part.Out.TheVariants as out
use Rattle.kd_commands.specs.State.{Desk}
use Rattle.kd_commands.specs.Plans.{Plan}
use Rattle.kd_commands.specs.Visits.{first_ends}
use Rattle.kd_tables.specs.Drafts.{Draft, drafted, parts_with}

-- an answer as the definitions of pools have it
abbrev pub out_answer : Out → Answer
out_answer out.Done = done
out_answer (out.Slice number) = slice number
out_answer (out.Refused why) = refused why

abbrev pub answers_of : List Out → List Answer
answers_of outs = map out_answer outs

-- the refusal that ends all, if the first part had to be done and was refused
abbrev pub why_ended : Draft → List Out → Option Refusal
why_ended p outs = first_ends (parts_with p.contents p.parts) (answers_of outs)

-- the reply to a command, and the desk after it
pub record End : Type 0 where
  pub reply : Reply
  pub next : Desk

-- a refusal that ends all leaves the desk as it was
abbrev pub end : Desk → Plan → Option Refusal → End
end d p (Some why) = record { reply = reply.Refused why; next = d }
end d p None = record { reply = p.reply; next = p.next }

-- a plan of the code, with what its visits were answered
unfoldable pub ended_on : Desk → Draft → List Out → End
ended_on d p outs = end d (drafted d p) (first_ends (drafted d p).parts (answers_of outs))

-- whether a refusal of a part of the code, as the first, ends all
abbrev pub is_needed : code.Part → Bool
is_needed (part.Close seat force) = not force
is_needed (part.Offer seat user len from must) = must
is_needed (part.Drain seat size) = true
is_needed _ = false

-- the refusal that ends all, by the code's own parts
abbrev pub stops : List code.Part → List Out → Option Refusal
stops (p ∷ ps) (out.Refused why ∷ outs) = elim (is_needed p) [ true ↦ Some why | false ↦ None ]
stops _ _ = None
