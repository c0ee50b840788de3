-- What ends a plan shows in the parts of the code as in those of the definitions.
use Rattle.std.proofs.Common.{◌≡◌, Bool, true, false, List, [], ◌∷◌, Option, Some, None, refl, ap}
use Rattle.std.specs.Prelude.{Ok}
use Rattle.kd_types.specs.declared.refusal.Refusal.{Refusal}
use Rattle.kd_acts.specs.State.{Content}
use Rattle.kd_tables.specs.declared.part.Part as code
use Rattle.kd_tables.specs.declared.part.Part.TheVariants as part
use Rattle.kd_tables.specs.declared.part.Out.{Out}
use Rattle.kd_tables.specs.declared.part.Out.TheVariants as out
use Rattle.kd_commands.specs.declared.who.Who.{Who}
use Rattle.kd_tables.specs.Drafts.{Draft, drafted, part_with, parts_with}
use Rattle.kd_commands.specs.Plans.{Plan}
use Rattle.kd_commands.specs.State.{Desk}
use Rattle.kd_tables.specs.Outs.{answers_of, end, ended_on, is_needed, stops}
use Rattle.kd_commands.specs.Step.{ended, ended_by}
use Rattle.kd_commands.specs.Visits.{first_ends, is_must}

needed_alike : (content : Option Content) (p : code.Part) → is_must (part_with content p).act ≡ is_needed p
needed_alike content (part.Raise seat size) = refl
needed_alike content (part.Close seat force) = refl
needed_alike content (part.Offer seat user len from must) = refl
needed_alike content (part.Post seat image) = refl
needed_alike content (part.Drain seat size) = refl
needed_alike content (part.Settle seat) = refl

abbrev why_if : Refusal → Bool → Option Refusal
why_if why b = elim b [ true ↦ Some why | false ↦ None ]

-- by the parts of the definitions, whatever their contents
pub ends_where_it_stops : (contents : List (Option Content)) (ps : List code.Part) (outs : List Out) → first_ends (parts_with contents ps) (answers_of outs) ≡ stops ps outs
unfolding first_ends
ends_where_it_stops [] [] outs = refl
ends_where_it_stops (c ∷ cs) [] outs = refl
ends_where_it_stops [] (p ∷ ps) [] = refl
ends_where_it_stops (c ∷ cs) (p ∷ ps) [] = refl
ends_where_it_stops [] (p ∷ ps) (out.Done ∷ outs) = refl
ends_where_it_stops [] (p ∷ ps) (out.Slice n ∷ outs) = refl
ends_where_it_stops [] (p ∷ ps) (out.Refused why ∷ outs) = ap (why_if why) (needed_alike None p)
ends_where_it_stops (c ∷ cs) (p ∷ ps) (out.Done ∷ outs) = refl
ends_where_it_stops (c ∷ cs) (p ∷ ps) (out.Slice n ∷ outs) = refl
ends_where_it_stops (c ∷ cs) (p ∷ ps) (out.Refused why ∷ outs) = ap (why_if why) (needed_alike c p)

end_alike : (d : Desk) (w : Who) (p : Plan) (o : Option Refusal) → ((ended d w p o).reply ≡ (end d p o).reply) × ((ended d w p o).next ≡ (end d p o).next)
end_alike d w p None = (refl, refl)
end_alike d w p (Some why) = (refl, refl)

-- whoever gave the command, the reply and the desk after it are those of its step
pub ended_alike : (d : Desk) (w : Who) (p : Draft) (outs : List Out) → ((ended_by d w (Ok (drafted d p)) (answers_of outs)).reply ≡ (ended_on d p outs).reply) × ((ended_by d w (Ok (drafted d p)) (answers_of outs)).next ≡ (ended_on d p outs).next)
unfolding ended_on
ended_alike d w p outs = end_alike d w (drafted d p) (first_ends (drafted d p).parts (answers_of outs))
