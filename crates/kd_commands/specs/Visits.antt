-- The visits of a plan: each part as its pool meets it, and which answer ends all.
use Rattle.std.specs.Prelude.{Bool, true, false, not, List, [], ◌∷◌, ◌++◌, Option, Some, None}
use Rattle.kd_types.specs.declared.refusal.Refusal.{Refusal}
use Rattle.kd_acts.specs.State.{Visit, Answer, Image, offer, close, drain, settle, drained, refused}
use Rattle.kd_commands.specs.Plans.{Part}

-- what a drain gave
abbrev pub images_in : Answer → List Image
images_in (drained is) = is
images_in _ = []

-- a settle places what was drained before it
abbrev pub with_images : List Image → Visit → Visit
with_images is (settle old) = settle is
with_images is v = v

-- a part as its pool meets it
abbrev pub met : List Image → Part → Part
met is p = record p { act = with_images is p.act }

-- the parts that have answers, each with what was drained before it
unfoldable pub parts_visited : List Image → List Part → List Answer → List Part
parts_visited is [] outs = []
parts_visited is (p ∷ ps) [] = []
parts_visited is (p ∷ ps) (o ∷ outs) = met is p ∷ parts_visited (is ++ images_in o) ps outs

-- the part behind those that have answers
unfoldable pub next_part : List Image → List Part → List Answer → Option Part
next_part is [] outs = None
next_part is (p ∷ ps) [] = Some (met is p)
next_part is (p ∷ ps) (o ∷ outs) = next_part (is ++ images_in o) ps outs

-- whether a refusal of this part, as the first, ends all
abbrev pub is_must : Visit → Bool
is_must drain = true
is_must (close force) = not force
is_must (offer user len source must content) = must
is_must _ = false

-- why all ends at the first part, if it does
unfoldable pub first_ends : List Part → List Answer → Option Refusal
first_ends (p ∷ ps) (refused r ∷ outs) = elim (is_must p.act) [ true ↦ Some r | false ↦ None ]
first_ends _ _ = None
