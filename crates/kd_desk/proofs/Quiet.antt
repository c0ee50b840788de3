-- Plans that visit nobody.
use Rattle.std.specs.Prelude.{◌≡◌, Bool, true, false, List, [], ◌∷◌, Option, Some, None, Result, Ok, Err, refl}
use Rattle.std.proofs.Common.{ap, sym, ◌∙◌}
use Rattle.std.specs.List.{AllByRecursion}
use Rattle.kd_model.specs.Words.{first_that_holds}
use Rattle.kd_types.specs.declared.refusal.Refusal.{Refusal}
use Rattle.kd_wire.specs.declared.reply.Reply.{Reply}
use Rattle.kd_match.specs.Rules.{result_of}
use Rattle.kd_commands.specs.declared.conn.Conn.{Conn}
use Rattle.kd_commands.specs.declared.who.WhoKind.{WhoKind}
use Rattle.kd_commands.specs.State.{Desk}
use Rattle.kd_commands.specs.Plans.{Plan, itself, quiet, unless}
use Rattle.kd_tables.specs.declared.change.Change.{Change}
use Rattle.kd_tables.specs.Drafts.{Fits, PlanResult, applied, drafted, quiet_draft}
use Rattle.kd_tables.proofs.Visits.{nothing_offered}

-- the plan of a change that fits, and of no visit
pub quiet_planned : (d : Desk) (c : Conn) (r : Reply) (x : Change) (wanted : Result Plan Refusal) → Fits d x → wanted ≡ Ok (quiet c r (applied x d)) → PlanResult d wanted (Ok (quiet_draft r x (itself c)))
unfolding drafted
quiet_planned d c r x wanted fits e = (e, fits, tt, nothing_offered)

-- the same of any caller
pub quietly_planned : (d : Desk) (w : WhoKind) (r : Reply) (x : Change) (wanted : Result Plan Refusal) → Fits d x → wanted ≡ Ok (record { parts = []; reply = r; next = applied x d; becomes = w }) → PlanResult d wanted (Ok (quiet_draft r x w))
unfolding drafted
quietly_planned d w r x wanted fits e = (e, fits, tt, nothing_offered)

-- by what a part of the desk answers
abbrev answered : {X : Type 0} → Result X Refusal → Plan → Result Plan Refusal
answered o p = elim o [ Err r ↦ Err r | Ok y ↦ Ok p ]

pub by_answer : {X : Type 0} (o : Result X Refusal) (p : Plan) (x : X) → Ok x ≡ o → answered o p ≡ Ok p
by_answer (Ok y) p x e = refl
by_answer (Err r) p x e = absurd cc

pub by_refusal : {X : Type 0} (o : Result X Refusal) (p : Plan) (why : Refusal) → Err why ≡ o → answered o p ≡ Err why
by_refusal (Ok y) p why e = absurd cc
by_refusal (Err r) p why e = let is : why ≡ r = cc in ap Err (sym is)

-- or by the refusal that it has
pub not_refused : (o : Option Refusal) → Ok tt ≡ result_of o → o ≡ None
not_refused None e = refl
not_refused (Some r) e = absurd cc

pub refused_by : (o : Option Refusal) (why : Refusal) → Err why ≡ result_of o → o ≡ Some why
refused_by None why e = absurd cc
refused_by (Some r) why e = let is : why ≡ r = cc in ap Some (sym is)

-- ---- tests in their order

-- where none of some tests holds, each fails
pub all_fail : {X : Type 0} (ts : List (Bool × X)) → first_that_holds ts ≡ None → AllByRecursion (λ (t : Bool × X). t.0 ≡ false) ts
all_fail [] e = tt
all_fail ((true, x) ∷ ts) e = absurd cc
all_fail ((false, x) ∷ ts) e = (refl, all_fail ts e)

-- the refusal or the plan, by what a judge says of the same tests
pub unless_why : (o : Option Refusal) (ts : List (Bool × Refusal)) (p : Plan) (why : Refusal) → first_that_holds ts ≡ o → o ≡ Some why → unless ts p ≡ Err why
unless_why o ts p why e f = ap (λ x. elim x [ Some r ↦ Err r | None ↦ Ok p ]) (e ∙ f)

pub unless_none : (ts : List (Bool × Refusal)) (p : Plan) → first_that_holds ts ≡ None → unless ts p ≡ Ok p
unless_none ts p e = ap (λ x. elim x [ Some r ↦ Err r | None ↦ Ok p ]) e

abbrev pub by_judge : {X : Type 0} → Option Refusal → X → Result X Refusal
by_judge o x = elim o [ Some r ↦ Err r | None ↦ Ok x ]

pub judged_err : {X : Type 0} (o : Option Refusal) (x : X) (why : Refusal) → Err why ≡ by_judge o x → o ≡ Some why
judged_err None x why e = absurd cc
judged_err (Some r) x why e = let is : why ≡ r = cc in ap Some (sym is)

pub judged_ok : {X : Type 0} (o : Option Refusal) (x y : X) → Ok y ≡ by_judge o x → (o ≡ None) × (y ≡ x)
judged_ok None x y e = (refl, cc)
judged_ok (Some r) x y e = absurd cc

-- a test that fails leaves those behind it
pub skip : {X : Type 0} (a : Bool) (x : X) (ts : List (Bool × X)) → a ≡ false → first_that_holds ((a, x) ∷ ts) ≡ first_that_holds ts
skip false x ts e = refl
skip true x ts e = absurd cc
