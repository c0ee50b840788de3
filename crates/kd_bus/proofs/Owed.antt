-- What a pass has yet to publish, through a visit of its own.
use Rattle.std.specs.Prelude.{◌≡◌, ℕ, suc, ◌==◌, ◌&&◌, Bool, true, false, cond, List, [], ◌∷◌, ◌++◌, Option, Some, None, refl}
use Rattle.std.proofs.Common.{sym, ap, ◌∙◌, subst, arith, eq-eqb, ne_eqb}
use mathlib.Core.Logic.{dite}
use native.Mathlib.Decide.{ℕ_discrete}
use Rattle.std.specs.List.{AllByRecursion}
use Rattle.kd_hands.specs.declared.views.Part as seen
use Rattle.kd_hands.specs.declared.views.View.{View}
use Rattle.kd_hands.specs.Views.{part}
use Rattle.kd_commands.specs.Plans.{Part}
use Rattle.kd_world.specs.State.{Pending}
use Rattle.kd_bus.specs.Turned as turned
use Rattle.kd_bus.specs.Visited.{AreVisits, OneVisit, pending_by, pendings_by}
use Rattle.kd_acts.specs.State.{Answer, Content, Hold, Visit, by_desk, bytes_of, close, done, drain, drained, free, freed, gone, got, offer, placed, post, raise, refused, settle, slice}
use Rattle.kd_acts.specs.Steps.{after, answer}
use Rattle.kd_acts.specs.Lasting.{AreNumbered}
use Rattle.kd_acts.proofs.Lasting.{numbers_stay}
use Rattle.kd_acts.proofs.Reserved.{IsOwed, generation_stays, owed_begins, owed_stays}
use Rattle.kd_hands.specs.Lists.{made_by}
use Rattle.kd_world.specs.State.{closed_pool}
use Rattle.kd_histories.specs.Turns.{Did, Turn, did}
use Rattle.kd_histories.specs.Pools.{AreDone, IsAnswered, IsDone, hold_freed, hold_met, hold_of}
use Rattle.kd_histories.specs.Pairs.{ArePaired, owed, owed_by, owed_by_act, owed_by_visit, owed_from}
use Rattle.kd_histories.proofs.Holds.{numbered}
use Rattle.kd_histories.proofs.Owing.{owed_stands}

pub owed_snoc : (g n : ℕ) (k : Option Content) (xs : List (ℕ × Turn)) (x : ℕ × Turn) → owed_from g n k (xs ++ x ∷ []) ≡ owed_by g n x.1 (owed_from g n k xs)
unfolding owed_from
owed_snoc g n k [] x = refl
owed_snoc g n k (y ∷ ys) x = owed_snoc g n (owed_by g n y.1 k) ys x

freed_generation : (ns : List ℕ) (h : Hold) → (hold_freed ns h).generation ≡ h.generation
unfolding hold_freed
freed_generation [] h = refl
freed_generation (n ∷ ns) h = freed_generation ns (after h (free n)) ∙ generation_stays h (free n) refl

freed_owed : (ns : List ℕ) (h : Hold) (g n len : ℕ) → AreNumbered h.pool → IsOwed g n len h → IsOwed g n len (hold_freed ns h)
unfolding hold_freed
freed_owed [] h g n len d w = w
freed_owed (m ∷ ns) h g n len d w = freed_owed ns (after h (free m)) g n len (numbers_stay h (free m) d) (owed_stays h (free m) g n len d refl w)

-- a slice that is reserved isn't given to another offer
module _ (j g n : ℕ) (c : Content) (d : Did) (list own : List (ℕ × Turn)) (all : AreDone closed_pool list) (pairs : ArePaired n None list) (mine : made_by j list ≡ own) (is : IsDone (hold_of list) d)
    (has : owed g n own ≡ Some c) where
  abbrev h : Hold
  h = hold_of list

  again : (user len source m : ℕ) (must : Bool) (x : Content) → answer (hold_met d h) (by_desk (offer user len source must x)) ≡ slice m → m ≡ n → d.generation ≡ g → ⊥
  again user len source m must x told same here =
      let s = owed_stands j g n c list own all pairs mine has in
      let begins = owed_begins (hold_met d h) user len source m must x told in
      let gen : g ≡ (hold_met d h).generation = sym here ∙ (is.generation ∙ sym (freed_generation d.freed h)) in
      begins.1 s.size (subst (λ y. IsOwed y m s.size (hold_met d h)) gen (subst (λ y. IsOwed g y s.size (hold_met d h)) (sym same) (freed_owed d.freed h g n s.size (numbered list) s.there)))

  by_visit : (v : Visit) (o : Answer) → answer (hold_met d h) (by_desk v) ≡ o → owed_by_visit g n d.generation v o (Some c) ≡ Some c
  by_visit (offer user len source must x) (slice m) e = dite (ℕ_discrete m n)
      (λ same. dite (ℕ_discrete d.generation g)
      (λ here. absurd (again user len source m must x e same here))
      (λ else. ap (λ b. cond (m == n && b) (Some x) (Some c)) (ne_eqb d.generation g else) ∙ none (m == n)))
      (λ apart. ap (λ b. cond (b && d.generation == g) (Some x) (Some c)) (ne_eqb m n apart))
    where
      none : (b : Bool) → cond (b && false) (Some x) (Some c) ≡ Some c
      none true = refl
      none false = refl
  by_visit (offer user len source must x) done e = refl
  by_visit (offer user len source must x) placed e = refl
  by_visit (offer user len source must x) gone e = refl
  by_visit (offer user len source must x) freed e = refl
  by_visit (offer user len source must x) (refused why) e = refl
  by_visit (offer user len source must x) (drained images) e = refl
  by_visit (offer user len source must x) (got m offset bytes dropped) e = refl
  by_visit (offer user len source must x) (bytes_of bytes) e = refl
  by_visit (raise size) o e = refl
  by_visit (close force) o e = refl
  by_visit (post image) o e = refl
  by_visit drain o e = refl
  by_visit (settle images) o e = refl

  pub still_owed : (v : Visit) → d.act ≡ by_desk v → owed g n (own ++ (j, did d) ∷ []) ≡ Some c
  unfolding owed_by
  still_owed v act =
      let told : IsAnswered (hold_met d h) (by_desk v) d.answer = subst (λ a. IsAnswered (hold_met d h) a d.answer) act is.answer in
      owed_snoc g n None own (j, did d) ∙ (ap (λ k. owed_by_act g n d.generation d.act d.answer k) has ∙ (ap (λ a. owed_by_act g n d.generation a d.answer (Some c)) act ∙ by_visit v d.answer (sym told)))

-- ---- through the visits of a plan

owed_on : (s : ℕ) (vis : Visit) (d : Did) (v w : View Turn) (p : Pending) → OneVisit s vis d v w → turned.IsOwed v p → turned.IsOwed w p
owed_on s vis d v w p one o = record {
  low = o.low;
  owed_is = dite (ℕ_discrete p.seat s)
      (λ z. subst (λ (k : ℕ). owed p.generation p.number (part w (suc k)).own ≡ Some p.content) (sym z) (one.owes p.generation p.number p.content (subst (λ (k : ℕ). owed p.generation p.number (part v (suc k)).own ≡ Some p.content) z o.owed_is)))
      (λ ne. ap (λ (q : seen.Part Turn). owed p.generation p.number q.own) (one.others (suc p.seat) (λ z. ne (omega arith))) ∙ o.owed_is);
}

pub owed_through : (qs : List Part) (ds : List Did) (v w : View Turn) (p : Pending) → AreVisits qs ds v w → turned.IsOwed v p → turned.IsOwed w p
owed_through [] [] v w p e o = subst (λ (x : View Turn). turned.IsOwed x p) (sym e) o
owed_through (q ∷ qs) [] v w p e o = absurd e
owed_through [] (d ∷ ds) v w p e o = absurd e
owed_through (q ∷ qs) (d ∷ ds) v w p e o = owed_through qs ds e.0 w p e.2 (owed_on q.seat q.act d v e.0 p e.1 o)

placed_here : (s : ℕ) (vis : Visit) (d : Did) (v w : View Turn) (user len source n : ℕ) (must : Bool) (c : Content) → OneVisit s vis d v w → vis ≡ offer user len source must c → d.answer ≡ slice n
    → turned.IsOwed w (record { seat = s; generation = d.generation; number = n; content = c })
unfolding owed_by
placed_here s vis d v w user len source n must c one is told = record {
  low = one.low;
  owed_is = ap (owed d.generation n) one.own ∙ (owed_snoc d.generation n None (part v (suc s)).own (v.name, did d)
      ∙ (ap (λ a. owed_by_act d.generation n d.generation a d.answer was) (one.act ∙ ap (λ x. by_desk x) is)
      ∙ (ap (λ a. owed_by_visit d.generation n d.generation (offer user len source must c) a was) told
      ∙ (ap (λ b. cond (b && d.generation == d.generation) (Some c) was) (eq-eqb n n refl) ∙ ap (λ b. cond b (Some c) was) (eq-eqb d.generation d.generation refl)))));
}
  where
    was : Option Content
    was = owed d.generation n (part v (suc s)).own

all_append : (P : Pending → Type 0) (xs ys : List Pending) → AllByRecursion P xs → AllByRecursion P ys → AllByRecursion P (xs ++ ys)
all_append P [] ys a b = b
all_append P (x ∷ xs) ys a b = (a.0, all_append P xs ys a.1 b)

pub all_owed : (qs : List Part) (ds : List Did) (v w : View Turn) → AreVisits qs ds v w → AllByRecursion (turned.IsOwed w) (pendings_by qs ds)
all_owed [] [] v w e = tt
all_owed (q ∷ qs) [] v w e = absurd e
all_owed [] (d ∷ ds) v w e = absurd e
all_owed (q ∷ qs) (d ∷ ds) v w e = all_append (turned.IsOwed w) (pending_by q.seat (by_desk q.act) d.answer d.generation) (pendings_by qs ds) (here q.act d.answer refl refl) (all_owed qs ds e.0 w e.2)
  where
    here : (vis : Visit) (o : Answer) → q.act ≡ vis → d.answer ≡ o → AllByRecursion (turned.IsOwed w) (pending_by q.seat (by_desk vis) o d.generation)
    here (offer user len source must c) (slice n) is told =
        (owed_through qs ds e.0 w (record { seat = q.seat; generation = d.generation; number = n; content = c }) e.2 (placed_here q.seat q.act d v e.0 user len source n must c e.1 is told), tt)
    here (offer user len source must c) done is told = tt
    here (offer user len source must c) placed is told = tt
    here (offer user len source must c) gone is told = tt
    here (offer user len source must c) freed is told = tt
    here (offer user len source must c) (refused why) is told = tt
    here (offer user len source must c) (drained images) is told = tt
    here (offer user len source must c) (got m offset bytes dropped) is told = tt
    here (offer user len source must c) (bytes_of bytes) is told = tt
    here (raise size) o is told = tt
    here (close force) o is told = tt
    here (post image) o is told = tt
    here drain o is told = tt
    here (settle images) o is told = tt
