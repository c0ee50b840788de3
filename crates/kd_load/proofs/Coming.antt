-- The desk's list before any message: the bus begins, and the connections of a load come with their
-- rules.
use Rattle.std.proofs.Common.{◌≡◌, ◌<◌, ◌≤◌, ◌==◌, ◌⊎◌, inl, inr, ℕ, zero, suc, ◌+◌, ◌-◌, Bool, true, false, List, [], ◌∷◌, ◌++◌, refl, ap, sym, subst, ◌∙◌, arith}
use Rattle.std.specs.Prelude.{Ok, Option, None}
use Rattle.std.proofs.lemmas.Bool.{cases_eq}
use Rattle.kd_types.specs.declared.refusal.Refusal.{Refusal}
use Rattle.kd_acts.specs.State.{Answer, Visit, bytes_of, done, drained, freed, gone, got, placed, raise, refused, slice}
use Rattle.kd_commands.specs.State.{Desk, opening_desk, seat_set}
use Rattle.kd_wire.specs.declared.reply.Reply.TheVariants as reply
use Rattle.kd_commands.specs.Plans.{Part, Plan, itself}
use Rattle.kd_commands.specs.Step.{ended, ended_by, parts_in, plan}
use Rattle.kd_commands.specs.Visits.{first_ends, next_part, parts_visited}
use Rattle.kd_commands.specs.declared.who.Who.{Who}
use Rattle.kd_commands.specs.declared.who.WhoKind.TheVariants as who
use Rattle.kd_wire.specs.declared.command.Command.{Command}
use Rattle.kd_histories.specs.Turns.{Left, Started, Turn, started}
use Rattle.kd_histories.specs.Slots.{AreTold, IsLeft, IsTold, Slot, desk_behind, has_bus, left_end, part_behind, planned, slot_after, slot_from, slot_of, unborn}
use Rattle.kd_histories.specs.Visits.{addressed, addressed_by, visits_at}
use Rattle.kd_load.specs.Bus.{AreConnected, AreFilters, IsGiven, conn_at, hello_command, loaded_desk, rule_command, sender_at, user}
use Rattle.kd_load.specs.Laws.{SetUpIsFront}
use Rattle.kd_load.proofs.Front.{hello_planned, joined, rule_planned}
use Rattle.kd_load.proofs.Ranges.{other_number, same_number}

-- a raise ends nothing, and is visited
module _ (seat size : ℕ) where
  abbrev part : Part
  part = record { seat = seat; act = raise size }

  goes_on : (outs : List Answer) → first_ends (part ∷ []) outs ≡ None
  unfolding first_ends
  goes_on [] = refl
  goes_on (done ∷ outs) = refl
  goes_on (placed ∷ outs) = refl
  goes_on (gone ∷ outs) = refl
  goes_on (freed ∷ outs) = refl
  goes_on (slice n ∷ outs) = refl
  goes_on (refused r ∷ outs) = refl
  goes_on (drained is ∷ outs) = refl
  goes_on (got n at len dropped ∷ outs) = refl
  goes_on (bytes_of bytes ∷ outs) = refl

  abbrev Visited : ℕ → List Answer → Type 0
  Visited c outs = let vs = visits_at c (parts_visited [] (part ∷ []) outs) outs in ((seat == c) ≡ true → (o : Answer) × (vs ≡ (raise size, o) ∷ [])) × ((seat == c) ≡ false → vs ≡ [])

  visited : (c : ℕ) (outs : List Answer) → part_behind (part ∷ []) outs ≡ None → Visited c outs
  unfolding visits_at parts_visited first_ends next_part
  visited c [] h = absurd cc
  visited c (o ∷ outs) h = ((λ is. (o, ap at is)), (λ isn't. ap at isn't))
    where
      at : Bool → List (Visit × Answer)
      at b = elim b [ true ↦ (raise size, o) ∷ [] | false ↦ [] ] ++ []

-- whoever gives a command that is planned, where nothing ends at the first part
module _ (s : Slot) (w : Who) (x : Command) (p : Plan) (is : planned s.generation None s.desk w x ≡ Ok p) (e : Turn) (given : IsGiven w x e) where
  it : Left
  it = given.it

  is_planned : planned s.generation it.aim s.desk it.who it.command ≡ Ok p
  unfolding it
  is_planned = (λ t. planned s.generation (given.aim_is t) s.desk (given.who_is t) (given.command_is t)) ∙ is

  next_is : ((outs : List Answer) → first_ends p.parts outs ≡ None) → slot_after e s ≡ record s { desk = p.next }
  unfolding slot_after left_end it
  next_is goes =
      let end : (left_end s given.it).next ≡ p.next = ap (λ r. (ended_by s.desk given.it.who r given.it.outs).next) is_planned ∙ ap (λ (o : Option Refusal). (ended s.desk given.it.who p o).next) (goes given.it.outs) in
      ap (λ (f : Turn). slot_after f s) given.is ∙ (λ t. record s { desk = end t })

  asked : (c : ℕ) → addressed_by c s e ≡ visits_at c (parts_visited [] p.parts it.outs) it.outs
  unfolding addressed_by it
  asked c = ap (λ (f : Turn). addressed_by c s f) given.is ∙ ap (λ r. visits_at c (parts_visited [] (parts_in r) given.it.outs) given.it.outs) is_planned

  none_behind : IsTold s e → part_behind p.parts it.outs ≡ None
  unfolding IsTold it
  none_behind told = let here : IsLeft s given.it = subst (IsTold s) given.is told in
      sym (ap (λ r. part_behind (parts_in r) given.it.outs) is_planned) ∙ here.all

ends_nothing : (outs : List Answer) → first_ends [] outs ≡ None
unfolding first_ends
ends_nothing outs = refl

nothing_visited : (c : ℕ) (outs : List Answer) → visits_at c (parts_visited [] [] outs) outs ≡ []
unfolding visits_at parts_visited
nothing_visited c outs = refl

fresh_planned : (g : ℕ) (d : Desk) → has_bus g ≡ true → planned g None d (record { creds = user; member = who.Fresh }) hello_command ≡ plan d (record { creds = user; member = who.Fresh }) hello_command
unfolding planned
fresh_planned g d bus = rw (bus, planned) refl

conn_planned : (g i : ℕ) (d : Desk) (x : Command) → planned g None d (sender_at i) x ≡ plan d (sender_at i) x
unfolding planned
conn_planned g i d x = refl

module _ (filters : List (List ℕ)) (are : AreFilters filters) where
  -- so many come to a desk that has k
  pub record HaveCome (s : Slot) (k n : ℕ) (entries : List (ℕ × Turn)) : Type 0 where
    pub desk : (slot_from s entries).desk ≡ loaded_desk filters (k + n)
    pub raised : (id : ℕ) → k < id → id ≤ k + n → (o : Answer) × (addressed (id - 1) s entries ≡ (raise 1048576, o) ∷ [])
    pub before : (c : ℕ) → c < k → addressed c s entries ≡ []
    pub past : (c : ℕ) → k + n ≤ c → addressed c s entries ≡ []

  -- one comes with its rule, and others behind it
  module _ (s : Slot) (k n : ℕ) (few : k < 16) (desk : s.desk ≡ loaded_desk filters k) (bus : has_bus s.generation ≡ true) (i j : ℕ) (x y : Turn) (entries : List (ℕ × Turn))
      (hello : IsGiven (record { creds = user; member = who.Fresh }) hello_command x) (rule : IsGiven (sender_at (suc k)) (rule_command filters (suc k)) y) where
    abbrev s' : Slot
    s' = record s { desk = joined filters k (omega arith) }

    abbrev s'' : Slot
    s'' = record s { desk = loaded_desk filters (suc k) }

    abbrev px : Plan
    px = record { parts = record { seat = suc k - 1; act = raise 1048576 } ∷ []; reply = reply.Hello (suc k) 64 8; next = joined filters k (omega arith); becomes = itself (conn_at (suc k)) }

    abbrev py : Plan
    py = record { parts = []; reply = reply.MatchAdd; next = loaded_desk filters (suc k); becomes = itself (conn_at (suc k)) }

    plan_x : planned s.generation None s.desk (record { creds = user; member = who.Fresh }) hello_command ≡ Ok px
    plan_x = (λ t. planned s.generation None (desk t) (record { creds = user; member = who.Fresh }) hello_command) ∙ (fresh_planned s.generation (loaded_desk filters k) bus ∙ hello_planned filters k (omega arith))

    plan_y : planned s'.generation None s'.desk (sender_at (suc k)) (rule_command filters (suc k)) ≡ Ok py
    plan_y = conn_planned s.generation (suc k) s'.desk (rule_command filters (suc k)) ∙ rule_planned filters k (omega arith) (are _ (omega arith)).sized

    told_then : AreTold s ((i, x) ∷ (j, y) ∷ entries) → IsTold s x × IsTold s' y × AreTold s'' entries
    unfolding AreTold
    told_then told =
        let one = next_is s _ hello_command px plan_x x hello (goes_on (suc k - 1) 1048576) in
        let two = next_is s' (sender_at (suc k)) (rule_command filters (suc k)) py plan_y y rule (λ outs. ends_nothing outs) in
        (told.0, subst (λ (t : Slot). IsTold t y) one told.1.0, subst (λ (t : Slot). AreTold t entries) two (subst (λ (t : Slot). AreTold (slot_after y t) entries) one told.1.1))

    slot_then : slot_from s ((i, x) ∷ (j, y) ∷ entries) ≡ slot_from s'' entries
    unfolding slot_from
    slot_then =
        let one = next_is s _ hello_command px plan_x x hello (goes_on (suc k - 1) 1048576) in
        let two = next_is s' (sender_at (suc k)) (rule_command filters (suc k)) py plan_y y rule (λ outs. ends_nothing outs) in
        ap (λ (t : Slot). slot_from (slot_after y t) entries) one ∙ ap (λ (t : Slot). slot_from t entries) two

    addressed_then : (c : ℕ) → IsTold s x → (vs : List (Visit × Answer)) × (addressed c s ((i, x) ∷ (j, y) ∷ entries) ≡ vs ++ addressed c s'' entries)
        × ((k == c) ≡ true → (o : Answer) × (vs ≡ (raise 1048576, o) ∷ [])) × ((k == c) ≡ false → vs ≡ [])
    unfolding addressed
    addressed_then c told =
        let one = next_is s _ hello_command px plan_x x hello (goes_on (suc k - 1) 1048576) in
        let two = next_is s' (sender_at (suc k)) (rule_command filters (suc k)) py plan_y y rule (λ outs. ends_nothing outs) in
        let outs = (it s _ hello_command px plan_x x hello).outs in
        let v = visited (suc k - 1) 1048576 c outs (none_behind s _ hello_command px plan_x x hello told) in
        let seat : suc k - 1 ≡ k = omega arith in
        let here : addressed_by c s' y ≡ [] = asked s' (sender_at (suc k)) (rule_command filters (suc k)) py plan_y y rule c ∙ nothing_visited c _ in (
          _,
          (λ t. asked s _ hello_command px plan_x x hello c t ++ (addressed_by c (one t) y ++ addressed c (slot_after y (one t)) entries))
              ∙ (λ t. visits_at c (parts_visited [] (record { seat = suc k - 1; act = raise 1048576 } ∷ []) outs) outs ++ (here t ++ addressed c (two t) entries)),
          (λ is. v.0 (ap (λ (q : ℕ). q == c) seat ∙ is)),
          (λ isn't. v.1 (ap (λ (q : ℕ). q == c) seat ∙ isn't)),
        )

  have_come : (s : Slot) (k n : ℕ) (entries : List (ℕ × Turn)) → k + n ≤ 16 → s.desk ≡ loaded_desk filters k → has_bus s.generation ≡ true → AreConnected filters (suc k) n entries → AreTold s entries → HaveCome s k n entries
  unfolding slot_from addressed
  have_come s k zero [] few desk bus come told = record {
    desk = desk ∙ ap (loaded_desk filters) (omega arith);
    raised = λ id low high. absurd (omega arith);
    before = λ c low. refl;
    past = λ c high. refl;
  }
  have_come s k zero (x ∷ xs) few desk bus come told = absurd cc
  have_come s k (suc n) [] few desk bus come told = absurd come
  have_come s k (suc n) (x ∷ []) few desk bus come told = absurd come
  have_come s k (suc n) ((i, x) ∷ (j, y) ∷ entries) few desk bus come told =
      let near : k < 16 = omega arith in
      let t = told_then s k n near desk bus i j x y entries come.0 come.1 told in
      let rest = have_come (s'' s k n near desk bus i j x y entries come.0 come.1) (suc k) n entries (omega arith) refl bus come.2 t.2 in
      let at : (c : ℕ) → (vs : List (Visit × Answer)) × (addressed c s ((i, x) ∷ (j, y) ∷ entries) ≡ vs ++ addressed c (s'' s k n near desk bus i j x y entries come.0 come.1) entries)
      × ((k == c) ≡ true → (o : Answer) × (vs ≡ (raise 1048576, o) ∷ [])) × ((k == c) ≡ false → vs ≡ []) = λ c. addressed_then s k n near desk bus i j x y entries come.0 come.1 c t.0 in
      record {
        desk = ap (λ (s : Slot). s.desk) (slot_then s k n near desk bus i j x y entries come.0 come.1) ∙ (rest.desk ∙ ap (loaded_desk filters) (omega arith));
        raised = λ id low high. first (s'' s k n near desk bus i j x y entries come.0 come.1) entries rest.raised rest.before id low (omega arith) _ (at (id - 1)).0 (at (id - 1)).1 (at (id - 1)).2 (at (id - 1)).3 (cases_eq id (suc k));
        before = λ c low. (at c).1 ∙ ((λ t. (at c).3 (other_number k c (λ z. omega arith)) t ++ addressed c (s'' s k n near desk bus i j x y entries come.0 come.1) entries) ∙ rest.before c (omega arith));
        past = λ c high. (at c).1 ∙ ((λ t. (at c).3 (other_number k c (λ z. omega arith)) t ++ addressed c (s'' s k n near desk bus i j x y entries come.0 come.1) entries) ∙ rest.past c (omega arith));
      }
    where
      first : (t : Slot) (es : List (ℕ × Turn)) → ((id : ℕ) → suc k < id → id ≤ suc k + n → (o : Answer) × (addressed (id - 1) t es ≡ (raise 1048576, o) ∷ []))
          → ((c : ℕ) → c < suc k → addressed c t es ≡ []) → (id : ℕ) → k < id → id ≤ suc k + n
          → (all vs : List (Visit × Answer)) → all ≡ vs ++ addressed (id - 1) t es → ((k == id - 1) ≡ true → (o : Answer) × (vs ≡ (raise 1048576, o) ∷ [])) → ((k == id - 1) ≡ false → vs ≡ [])
          → (id ≡ suc k) ⊎ (id ≡ suc k → ⊥) → (o : Answer) × (all ≡ (raise 1048576, o) ∷ [])
      first t es raised before id low high all vs is here else (inl same) =
          let e : k ≡ id - 1 = omega arith in
          let o = here (ap (λ (q : ℕ). k == q) (sym e) ∙ same_number k) in
          (o.0, is ∙ (λ i. o.1 i ++ before (id - 1) (omega arith) i))
      first t es raised before id low high all vs is here else (inr ne) =
          let o = raised id (omega arith) high in
          (o.0, is ∙ (λ i. else (other_number k (id - 1) (λ z. ne (omega arith))) i ++ o.1 i))

begun : (filters : List (List ℕ)) → desk_behind unborn.desk 1000 64 8 ≡ loaded_desk filters 0
unfolding desk_behind opening_desk seat_set loaded_desk
begun filters = refl

nobody_closed : (c : ℕ) (b : Started) → addressed_by c unborn (started b) ≡ []
unfolding addressed_by visits_at opening_desk
nobody_closed c b = refl

pub set_up_is_front : SetUpIsFront
unfolding slot_from addressed AreTold slot_after
set_up_is_front filters n entries few are told set =
    let b : Started = set.bus in
    let s : Slot = record { generation = 1; desk = loaded_desk filters 0 } in
    let after : slot_after (started b) unborn ≡ s = λ t. record {
      generation = 1;
      desk = ((λ i. desk_behind unborn.desk (set.creator i) (set.size i) (set.hashes i)) ∙ begun filters) t;
    } in
    let here : AreTold unborn ((set.pass, started b) ∷ set.rest) = subst (AreTold unborn) set.are told in
    let come = have_come filters are s 0 n set.rest (omega arith) refl refl set.connected (subst (λ (t : Slot). AreTold t set.rest) after here.1) in
    let all : (c : ℕ) → addressed c unborn entries ≡ addressed c s set.rest = λ c.
    ap (addressed c unborn) set.are ∙ (λ t. nobody_closed c b t ++ addressed c (after t) set.rest) in
    record {
      desk = ap (λ (xs : List (ℕ × Turn)). (slot_of xs).desk) set.are ∙ (ap (λ (t : Slot). (slot_from t set.rest).desk) after ∙ (come.desk ∙ ap (loaded_desk filters) (omega arith)));
      raised = λ id some low. let r = come.raised id (omega arith) (omega arith) in (r.0, all (id - 1) ∙ r.1);
      nobody = λ c past. all c ∙ come.past c (omega arith);
    }
