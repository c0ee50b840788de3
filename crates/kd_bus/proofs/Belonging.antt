-- A member stays its pass's through a command.
use Rattle.std.specs.Prelude.{◌≡◌, ◌≢◌, ◌<◌, ◌+◌, ◌≤◌, ◌^◌, ℕ, zero, suc, ◌==◌, Bool, true, false, cond, List, [], get_or, length, replicate, slice_index_or, Option, Some, None, option_map, refl, Result, Ok, Err, IfOk, OnErr}
use Rattle.std.proofs.Common.{sym, ap, ◌∙◌, subst, arith, eq-eqb, eqb-true}
use Rattle.std.proofs.lemmas.Bool.{false≢true}
use Rattle.kd_model.proofs.Truth.{no_some, same_some}
use Rattle.kd_types.specs.declared.refusal.Refusal.{Refusal}
use Rattle.kd_types.specs.declared.refusal.Refusal.TheVariants.{OutOfMemory}
use Rattle.kd_wire.specs.declared.reply.Reply.TheVariants as reply
use Rattle.kd_types.specs.declared.creds.Kind.{Kind}
use Rattle.kd_types.specs.declared.creds.Creds.{Creds}
use Rattle.kd_wire.specs.declared.command.Command.{Command}
use Rattle.kd_wire.specs.declared.reply.Reply.{Reply}
use Rattle.kd_commands.specs.declared.who.Who.{Who}
use Rattle.kd_commands.specs.declared.who.WhoKind.{WhoKind}
use Rattle.kd_commands.specs.declared.who.WhoKind.TheVariants as who
use Rattle.kd_hands.specs.declared.views.Part as seen
use Rattle.kd_hands.specs.declared.views.View.{View}
use Rattle.kd_hands.specs.Lists.{hand_has, is_at}
use Rattle.kd_hands.specs.Views.{part, hand}
use Rattle.kd_hands.specs.Fits.{Stood}
use Rattle.kd_world.specs.Hands.{empty_hand}
use Rattle.kd_world.specs.State.{Pending}
use Rattle.kd_commands.specs.Plans.{Part}
use Rattle.kd_histories.specs.Turns.{Did, Left, Turn, idle, left, started}
use Rattle.kd_histories.specs.Slots.{AreTold, IsLeft, IsTold, Slot, slot_of, unborn}
use Rattle.kd_histories.specs.Visits.{addressed}
use Rattle.kd_histories.specs.Seats.{AreFair, IsAt, IsFair, IsOpenTo, Sitter, arrives, keeper, move_of, moved, sitter, sitter_after, stays}
use Rattle.kd_histories.specs.Lent.{emptied_by}
use Rattle.kd_histories.specs.Known.{Knows, open_by}
use Rattle.kd_histories.specs.Puts.{BusFact, IsOwn}
use Rattle.kd_histories.proofs.Snocs.{sitter_snoc}
use Rattle.kd_histories.proofs.Knowing.{arrives_free, knows_after, lists_know}
use Rattle.kd_histories.proofs.Numbers.{ids_are_few}
use Rattle.kd_bus.specs.declared.conn.Conn.{Conn}
use Rattle.kd_bus.specs.declared.member.Member.{Member}
use Rattle.kd_bus.specs.declared.member.Member.TheVariants as member
use Rattle.kd_bus.specs.declared.locked.Locked.{Locked}
use Rattle.kd_bus.specs.declared.locked.Locked.TheVariants as locked
use Rattle.kd_bus.specs.Leaving.{IsOutcome, Leaves, LeavesDesk, TakesDesk, aim_left, left_as, parts_met}
use Rattle.kd_bus.specs.Visited.{MadeVisits, answers_in}
use Rattle.kd_bus.proofs.Alone.{TookIt}
use Rattle.std.specs.declared.alloc.AllocError.{AllocError}
use Rattle.kd_bus.specs.Begins.{Starts, shut_below}
use Rattle.kd_bus.specs.Commands.{Commands, Runs, WantsMemory}
use Rattle.kd_bus.specs.Sight.{BusSight}
use Rattle.kd_bus.specs.declared.leaving.Outcome.{Outcome}
use Rattle.kd_bus.specs.Members.{MemberBelongs, is_conn, kind_made, member_after, newly, who_of}
use Rattle.kd_bus.specs.Turned.{Belongs, is_kept}

-- ---- a member at its desk

eqb_not : (a b : ℕ) → (a == b) ≡ false → a ≢ b
eqb_not a b e z = false≢true (sym e ∙ eq-eqb a b z)

-- its connection is its pass's by the pass's own entries, at this bus or another
pub member_is_own : (g : ℕ) (m : Member) (v : View Turn) → MemberBelongs v m → IsOwn (part v 0).own g (who_of g m).member
member_is_own g (member.Fresh creds) v b = tt
member_is_own g (member.Maker m) v b = tt
member_is_own g (member.Keeper k) v b = go (k.generation == g)
  where
    go : (t : Bool) → IsOwn (part v 0).own g (elim t [ true ↦ who.Keeper k.endpoint | false ↦ who.Old None ])
    go true = tt
    go false = tt
member_is_own g (member.Conn c) v b = go (c.generation == g) refl
  where
    go : (t : Bool) → (c.generation == g) ≡ t → IsOwn (part v 0).own g (elim t [ true ↦ who.Conn c.id c.seat | false ↦ who.Old (Some c.seat) ])
    go true e = subst (λ (n : ℕ). IsOwn (part v 0).own n (who.Conn c.id c.seat)) (eqb-true c.generation g e) b.own
    go false e = (record { pass = b.own.0; generation = c.generation; id = c.id }, b.own.1, eqb_not c.generation g e)

-- what becomes of whoever stays what it was
pub member_same : (g : ℕ) (k : Kind) (m : Member) → member_after g k (who_of g m).member m ≡ m
member_same g k (member.Fresh creds) = refl
member_same g k (member.Maker m) = refl
member_same g k (member.Keeper m) = go (m.generation == g)
  where
    go : (t : Bool) → member_after g k (elim t [ true ↦ who.Keeper m.endpoint | false ↦ who.Old None ]) (member.Keeper m) ≡ member.Keeper m
    go true = refl
    go false = refl
member_same g k (member.Conn c) = go (c.generation == g)
  where
    go : (t : Bool) → member_after g k (elim t [ true ↦ who.Conn c.id c.seat | false ↦ who.Old (Some c.seat) ]) (member.Conn c) ≡ member.Conn c
    go true = refl
    go false = refl

-- ---- taking the desk

pub taken_belongs : (m : Member) (v v' : View Turn) → TakesDesk v v' → MemberBelongs v m → MemberBelongs v' m
taken_belongs (member.Fresh creds) v v' t b = tt
taken_belongs (member.Keeper k) v v' t b = tt
taken_belongs (member.Maker k) v v' t b = tt
taken_belongs (member.Conn c) v v' t b = record {
  low = b.low;
  sized = b.sized;
  own = subst (λ xs. IsOwn xs c.generation (who.Conn c.id c.seat)) (sym t.own) b.own;
  kept = λ n. ap (hand_has n) (t.hands (suc c.seat)) ∙ b.kept n;
}

-- ---- leaving it

-- the pass's own entries, with one more
own_follows : (c : ℕ) (e : Turn) (v v' : View Turn) → LeavesDesk e v v' → sitter c (part v' 0).own ≡ sitter_after c v.name (move_of e) (sitter c (part v 0).own)
own_follows c e v v' l = ap (sitter c) l.own ∙ sitter_snoc c None (part v 0).own (v.name, e)

-- where nobody moved, a connection stays its pass's
conn_stays : (c : Conn) (e : Turn) (v v' : View Turn) → move_of e ≡ stays → LeavesDesk e v v' → Belongs v c → Belongs v' c
conn_stays c e v v' still l b = record {
  low = b.low;
  sized = b.sized;
  own = (b.own.0, own_follows c.seat e v v' l ∙ (ap (λ m. sitter_after c.seat v.name m (sitter c.seat (part v 0).own)) still ∙ b.own.1));
  kept = λ n. ap (hand_has n) (l.hands c.seat ∙ ap (λ m. elim (is_at (suc c.seat) (emptied_by m)) as (λ b. List ℕ) [ true ↦ [] | false ↦ hand v (suc c.seat) ]) still) ∙ b.kept n;
}

pub idle_belongs : (m : Member) (v v' : View Turn) → LeavesDesk idle v v' → MemberBelongs v m → MemberBelongs v' m
unfolding move_of
idle_belongs (member.Fresh creds) v v' l b = tt
idle_belongs (member.Keeper k) v v' l b = tt
idle_belongs (member.Maker k) v v' l b = tt
idle_belongs (member.Conn c) v v' l b = conn_stays c idle v v' refl l b

-- ---- a newcomer

none_told : (k n : ℕ) → is_kept (get_or (replicate k None) n None) ≡ false
none_told zero n = refl
none_told (suc k) zero = refl
none_told (suc k) (suc n) = none_told k n

module _ (v : View Turn) (l : Left) (desk : (part v 0).holds ≡ true) (stood : Stood BusFact v) (is : IsLeft (slot_of (part v 0).seen) l) (fresh : l.who.member ≡ who.Fresh) (id s : ℕ) (now : l.becomes ≡ who.Conn id s) where
  abbrev list : List (ℕ × Turn)
  list = (part v 0).seen

  whole : list ≡ stood.world.told.lists 0
  whole = stood.fits.whole 0 desk

  know : Knows (slot_of list) (λ c. sitter c list) (λ c. open_by (addressed c unborn list) false)
  know = lists_know list (subst (AreTold unborn) (sym whole) stood.holds.0.told) (subst (λ xs. (c : ℕ) → AreFair c None xs) (sym whole) stood.holds.0.fair)

  at : (c : ℕ) → IsAt c l.generation v.name l.who.member (sitter c list)
  at c = subst (λ m. IsAt c l.generation v.name m (sitter c list)) (sym fresh) tt

  moves : moved l.generation l.who.member l.becomes ≡ arrives l.generation id s
  moves = ap (λ m. moved l.generation m l.becomes) fresh ∙ ap (λ b. moved l.generation who.Fresh b) now

  pub nobody : sitter s list ≡ None
  nobody = arrives_free (slot_of list) (λ c. sitter c list) (λ c. open_by (addressed c unborn list) false) v.name l know is at l.generation id s moves

  fair : (c : ℕ) → IsFair c v.name (left l) (sitter c list)
  unfolding IsFair
  fair c = (at c, subst (λ m. IsOpenTo c m (sitter c list)) (sym moves) (λ t. ap (λ (i : ℕ). sitter i list) (sym (eqb-true s c t)) ∙ nobody))

  sits_then : sitter_after s v.name (move_of (left l)) (sitter s list) ≡ Some (record { pass = v.name; generation = l.generation; id = id })
  unfolding move_of
  sits_then = ap (λ m. sitter_after s v.name m (sitter s list)) moves ∙ ap (λ b. cond b (Some (record { pass = v.name; generation = l.generation; id = id })) (sitter s list)) (eq-eqb s s refl)

  pub low : s < 64
  unfolding IsTold
  low =
      let then = knows_after (slot_of list) (λ c. sitter c list) (λ c. open_by (addressed c unborn list) false) v.name (left l) know is fair in
      (then.placed s (record { pass = v.name; generation = l.generation; id = id }) sits_then).low

  -- who had the seat before has nothing of its pool in hand
  pub bare : (n : ℕ) → hand_has n (hand v (suc s)) ≡ false
  unfolding keeper
  bare n = go (hand_has n (hand v (suc s))) refl
    where
      go : (b : Bool) → hand_has n (hand v (suc s)) ≡ b → b ≡ false
      go false e = refl
      go true e =
          let kept : keeper (suc s) (stood.world.told.lists 0) ≡ Some v.name = stood.holds.1.kept v.name (suc s) n (ap (hand_has n) (sym (stood.fits.hands (suc s))) ∙ e) in
          let none : keeper (suc s) (stood.world.told.lists 0) ≡ None = ap (option_map (λ (t : Sitter). t.pass)) (ap (sitter s) (sym whole) ∙ nobody) in
          absurd (no_some (sym none ∙ kept))

  pub arrived : (k : Kind) (creds : Creds) (w v' : View Turn) → ((c : ℕ) → hand w c ≡ hand v c) → LeavesDesk (left l) w v'
      → Belongs v' (record { creds = creds; id = id; seat = s; slot = 0; generation = l.generation; kind = k; hand = empty_hand })
  unfolding move_of
  arrived k creds w v' hands out = record {
    low = low;
    sized = refl;
    own = (
      w.name,
      own_follows s (left l) w v' out ∙ (ap (λ m. sitter_after s w.name m (sitter s (part w 0).own)) moves
          ∙ ap (λ b. cond b (Some (record { pass = w.name; generation = l.generation; id = id })) (sitter s (part w 0).own)) (eq-eqb s s refl)),
    );
    kept = λ n. ap (hand_has n) (out.hands s ∙ (ap (λ m. elim (is_at (suc s) (emptied_by m)) as (λ b. List ℕ) [ true ↦ [] | false ↦ hand w (suc s) ]) moves ∙ hands (suc s)))
        ∙ (bare n ∙ sym (none_told 256 n));
  }

-- ---- all members

-- a connection stays where it is, or leaves its seat
conn_after : (g : ℕ) (c : Conn) (l : Left) (k : Kind) (w v' : View Turn) → Belongs w c → l.who ≡ who_of g (member.Conn c) → LeavesDesk (left l) w v' → MemberBelongs v' (member_after g k l.becomes (member.Conn c))
unfolding move_of
conn_after g c l k w v' b caller out = go l.becomes refl
  where
    still : (m b : WhoKind) → m ≡ (who_of g (member.Conn c)).member → is_conn b ≡ true → moved l.generation m b ≡ stays
    still m b e conn = ap (λ z. moved l.generation z b) e ∙ by (c.generation == g) b conn
      where
        by : (t : Bool) (b : WhoKind) → is_conn b ≡ true → moved l.generation (elim t [ true ↦ who.Conn c.id c.seat | false ↦ who.Old (Some c.seat) ]) b ≡ stays
        by true (who.Conn id s) q = refl
        by true (who.Old s) q = refl
        by true who.Fresh q = absurd cc
        by true (who.Keeper e) q = absurd cc
        by false (who.Conn id s) q = refl
        by false (who.Old s) q = refl
        by false who.Fresh q = absurd cc
        by false (who.Keeper e) q = absurd cc

    stayed : is_conn l.becomes ≡ true → Belongs v' c
    stayed conn = conn_stays c (left l) w v' (still l.who.member l.becomes (ap (λ (z : Who). z.member) caller) conn) out b

    go : (b : WhoKind) → l.becomes ≡ b → MemberBelongs v' (member_after g k b (member.Conn c))
    go (who.Conn id s) e = stayed (ap is_conn e)
    go (who.Old s) e = stayed (ap is_conn e)
    go who.Fresh e = tt
    go (who.Keeper n) e = tt

pub after_belongs : (g : ℕ) (m : Member) (k : Kind) (l : Left) (v w v' : View Turn) → (part v 0).holds ≡ true → Stood BusFact v → IsLeft (slot_of (part v 0).seen) l → l.who ≡ who_of g m → l.generation ≡ g
    → MemberBelongs w m → ((c : ℕ) → hand w c ≡ hand v c) → LeavesDesk (left l) w v' → MemberBelongs v' (member_after g k l.becomes m)
after_belongs g (member.Conn c) k l v w v' desk stood is caller gen b hands out = conn_after g c l k w v' b caller out
after_belongs g (member.Fresh creds) k l v w v' desk stood is caller gen b hands out = go l.becomes refl
  where
    go : (b : WhoKind) → l.becomes ≡ b → MemberBelongs v' (newly g k creds b)
    go (who.Conn id s) e = subst (λ (n : ℕ). MemberBelongs v' (newly n k creds (who.Conn id s))) gen
        (arrived v l desk stood is (ap (λ (z : Who). z.member) caller) id s e k creds w v' hands out)
    go (who.Keeper n) e = tt
    go who.Fresh e = tt
    go (who.Old s) e = tt
after_belongs g (member.Keeper m) k l v w v' desk stood is caller gen b hands out = go l.becomes
  where
    go : (b : WhoKind) → MemberBelongs v' (member_after g k b (member.Keeper m))
    go (who.Conn id s) = tt
    go (who.Keeper n) = tt
    go who.Fresh = tt
    go (who.Old s) = tt
after_belongs g (member.Maker m) k l v w v' desk stood is caller gen b hands out = go l.becomes
  where
    go : (b : WhoKind) → MemberBelongs v' (member_after g k b (member.Maker m))
    go (who.Conn id s) = tt
    go (who.Keeper n) = tt
    go who.Fresh = tt
    go (who.Old s) = tt

-- ---- a desk that was taken

-- ids don't run out
pub ids_low : (v : View Turn) → (part v 0).holds ≡ true → Stood BusFact v → length (part v 0).seen < 2 ^ 53 → (slot_of (part v 0).seen).desk.next_id < 2 ^ 63
ids_low v desk stood short =
    let whole : (part v 0).seen ≡ stood.world.told.lists 0 = stood.fits.whole 0 desk in
    let few : (slot_of (part v 0).seen).desk.next_id ≤ length (part v 0).seen + 1 = ids_are_few (part v 0).seen (subst (AreTold unborn) (sym whole) stood.holds.0.told) (subst (λ xs. (c : ℕ) → AreFair c None xs) (sym whole) stood.holds.0.fair) in
    omega (arith, few, short)

pub takes_so : (v v' : View Turn) (x : Locked) → TookIt 0 v v' x → TakesDesk v v'
takes_so v v' x took = record {
  begins = took.begins;
  own = took.own;
  others = took.others;
  hands = λ k. ap (λ hs. slice_index_or hs k []) took.hands;
  name = took.name;
  turns = took.turns;
  steps = took.steps;
}

same_slot : (p q : Slot) → locked.Desk p ≡ locked.Desk q → p ≡ q
same_slot p q e = cc

pub slot_so : (v v' : View Turn) (s : Slot) → TookIt 0 v v' (locked.Desk s) → slot_of (part v' 0).seen ≡ s
slot_so v v' s took = same_slot (slot_of (part v' 0).seen) s (sym took.value)

-- ---- a command

visits_belong : (m : Member) (qs : List Part) (ds : List Did) (v w : View Turn) → MadeVisits qs ds v w → MemberBelongs v m → MemberBelongs w m
visits_belong (member.Fresh creds) qs ds v w made b = tt
visits_belong (member.Keeper k) qs ds v w made b = tt
visits_belong (member.Maker k) qs ds v w made b = tt
visits_belong (member.Conn c) qs ds v w made b = record {
  low = b.low;
  sized = b.sized;
  own = subst (λ (p : seen.Part Turn). IsOwn p.own c.generation (who.Conn c.id c.seat)) (sym made.desk) b.own;
  kept = λ n. ap (hand_has n) (made.hands (suc c.seat)) ∙ b.kept n;
}

pub leaves_belong : (g : ℕ) (m : Member) (k : Kind) (s : Slot) (aim : Option ℕ) (w : Who) (x : Command) (answer : Reply) (now : WhoKind) (pendings : List Pending) (v v' : View Turn) → (part v 0).holds ≡ true → Stood BusFact v → slot_of (part v 0).seen ≡ s
    → Leaves s aim w x answer now pendings v v' → w ≡ who_of g m → s.generation ≡ g → MemberBelongs v m → MemberBelongs v' (member_after g k now m)
leaves_belong g m k s aim w x answer now pendings v v' desk stood value it caller gen b =
    after_belongs g m k (left_as s.generation aim w x (answers_in it.entries) answer now) v it.then v' desk stood (subst (λ z. IsLeft z (left_as s.generation aim w x (answers_in it.entries) answer now)) (sym value) it.is) caller gen
    (visits_belong m (parts_met s aim w x it.entries) it.entries v it.then it.made b) it.made.hands it.left

-- ---- a new bus

-- moves nobody
starts_belong : (m : Member) (g creator size hashes : ℕ) (v v' : View Turn) → Starts g creator size hashes v v' → MemberBelongs v m → MemberBelongs v' m
unfolding move_of
starts_belong (member.Fresh creds) g creator size hashes v v' it b = tt
starts_belong (member.Keeper k) g creator size hashes v v' it b = tt
starts_belong (member.Maker k) g creator size hashes v v' it b = tt
starts_belong (member.Conn c) g creator size hashes v v' it b =
    conn_stays c (started (record { generation = g; creator = creator; size = size; hashes = hashes })) it.begins.then v' refl it.begins.left
    (visits_belong (member.Conn c) (shut_below 64 (slot_of (part it.taken 0).seen).desk) it.begins.entries it.taken it.begins.then it.begins.made (taken_belongs (member.Conn c) v it.taken it.takes b))

pub start_belongs : (m : Member) (r : Result ℕ AllocError) (creator size hashes : ℕ) (v v' : View Turn) → IfOk r (λ g. Starts g creator size hashes v v') → OnErr r (WantsMemory v v') → MemberBelongs v m → MemberBelongs v' m
start_belongs m (Ok g) creator size hashes v v' it err b = starts_belong m g creator size hashes v v' it b
start_belongs m (Err e) creator size hashes v v' ok it b = idle_belongs m it.taken v' it.leaves (taken_belongs m v it.taken it.takes b)

-- ---- what a pass is told

pub told_refused : (w : Who) (r : Outcome) (y : Refusal) → IsOutcome w r → r.why ≡ Some y → (r.reply ≡ reply.Refused y) × (r.becomes ≡ w.member) × (r.pendings.items ≡ [])
told_refused w r y it e = go r.why it e
  where
    go : (o : Option Refusal) → elim o as (λ o. Type 0) [ None ↦ r.hand ≡ Some empty_hand | Some why ↦ (why ≢ OutOfMemory) × (r.reply ≡ reply.Refused why) × (r.becomes ≡ w.member) × (r.pendings.items ≡ []) ] → o ≡ Some y
        → (r.reply ≡ reply.Refused y) × (r.becomes ≡ w.member) × (r.pendings.items ≡ [])
    go None it e = absurd (no_some e)
    go (Some why) it e = let same : why ≡ y = same_some why y e in (it.1 ∙ ap (λ z. reply.Refused z) same, it.2, it.3)

module _ (x : Command) (m m' : Member) (p p' q : BusSight) (g : ℕ) (same : q ≡ p) (aim : p'.aim ≡ aim_left x q.aim) where
  pub commands_so : (answer : Reply) (now : WhoKind) (pendings : List Pending) → Runs x q.aim m g answer now pendings q.view p'.view → m' ≡ member_after g (kind_made x) now m → Commands x m m' answer pendings p p'
  commands_so answer now pendings runs is = record {
    generation = g;
    now = now;
    runs = subst (λ (z : BusSight). Runs x z.aim m g answer now pendings z.view p'.view) same runs;
    member_is = is;
    aim_is = aim ∙ ap (λ (z : BusSight). aim_left x z.aim) same;
  }

  pub refused_so : (r : Outcome) (y : Refusal) → IsOutcome (who_of g m) r → r.why ≡ Some y → Runs x q.aim m g r.reply r.becomes r.pendings.items q.view p'.view → m' ≡ m → Commands x m m' (reply.Refused y) [] p p'
  refused_so r y it e runs kept =
      let told = told_refused (who_of g m) r y it e in
      commands_so (reply.Refused y) (who_of g m).member [] (subst (λ ps. Runs x q.aim m g (reply.Refused y) (who_of g m).member ps q.view p'.view) told.2
      (subst (λ b. Runs x q.aim m g (reply.Refused y) b r.pendings.items q.view p'.view) told.1 (subst (λ a. Runs x q.aim m g a r.becomes r.pendings.items q.view p'.view) told.0 runs)))
      (kept ∙ sym (member_same g (kind_made x) m))
