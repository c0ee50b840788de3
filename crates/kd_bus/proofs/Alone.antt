-- A pass takes one turn on a pool, without the desk.
use Rattle.std.specs.Prelude.{◌≡◌, ◌≤◌, ◌+◌, ◌*◌, ◌-◌, ◌^◌, ℕ, suc, ◌==◌, ◌&&◌, Bool, true, false, cond, List, [], ◌∷◌, ◌++◌, length, slice_index_or, Result, Option, Some, None, refl}
use Rattle.std.proofs.lemmas.Bool.{true≢false}
use Rattle.std.proofs.Common.{sym, ap, ◌∙◌, subst, arith, inl, length-append, eq-eqb, ne_eqb}
use Rattle.kd_types.specs.declared.refusal.Refusal.{Refusal}
use Rattle.kd_acts.specs.declared.receive.Got.{Got}
use Rattle.kd_acts.specs.declared.receive.RecvMode.{RecvMode}
use Rattle.kd_pool.specs.Told.{receive_answer}
use Rattle.kd_acts.specs.State.{Act, Answer, Content, Hold, Pool, by_desk, bytes_of, done, drained, free, freed, gone, got, idle, placed, publish, read, receive, refused, slice}
use Rattle.kd_acts.specs.Steps.{after, answer, closed_answer, open_step, pool_step}
use Rattle.kd_acts.specs.Lasting.{is_handed_in, is_open}
use Rattle.kd_acts.proofs.Handed.{receives_waiting}
use Rattle.kd_hands.specs.declared.views.Part.{Part}
use Rattle.kd_hands.specs.declared.views.View.{View}
use Rattle.kd_hands.specs.Views.{part, hand}
use Rattle.kd_hands.specs.Lists.{hand_has, is_at}
use Rattle.kd_hands.specs.Locks.{Fact, Locks, hands_after}
use Rattle.kd_turn.specs.Told.{Took, Passed}
use Rattle.kd_holds.specs.Counts.{IsBelow, is_settle}
use Rattle.kd_holds.specs.Publishing.{publish_answer}
use Rattle.kd_holds.specs.declared.pending.Published.{Published}
use Rattle.kd_world.specs.State.{Pending}
use Rattle.kd_holds.proofs.Counting.{counts_by_one, weaker_below}
use Rattle.kd_histories.specs.Turns.{Did, Turn, did}
use Rattle.kd_histories.specs.Seats.{Sitter, keeper, sitter}
use Rattle.kd_histories.specs.Pools.{IsAnswered, IsDone, hold_after, hold_freed, hold_of}
use Rattle.kd_histories.specs.Pairs.{owed}
use Rattle.kd_histories.specs.Lent.{empties, hand_after, hand_by, lends, out}
use Rattle.kd_histories.specs.Tie.{Tie}
use Rattle.kd_histories.specs.Puts.{Acts, OwesPut}
use Rattle.kd_histories.proofs.Holds.{numbered}
use Rattle.kd_histories.proofs.Snocs.{hold_snoc}
use Rattle.kd_histories.proofs.Puts.{publishes_may_be_put, receives_may_be_put}
use Rattle.kd_bus.specs.declared.locked.Locked.{Locked}
use Rattle.kd_bus.specs.declared.locked.Locked.TheVariants as locked
use Rattle.kd_bus.specs.Values.{stands}
use Rattle.kd_bus.specs.Turned.{IsNew, OneTurn, acted}

abbrev pub TookIt : ℕ → View Turn → View Turn → Locked → Type 0
TookIt l v v' x = Took stands (Fact Tie lends out keeper) l v v' x

abbrev pub PassedIt : ℕ → Turn → View Turn → View Turn → Type 0
PassedIt l e v v' = Passed (hands_after hand_after empties) l e v v'

pub same_pool : (p q : Hold) → locked.Pool p ≡ locked.Pool q → p ≡ q
same_pool p q e = cc

-- the state of a pool's list, with one entry more
pub pool_more : (s : ℕ) (list : List (ℕ × Turn)) (x : ℕ × Turn) (h : Hold) → hold_after x.1 (hold_of list) ≡ h → IsBelow (257 * length list + 257) h → stands (suc s) (list ++ x ∷ []) (locked.Pool h)
pool_more s list x h e low =
    let now : hold_of (list ++ x ∷ []) ≡ h = hold_snoc _ list x ∙ e in
    let long = length-append list (x ∷ []) in
    (ap (λ z. locked.Pool z) (sym now), subst (IsBelow (257 * length (list ++ x ∷ []))) (sym now) (weaker_below (257 * length list + 257) (257 * length (list ++ x ∷ [])) h (omega (arith, long)) low))

-- a pool's counts never wrap
pub low_enough : (list : List (ℕ × Turn)) (h : Hold) → IsBelow (257 * length list) h → length list + 1 ≤ 2 ^ 53 → IsBelow (2 ^ 63 - 1) h
low_enough list h b short = weaker_below (257 * length list) (2 ^ 63 - 1) h (omega (arith, short)) b

-- an act is answered as the pool answers it
answered : (h : Hold) (a : Act) → IsAnswered h a (answer h a)
answered h (by_desk v) = refl
answered h (publish generation n c) = refl
answered h (receive mode) = refl
answered h (read n sealed) = inl refl
answered h (free n) = refl
answered h idle = refl

abbrev done_of : Hold → Act → Did
done_of h a = record { generation = h.generation; freed = []; act = a; answer = answer h a }

-- the pass took the lock of the seat s, whose pool is h, and its entry tells the act a
module _ (s l : ℕ) (at : l ≡ suc s) (v v₁ : View Turn) (h : Hold) (took_l : TookIt l v v₁ (locked.Pool h)) where
  pub took : TookIt (suc s) v v₁ (locked.Pool h)
  took = subst (λ k. TookIt k v v₁ (locked.Pool h)) at took_l

  abbrev pub list : List (ℕ × Turn)
  list = (part v₁ (suc s)).seen

  pub hold_is : hold_of list ≡ h
  hold_is = same_pool (hold_of list) h (sym took.value.0)

  pub counts_fit : IsBelow (2 ^ 63 - 1) h
  counts_fit = low_enough list h (subst (IsBelow (257 * length list)) hold_is took.value.1) (let short = took.short in omega (arith, short))

  pub answer_now : (a : Act) → answer h a ≡ answer (hold_of list) a
  answer_now a = ap (λ x. answer x a) (sym hold_is)

  -- what a receive tells wasn't in the pass's hand
  pub new_number : (mode : RecvMode) → IsNew (answer (hold_of list) (receive mode)) (hand v (suc s))
  unfolding lends pool_step open_step closed_answer
  new_number mode = go (answer (hold_of list) (receive mode)) refl
    where
      world : Locks Turn
      world = took.stood.world

      whole : list ≡ world.told.lists (suc s)
      whole = took.stood.fits.whole (suc s) took.holds

      open_got : (x : Hold) (n offset len dropped : ℕ) → answer x (receive mode) ≡ got n offset len dropped → is_open x ≡ true
      open_got x n offset len dropped e = by x.pool e
        where
          by : (o : Option Pool) → answer (record { generation = x.generation; pool = o }) (receive mode) ≡ got n offset len dropped → is_open (record { generation = x.generation; pool = o }) ≡ true
          by None e = absurd cc
          by (Some p) e = refl

      lent : (n : ℕ) → is_open (hold_of list) ≡ true → hand_has n (hand v (suc s)) ≡ true → is_handed_in n (hold_of list) ≡ true
      lent n up has =
          let l : lends (suc s) (world.told.lists (suc s)) n = took.stood.holds.1.lent v₁.name (suc s) n
          (ap (hand_has n) (sym (took.stood.fits.hands (suc s)) ∙ ap (λ hs. slice_index_or hs (suc s) []) took.hands) ∙ has) in
          subst (λ xs. is_open (hold_of xs) ≡ true → is_handed_in n (hold_of xs) ≡ true) (sym whole) l up

      off : (n : ℕ) (b : Bool) → hand_has n (hand v (suc s)) ≡ b → is_open (hold_of list) ≡ true → is_handed_in n (hold_of list) ≡ false → b ≡ false
      off n true q up not_in = absurd (true≢false (sym (lent n up q) ∙ not_in))
      off n false q up not_in = refl

      go : (o : Answer) → answer (hold_of list) (receive mode) ≡ o → IsNew o (hand v (suc s))
      go (got n offset len dropped) e =
          let w = receives_waiting (hold_of list) mode n offset len dropped (numbered list) e in
          (w.0, off n (hand_has n (hand v (suc s))) refl (open_got (hold_of list) n offset len dropped e) w.1)
      go done e = tt
      go placed e = tt
      go gone e = tt
      go freed e = tt
      go (slice k) e = tt
      go (refused why) e = tt
      go (drained images) e = tt
      go (bytes_of bytes) e = tt

  -- the turn, whatever its entry says
  pub turn_so : (e : Turn) (v₂ : View Turn) → PassedIt l e v₁ v₂ → OneTurn (suc s) list e v v₂
  turn_so e v₂ put_l = record {
    begins = took.begins;
    seen = ap (λ (p : Part Turn). p.seen) put.here ∙ ap (λ (n : ℕ). list ++ (n, e) ∷ []) took.name;
    own = ap (λ (p : Part Turn). p.own) put.here ∙ (ap (λ xs. xs ++ (v₁.name, e) ∷ []) took.own ∙ ap (λ (n : ℕ). (part v (suc s)).own ++ (n, e) ∷ []) took.name);
    others = λ k ne. put.others k ne ∙ took.others k ne;
    hand_is = put.hands (suc s)
        ∙ (ap (λ b. cond b (hand_by e (hand v₁ (suc s))) (cond ((suc s == 0) && is_at (suc s) (empties e)) [] (hand v₁ (suc s)))) (eq-eqb (suc s) (suc s) refl)
        ∙ ap (λ hs. hand_by e (slice_index_or hs (suc s) [])) took.hands);
    other_hands = λ k ne. put.hands k
        ∙ (ap (λ b. cond b (hand_by e (hand v₁ (suc s))) (cond ((suc s == 0) && is_at k (empties e)) [] (hand v₁ k))) (ne_eqb k (suc s) ne)
        ∙ (ap (λ b. cond (b && is_at k (empties e)) [] (hand v₁ k)) (ne_eqb (suc s) 0 (λ z. omega arith)) ∙ ap (λ hs. slice_index_or hs k []) took.hands));
    name = put.name ∙ took.name;
    turns = put.turns ∙ took.turns;
    steps = put.steps ∙ took.steps;
  }
    where
      put : PassedIt (suc s) e v₁ v₂
      put = subst (λ k. PassedIt k e v₁ v₂) at put_l

  module _ (free : (k : ℕ) → (part v k).holds ≡ false) (a : Act) (e : Turn) (is : e ≡ acted h a) where
    is_done : IsDone (hold_of list) (done_of h a)
    unfolding hold_freed
    is_done = subst (λ x. IsDone x (done_of h a)) (sym hold_is) record { generation = refl; rising = tt; sweeps = λ _. refl; answer = answered h a }

    desk_off : (part v₁ 0).holds ≡ false
    desk_off = ap (λ (p : Part Turn). p.holds) (took.others 0 (λ z. omega arith)) ∙ free 0

    acts : Acts s (done_of h a) v₁
    acts = record { alone = record { desk = desk_off; held = took.holds; swept = took.swept }; is = is_done }

    now_after : hold_after e (hold_of list) ≡ after h a
    unfolding hold_after hold_freed
    now_after = ap (λ t. hold_after t (hold_of list)) is ∙ ap (λ x. after x a) hold_is

    -- the value is what the entry leaves
    pub alone_stands : is_settle a ≡ false → (h' : Hold) → h' ≡ after h a → stands l ((part v₁ l).seen ++ (v₁.name, e) ∷ []) (locked.Pool h')
    alone_stands plain h' now = subst (λ k. stands k ((part v₁ k).seen ++ (v₁.name, e) ∷ []) (locked.Pool h')) (sym at)
        (pool_more s list (v₁.name, e) h' (now_after ∙ sym now)
        (subst (IsBelow (257 * length list + 257)) (sym now) (weaker_below (257 * length list + 1) (257 * length list + 257) (after h a) (omega arith) (counts_by_one (257 * length list) h a plain (subst (IsBelow (257 * length list)) hold_is took.value.1)))))

    owes : OwesPut v₁ (suc s) (did (done_of h a)) → OwesPut v₁ l e
    owes o = subst (λ k. OwesPut v₁ k e) (sym at) (subst (OwesPut v₁ (suc s)) (sym is) o)

    -- a receive by the pass that has the seat
    pub receive_put : (mode : RecvMode) (t : Sitter) → a ≡ receive mode → sitter s (part v 0).own ≡ Some t → OwesPut v₁ l e
    receive_put mode t act mine = owes (receives_may_be_put s mode t (done_of h a) v₁ acts act (ap (λ (p : Part Turn). sitter s p.own) (took.others 0 (λ z. omega arith)) ∙ mine))

    -- a publishing of what the pass owes
    pub publish_put : (g n : ℕ) (c : Content) → a ≡ publish g n c → owed g n (part v (suc s)).own ≡ Some c → OwesPut v₁ l e
    publish_put g n c act mine = owes (publishes_may_be_put s g n c (done_of h a) v₁ acts act (ap (owed g n) took.own ∙ mine))

    -- the turn
    pub one_turn : (v₂ : View Turn) → PassedIt l e v₁ v₂ → OneTurn (suc s) list (acted (hold_of list) a) v v₂
    one_turn v₂ put_l = subst (λ x. OneTurn (suc s) list (acted x a) v v₂) (sym hold_is) (subst (λ t. OneTurn (suc s) list t v v₂) is (turn_so e v₂ put_l))

-- what the entry of a receive, and of a publishing, says
pub says_receive : (h : Hold) (mode : RecvMode) (n : ℕ) (r : Result Got Refusal) (e : Turn) → e ≡ did (record { generation = n; freed = []; act = receive mode; answer = receive_answer r }) → n ≡ h.generation → receive_answer r ≡ answer h (receive mode) → e ≡ acted h (receive mode)
says_receive h mode n r e says gen ans = says ∙ (ap (λ i. did (record { generation = i; freed = []; act = receive mode; answer = receive_answer r })) gen
    ∙ ap (λ o. did (record { generation = h.generation; freed = []; act = receive mode; answer = o })) ans)

pub says_publish : (h : Hold) (q p : Pending) (n : ℕ) (r : Published) (e : Turn) → e ≡ did (record { generation = n; freed = []; act = publish p.generation p.number p.content; answer = publish_answer r }) → n ≡ h.generation → p ≡ q
    → publish_answer r ≡ answer h (publish q.generation q.number q.content) → e ≡ acted h (publish q.generation q.number q.content)
says_publish h q p n r e says gen same ans = says ∙ (ap (λ i. did (record { generation = i; freed = []; act = publish p.generation p.number p.content; answer = publish_answer r })) gen
    ∙ (ap (λ (z : Pending). did (record { generation = h.generation; freed = []; act = publish z.generation z.number z.content; answer = publish_answer r })) same
    ∙ ap (λ o. did (record { generation = h.generation; freed = []; act = publish q.generation q.number q.content; answer = o })) ans))
