-- The steps of a pass keep the rule: a ticket that is drawn, a look whether it is served, passing a
-- lock on, a mark, and a sweep.
use Rattle.std.proofs.Common.{◌≡◌, ℕ, ◌+◌, ◌*◌, ◌/◌, ◌%◌, ◌^◌, ◌<◌, ◌≤◌, ◌≢◌, ◌==◌, true, false, cond, List, [], ◌∷◌, ◌++◌, length, get_or, set, subst, sym, refl, ap, ap₂, ◌∙◌, arith, length-append, length-set, get_or-set_other}
use Rattle.std.specs.Prelude.{Option, Some, None}
use Rattle.std.specs.Int.Bits.{bit_or}
use Rattle.std.proofs.lemmas.Grind.{get_or-set_at}
use Rattle.std.proofs.lemmas.List.{append-nil, get_or_past, set-get_or}
use Rattle.std.proofs.lemmas.List.FromFn.{length-map-range_with_len}
use mathlib.Core.Option.{none, some}
use mathlib.Core.List.{IsPrefix}
use mathlib.Core.Logic.{dite}
use mathlib.Core.Path.{Path}
use native.Mathlib.Nat.{mod-eq_of_lt}
use lib.ListN.{get_elem?}
use Rattle.atomic_table.specs.Table.{State, Me, Act, Valid, carried_after, rest, step, keeps, takes, gives, stepped, Allows}
use Rattle.atomic_table.proofs.Lists.{set_here, set_else, set_again}
use Rattle.kd_turn.specs.declared.views.Cell.{Cell}
use Rattle.kd_model.proofs.Truth.{not_true}
use Rattle.kd_hands.specs.declared.views.Part.{Part}
use Rattle.kd_hands.specs.declared.views.View.{View}
use Rattle.kd_hands.specs.Views.{part, hand, drawn, holding, part_passed, passed_on, marked, cleared}
use Rattle.kd_hands.specs.Lists.{made_by, hand_has, hand_without, at_place, is_at}
use Rattle.kd_hands.specs.Locks.{Locks, taken, entered, marked_in, swept_in, hands_after}
use Rattle.kd_turn.specs.Rule.{Lock, opened_by, world_of, SeatOk, Turning}
use Rattle.kd_turn.specs.Told.{Gains, drew, looked, passed, sets_mark, swept_up}
use Rattle.kd_hands.specs.Fits.{Owes}
use Rattle.kd_hands.proofs.Entries.{prefix_more, made_other, made_mine, opened_zero, opened_off, own_hand}
use Rattle.kd_hands.proofs.Places.{some_same, every, place_here, place_else, place_same, both_same, zero_same, zero_or_not, not_both, nobody_at, is_at_some, is_at_not, is_some_or_not}
use Rattle.kd_turn.proofs.Moved.{known, Here, at_pass, below, alone, fits_of, still_open, moved}
use Rattle.kd_hands.proofs.Lists.{tabled_at}
use Rattle.kd_hands.proofs.Hands.{same_power}

-- what a seat knows of a lock stays where its list stays, no ticket is drawn anew, and the seat
-- holds it as before
seat_on : {E : Type 0} (M : Lock E) (n : ℕ) (drawer : ℕ → ℕ) (holder : Option ℕ) (marks : ℕ → ℕ) (j : ℕ) (p : Part E) → M.next ≤ n
    → ((k : ℕ) → k < M.next → drawer k ≡ M.drawer k)
    → is_at j M.holder ≡ is_at j holder → SeatOk M j p → SeatOk (record M { next = n; drawer = drawer; holder = holder; marks = marks }) j p
seat_on M n drawer holder marks j p more same held q =
    let waits : (k : ℕ) → p.ticket ≡ Some k → (length M.list ≤ k) × (k < n) × (drawer k ≡ j) = λ k t. let f =
    q.waits k t in (f.0, omega arith, same k f.1 ∙ f.2) in
    let holds = q.holds ∙ held in
    search (q.here, q)

module _ {X E : Type 0} (stands : ℕ → List (ℕ × E) → X → Type 0) (fact : Locks E → Type 0) (most : ℕ) where
  abbrev Rule : State (Cell X E) (View E) → Type 0
  Rule = Turning stands fact most

  -- the word i becomes m, and the seat id, with these slots, finds a view and an act that keep the
  -- rule
  abbrev Goes : State (Cell X E) (View E) → ℕ → ℕ → ℕ → List (ℕ × Cell X E) → (Me (Cell X E) (View E) → Type 0) → Type 0
  Goes s id i m c then = (w : View E) × (a : Act (Cell X E)) × Valid s.homes c a × Rule (stepped s i m id c w a) × then (w, carried_after c a)

  -- a step may be made of which the pass shows P, if it can be made where the pass knows what the
  -- rule has of it
  allow : (slots id l i : ℕ) (me : Me (Cell X E) (View E)) (f : ℕ → ℕ) (then : View E → ℕ → Me (Cell X E) (View E) → Type 0) (P : View E → Type 0) → l < slots
      → me.0.live ≡ true → P me.0
      → ((s : State (Cell X E) (View E)) (r : Rule s) → P (known r id) → Here r id l → r.many ≡ slots
      → Goes s id i (f (get_or s.words i 0)) me.1 (then (known r id) (get_or s.words i 0)))
      → Allows Rule slots id me i f (then me.0)
  allow slots id l i me f then P lt live pre go s r wide at _ =
      let near : l < r.many = omega arith in
      at_pass r id me.0 at live (λ v. P v → Goes s id i (f (get_or s.words i 0)) me.1 (then v (get_or s.words i 0))) (λ at free pre.
      let ok = r.each_lock l near in
      let low = below r l near in
      go s r pre (search (r.each_pass id, r.each_seat id l)) (omega arith)) pre

  pub draws : (slots id l : ℕ) (me : Me (Cell X E) (View E)) → l < slots → (part me.0 l).holds ≡ false → me.0.live ≡ true → me.0.turns < 2 ^ 43
      → Allows Rule slots id me l (λ n. (n + 1) % 2 ^ 64) (drew (step slots l 1 0 none) me)
  draws slots id l me lt idle live few = allow slots id l l me (λ n. (n + 1) % 2 ^ 64) (λ v. drew (step slots l 1 0 none) (v, me.1))
      (λ v. ((part v l).holds ≡ false) × (v.turns < 2 ^ 43)) lt live (idle, few) (λ s r pre h many.
      let v : View E = known r id in
      let x : ℕ = get_or s.words l 0 in
      let M : Lock E = r.locks l in
      let is : (x + 1) % 2 ^ 64 ≡ x + 1 = mod-eq_of_lt (omega arith) in
      let was : Locks E = world_of r.locks r.passes in
      let holder = zero_same (λ k. (r.locks k).holder) l in
      let lock : Lock E = record M { next = M.next + 1; drawer = at_place M.drawer M.next id } in
      let kept = moved r id l h (record (part v l) { ticket = Some x }) v.hands v.opened (v.turns + 1) v.steps lock l ((x + 1) % 2 ^ 64) s.homes
      was h.own.hands (omega arith) (omega arith) (λ z f. h.own.shut (ap (λ (k : ℕ). (part v k).holds) (sym z) ∙ f)) (λ _. h.own.shut)
      (λ k q kn n qt. search arith) refl (λ k n. refl)
      (search (arith, some_same, place_here, not_both, h.old, pre))
      (λ j _. seat_on M (M.next + 1) lock.drawer M.holder M.marks j (part (r.passes j) l) (omega arith)
      (λ k t. place_else M.drawer M.next k id (λ z. omega arith)) refl)
      (λ total sums. search (arith, get_or-set_at, get_or-set_other, h.ok))
      record { lists = place_same _ l; marks = place_same _ l; hands = place_same _ id; swept = both_same _ id l; holder = holder; opened = still_open r id l }
      r.tied in
      (drawn l x v, keeps, tt, kept.0, refl))

  -- the law that a look owes: the fact stays where a pass takes the lock l, and lock 0 only where
  -- it has swept nothing
  abbrev Takes : ℕ → Type 0
  Takes l = (w : Locks E) (j : ℕ) → (l ≡ 0 → (k : ℕ) → w.swept j k ≡ []) → fact w → fact (taken l j w)

  -- a look at a ticket that is not the pass's leaves all as it was
  misses : (slots id l i n : ℕ) (me : Me (Cell X E) (View E)) (s : State (Cell X E) (View E)) → Rule s → n ≡ get_or s.words i 0 → i ≡ slots + l
      → get_elem? s.views id ≡ some me.0
      → (part me.0 l).ticket ≢ Some n → Goes s id i n me.1 (looked stands fact (step slots i 0 0 none) me n)
  misses slots id l i n me s r found place at miss =
      let words : set s.words i n ≡ s.words = ap (set s.words i) found ∙ set-get_or s.words i 0 in
      let same : s ≡ stepped s i n id me.1 me.0 keeps = λ t. record { words = sym words t; homes = s.homes; views = sym (set_again s.views id me.0 at) t } in
      (me.0, keeps, tt, subst Rule same r, (λ k is. ((λ hit. absurd (miss (ap (λ (q : ℕ). (part me.0 q).ticket) (omega arith) ∙ hit))), (λ _. refl))))

  gains : (slots id l i n : ℕ) (c : List (ℕ × Cell X E)) → Takes l → i ≡ slots + l → (s : State (Cell X E) (View E)) (r : Rule s)
      → ((k : ℕ) → l ≤ k → (part (known r id) k).holds ≡ false)
      → Here r id l → r.many ≡ slots → n ≡ get_or s.words i 0 → (part (known r id) l).ticket ≡ Some n
      → Goes s id i n c (looked stands fact (step slots i 0 0 none) (known r id, c) n)
  gains slots id l i n c law place s r unheld h many found hit =
      let v : View E = known r id in
      let M : Lock E = r.locks l in
      let serves = h.ok.serves in
      let idle : (part v l).holds ≡ false = unheld l (omega arith) in
      let mine : (part v l).ticket ≡ Some (length M.list) = hit
      ∙ ap (λ (k : ℕ). Some k) (found ∙ (ap (λ (k : ℕ). get_or s.words k 0) (omega arith) ∙ serves)) in
      let nobody : M.holder ≡ None = nobody_at M.holder (λ j t. let holds = (r.each_seat j l).holds ∙ t in
      not_both (part v l).holds (ap (λ (k : ℕ). (part (r.passes k) l).holds) (sym (alone r id l j mine holds)) ∙ holds) idle) in
      let home = h.ok.home nobody in
      let y : Cell X E = home.0 in
      let due = (h.old.waits (length M.list) mine).1 in
      let lock : Lock E = record M { holder = Some id } in
      let w : View E = holding l M.list v in
      let words : (k : ℕ) → get_or (set s.words i n) k 0 ≡ get_or s.words k 0 =
      λ k. ap (λ (ws : List ℕ). get_or ws k 0) (ap (set s.words i) found ∙ set-get_or s.words i 0) in
      let bare : (k : ℕ) → (part v k).holds ≡ false → (part v k).swept ≡ [] = λ k. (r.each_seat id k).unswept in
      let was : Locks E = world_of r.locks r.passes in
      let ops : ℕ → List (ℕ × ℕ × E) = at_place (λ j. (r.passes j).opened) id v.opened in
      let ops_id : l ≡ 0 → ops id ≡ [] = λ z. place_here (λ j. (r.passes j).opened) id id v.opened refl ∙ h.own.shut (unheld 0 (omega arith)) in
      let opened : was.told.opened ≡ cond (l == 0) (ops id) (opened_by (r.locks 0).holder ops) = still_open r id l
      ∙ zero_or_not l _ _ _ _ (λ z. ap (λ o. opened_by o ops) nobody ∙ sym (ops_id z)) (λ _. refl) in
      let go =
      moved r id l h (record (part v l) { seen = M.list; holds = true }) v.hands v.opened v.turns v.steps lock i n (set s.homes l none)
      (taken l id was)
      h.own.hands (omega arith) h.own.turns (λ _ f. absurd (not_both true refl f)) (λ _. h.own.shut)
      (λ k q kn ne qt. search arith) (length-set s.homes l none) (λ k ne. set_else s.homes l k none ne)
      (let whole : IsPrefix M.list M.list = ([], append-nil M.list) in search (is_at_some, h.old.waits, h.old))
      (λ j ne. seat_on M M.next M.drawer (Some id) M.marks j (part (r.passes j) l) (omega arith) (λ _ _. refl)
      (ap (is_at j) nobody ∙ sym (is_at_not j (Some id) (λ z. ne (sym (some_same id j z))))))
      (λ total sums. search (arith, words, h.ok))
      record { lists = place_same _ l; marks = place_same _ l; hands = place_same _ id; swept = both_same _ id l; holder = refl; opened = opened }
      (law was id (λ z k. bare k (unheld k (omega arith))) r.tied) in
      let own = ap (λ (j : ℕ). made_by j M.list) h.own.name ∙ h.old.mine in
      let got : Gains stands fact l v M.list home.2 =
      record { value = home.4; begins = h.old.begins; mine = own; short = omega arith; unswept = bare l idle; shut = h.own.shut; stood = go.1 } in
      let same : (k : ℕ) → i ≡ slots + k → k ≡ l = λ k is. omega arith in
      (w, takes l y, home.1, go.0, (λ k is. rw (same k is) ((λ _. (home.2, y, home.3, (M.list, refl, got))), (λ miss. absurd (miss hit)))))

  pub looks : (slots id l i : ℕ) (me : Me (Cell X E) (View E)) → Takes l → i ≡ slots + l → l < slots → ((k : ℕ) → l ≤ k → (part me.0 k).holds ≡ false)
      → me.0.live ≡ true
      → Allows Rule slots id me i (λ n. n) (looked stands fact (step slots i 0 0 none) me)
  looks slots id l i me law place lt unheld live = allow slots id l i me (λ n. n) (λ v. looked stands fact (step slots i 0 0 none) (v, me.1))
      (λ v. (k : ℕ) → l ≤ k → (part v k).holds ≡ false) lt live unheld
      (λ s r unheld h many. let n : ℕ = get_or s.words i 0 in dite (is_some_or_not (part (known r id) l).ticket n)
      (λ hit. gains slots id l i n me.1 law place s r unheld h many refl hit) (λ miss. misses slots id l i n (known r id, me.1) s r refl place h.at miss))

  pub passes : (hand_after : ℕ → E → List ℕ → List ℕ) (empties : E → Option ℕ) (slots id l i : ℕ) (me : Me (Cell X E) (View E)) (v : View E) (x : X) (e : E)
      (c : List (ℕ × Cell X E)) → let after = hands_after hand_after empties in let y : Cell X E = record { value = Some x; entry = Some e } in
      i ≡ slots + l → l < slots → me ≡ (v, (l, y) ∷ c) → (part v l).holds ≡ true → v.live ≡ true
      → stands l ((part v l).seen ++ (v.name, e) ∷ []) x → Owes fact after v l e
      → Allows Rule slots id me i (λ n. (n + 1) % 2 ^ 64) (passed after (step slots i 1 0 none) me)
  passes hand_after empties slots id l i me v x e c place lt is held live fits owes =
      let after : ℕ → E → (ℕ → List ℕ) → ℕ → List ℕ = hands_after hand_after empties in
      let y : Cell X E = record { value = Some x; entry = Some e } in
      rw is (allow slots id l i (v, (l, y) ∷ c) (λ n. (n + 1) % 2 ^ 64) (λ v. passed after (step slots i 1 0 none) (v, (l, y) ∷ c))
      (λ v. ((part v l).holds ≡ true) × stands l ((part v l).seen ++ (v.name, e) ∷ []) x × Owes fact after v l e) lt live (held, fits, owes) (λ s r pre h many.
      let v : View E = known r id in
      let M : Lock E = r.locks l in
      let old = h.old in
      let name = h.own.name in
      let here = old.here pre.0 in
      let due = old.waits (length M.list) here.0 in
      let serves = h.ok.serves in
      let n : ℕ = get_or s.words i 0 in
      let found : n ≡ length M.list = ap (λ (k : ℕ). get_or s.words k 0) (omega arith) ∙ serves in
      let next : ℕ = (n + 1) % 2 ^ 64 in
      let is : next ≡ n + 1 = mod-eq_of_lt (omega arith) in
      let more : List (ℕ × E) = M.list ++ (id, e) ∷ [] in
      let longer : length more ≡ length M.list + 1 = length-append M.list ((id, e) ∷ []) in
      let seen : (part v l).seen ++ (v.name, e) ∷ [] ≡ more = λ t. here.1 t ++ (name t, e) ∷ [] in
      let mine : made_by id more ≡ (part v l).own ++ (v.name, e) ∷ [] = made_mine id id e M.list refl ∙ (λ t. old.mine t ++ (sym name t, e) ∷ []) in
      let w : View E = passed_on after l e v in
      let new_hand : ℕ → List ℕ = after l e (hand v) in
      let was : Locks E = world_of r.locks r.passes in
      let full : (k : ℕ) → length v.hands ≤ k → new_hand k ≡ [] = λ k le. let all =
      h.own.hands in own_hand hand_after empties l e (hand v) k (λ z. omega arith) (get_or_past v.hands k [] le) in
      let hand_now : Path (ℕ → List ℕ) new_hand (λ k. get_or w.hands k []) = λ t k. sym (tabled_at (length v.hands) new_hand full k) t in
      let opened = zero_or_not l _ _ _ _ (λ _. refl) (λ ne. let holds = (r.each_seat id 0).holds in grind (arith, holds, name)) in
      let begins : IsPrefix (part_passed l e v).seen more = ([], append-nil (part_passed l e v).seen ∙ seen) in
      let home = set_here s.homes l (some y) (omega arith) in
      let stood : stands l more x = subst (λ (g : List (ℕ × E)). stands l g x) seen pre.1 in
      let kept = moved r id l h (part_passed l e v) w.hands w.opened v.turns v.steps (record M { list = more; holder = None }) i next
      (set s.homes l (some y)) (entered after l id e was)
      (length-map-range_with_len new_hand 0 (length v.hands) ∙ h.own.hands) (omega arith) h.own.turns
      (λ z _. opened_zero l (v.name, e) (part v 0).holds v.opened z) (λ ne f. opened_off l (v.name, e) (part v 0).holds v.opened ne f ∙ h.own.shut f)
      (λ k q kn ne qt. search arith) (length-set s.homes l (some y)) (λ k ne. set_else s.homes l k (some y) ne)
      record { begins = begins; mine = mine; waits = λ m t. absurd cc; here = λ f. absurd cc; holds = refl; unswept = λ _. refl }
      (λ j ne q.
      let idle = not_true (part (r.passes j) l).holds (λ t. ne (alone r id l j here.0 t)) in
      let apart : (m : ℕ) → M.drawer m ≡ j → m ≢ length M.list = λ m d z. ne (sym d ∙ (ap M.drawer z ∙ due.2)) in
      let waits : (m : ℕ) → (part (r.passes j) l).ticket ≡ Some m → (length more ≤ m) × (m < M.next) × (M.drawer m ≡ j) = λ m t.
      let f = q.waits m t in let ne = apart m f.2 in (omega arith, f.1, f.2) in
      let begins = prefix_more (part (r.passes j) l).seen M.list ((id, e) ∷ []) q.begins in
      let shut : (part (r.passes j) l).holds ≡ true → ⊥ = λ f. not_both (part (r.passes j) l).holds f idle in
      record { begins = begins; mine = made_other j id e M.list ne ∙ q.mine; waits = waits; here = λ f. absurd (shut f); holds = idle; unswept = q.unswept })
      (λ total sums. search (arith, get_or-set_at, get_or-set_other, h.ok))
      record { lists = refl; marks = place_same _ l; hands = ap (at_place was.hands id) hand_now; swept = refl; holder = refl; opened = opened }
      (subst (λ (j : ℕ). fact (entered after l j e was)) name (pre.2 was (fits_of r id) r.tied)) in
      let same : (l' : ℕ) → i ≡ slots + l' → l ≡ l' = λ l' is'. omega arith in
      let entry : List (ℕ × Cell X E) → Option E = λ q. (get_or q 0 (l, y)).1.entry in
      (w, gives, tt, kept.0, (λ l' y' e' c' is' on as_e t. (passed_on after (same l' is' t) (some_same e e' (ap entry on ∙ as_e) t) v, ap rest on t)))))

  -- The mark word q of the lock l, which is the word i, becomes m; the pass has these hands and
  -- steps now, and has swept these words
  remarks : (id l q i m : ℕ) (s : State (Cell X E) (View E)) (r : Rule s) → Here r id l → q < 4 → i ≡ 2 * r.many + (4 * l + q)
      → (words : List (ℕ × ℕ)) (hs : List (List ℕ)) (steps : ℕ) (hands : ℕ → ℕ → List ℕ) (swept : ℕ → ℕ → List (ℕ × ℕ)) → length hs ≡ r.many
      → ((part (known r id) l).holds ≡ false → words ≡ [])
      → Path (ℕ → ℕ → List ℕ) hands (at_place (λ j. hand (r.passes j)) id (λ k. get_or hs k []))
      → Path (ℕ → ℕ → List (ℕ × ℕ)) swept (at_place (λ j k. (part (r.passes j) k).swept) id (at_place (λ k. (part (known r id) k).swept) l words))
      → fact (record (world_of r.locks r.passes) { hands = hands; marks = at_place (λ k. (r.locks k).marks) l (at_place (r.locks l).marks q m); swept = swept })
      → let p : Part E = record (part (known r id) l) { swept = words } in
      let w : View E = record (known r id) { parts = set (known r id).parts l p; hands = hs; steps = steps } in
      Rule record { words = set s.words i m; homes = s.homes; views = set s.views id w }
  remarks id l q i m s r h qt place words hs steps hands swept long bare hands_are swept_are kept =
      let v : View E = known r id in
      let M : Lock E = r.locks l in
      let marks : ℕ → ℕ = at_place M.marks q m in
      let holder = zero_same (λ k. (r.locks k).holder) l in
      let word : (k : ℕ) → k < 4 → get_or (set s.words i m) (2 * r.many + (4 * l + k)) 0 ≡ marks k =
      every (λ k x. k < 4 → get_or (set s.words i m) (2 * r.many + (4 * l + k)) 0 ≡ x) M.marks q m
      (λ _. get_or-set_at s.words i (2 * r.many + (4 * l + q)) m 0 (omega arith) (omega arith))
      (λ k n kt. get_or-set_other s.words i (2 * r.many + (4 * l + k)) m 0 (λ z. n (omega arith)) ∙ h.ok.marks k kt) in
      (moved r id l h (record (part v l) { swept = words }) hs v.opened v.turns steps (record M { marks = marks }) i m s.homes
      (record (world_of r.locks r.passes) { hands = hands; marks = at_place (world_of r.locks r.passes).marks l marks; swept = swept })
      long (omega arith) h.own.turns (λ z f. h.own.shut (ap (λ (k : ℕ). (part v k).holds) (sym z) ∙ f)) (λ _. h.own.shut)
      (λ k j kn n t. search arith) refl (λ k n. refl)
      (search (h.old.waits, h.old.here, h.old))
      (λ j _. seat_on M M.next M.drawer M.holder marks j (part (r.passes j) l) (omega arith) (λ _ _. refl) refl)
      (λ total sums. search (arith, get_or-set_other, word, h.ok))
      record { lists = place_same _ l; marks = refl; hands = hands_are; swept = swept_are; holder = holder; opened = still_open r id l } kept).0

  pub mark_allows : (slots id l n i b : ℕ) (me : Me (Cell X E) (View E)) → l < slots → n < 256 → i ≡ 2 * slots + (4 * l + n / 64) → b ≡ 2 ^ (n % 64)
      → me.0.live ≡ true → hand_has n (hand me.0 l) ≡ true
      → ((w : Locks E) (j : ℕ) → hand_has n (w.hands j l) ≡ true → fact w → fact (marked_in l n j w))
      → Allows Rule slots id me i (λ x. bit_or x b) (sets_mark (step slots i b 0 none) me)
  mark_allows slots id l n i b me lt small place bit live in_hand law =
      allow slots id l i me (λ x. bit_or x b) (λ v. sets_mark (step slots i b 0 none) (v, me.1))
      (λ v. hand_has n (hand v l) ≡ true) lt live in_hand (λ s r in_hand h many.
      let v : View E = known r id in
      let x : ℕ = get_or s.words i 0 in
      let q : ℕ = n / 64 in
      let is : x ≡ (r.locks l).marks q = ap (λ (k : ℕ). get_or s.words k 0) (omega arith) ∙ h.ok.marks q (omega arith) in
      let old : Locks E = world_of r.locks r.passes in
      let left : List ℕ = hand_without n (hand v l) in
      let hs : List (List ℕ) = set v.hands l left in
      let mine : ℕ → List ℕ = at_place (old.hands id) l left in
      let hand_now : Path (ℕ → List ℕ) mine (λ k. get_or hs k []) = λ t k. every (λ k x. x ≡ get_or hs k []) (old.hands id) l left
      (sym (get_or-set_at v.hands l l left [] refl (let a = h.own.hands in omega arith)))
      (λ k ne. sym (get_or-set_other v.hands l k left [] ne)) k t in
      let kept = remarks id l q i (bit_or x b) s r h (omega arith) (omega arith) (part v l).swept hs (v.steps + 1) (at_place old.hands id mine) old.swept
      (length-set v.hands l left ∙ h.own.hands) h.old.unswept
      (ap (at_place old.hands id) hand_now) (both_same old.swept id l)
      (subst (λ (z : ℕ). fact (record old { hands = at_place old.hands id mine; marks = at_place old.marks l (at_place (r.locks l).marks q z) }))
      (ap₂ bit_or (sym is) (sym bit)) (law old id in_hand r.tied)) in
      let same : (l' n' : ℕ) → n' < 256 → i ≡ 2 * slots + (4 * l' + n' / 64) → b ≡ 2 ^ (n' % 64) → (l ≡ l') × (n ≡ n') = λ l' n' small' is' as_bit.
      let bits = same_power (n % 64) (n' % 64) (sym bit ∙ as_bit) in (omega arith, omega arith) in
      (marked l n v, keeps, tt, kept, (λ l' n' s' w' b' t. let e = same l' n' s' w' b' in (marked (e.0 t) (e.1 t) v, me.1))))

  pub sweep_allows : (slots id l q i : ℕ) (me : Me (Cell X E) (View E)) → l < slots → q < 4 → i ≡ 2 * slots + (4 * l + q) → me.0.live ≡ true
      → (part me.0 l).holds ≡ true
      → ((w : Locks E) (j : ℕ) → fact w → fact (swept_in l q j w))
      → Allows Rule slots id me i (λ x. 0) (swept_up (step slots i 0 0 none) me)
  sweep_allows slots id l q i me lt qt place live held law =
      allow slots id l i me (λ x. 0) (λ v. swept_up (step slots i 0 0 none) (v, me.1)) (λ v. (part v l).holds ≡ true) lt live held
      (λ s r held h many.
      let v : View E = known r id in
      let x : ℕ = get_or s.words i 0 in
      let is : x ≡ (r.locks l).marks q = ap (λ (k : ℕ). get_or s.words k 0) (omega arith) ∙ h.ok.marks q qt in
      let old : Locks E = world_of r.locks r.passes in
      let words : ℕ → List (ℕ × ℕ) = λ z. (part v l).swept ++ (q, z) ∷ [] in
      let swept : ℕ → ℕ → ℕ → List (ℕ × ℕ) = λ z. at_place old.swept id (at_place (old.swept id) l (words z)) in
      let unheld : (part v l).holds ≡ false → words x ≡ [] = λ f. absurd (not_both (part v l).holds held f) in
      let kept = remarks id l q i 0 s r h qt (omega arith) (words x) v.hands v.steps old.hands (swept x) h.own.hands unheld (place_same old.hands id) refl
      (subst (λ (z : ℕ). fact (record old { marks = at_place old.marks l (at_place (r.locks l).marks q 0); swept = swept z })) (sym is)
      (law old id r.tied)) in
      let same : (l' q' : ℕ) → q' < 4 → i ≡ 2 * slots + (4 * l' + q') → (l ≡ l') × (q ≡ q') = λ l' q' qt' is'. (omega arith, omega arith) in
      (cleared l (q, x) v, keeps, tt, kept, (λ l' q' qt' is' t. let e = same l' q' qt' is' in (cleared (e.0 t) (e.1 t, x) v, me.1))))
