-- A new gate and a new pass, how a pass takes another in, and what is known of the values and the
-- lists once it took all others in.
use Rattle.std.proofs.Common.{◌≡◌, ℕ, ◌+◌, ◌*◌, ◌^◌, ◌<◌, ◌≤◌, ◌≢◌, ◌==◌, true, false, cond, List, [], ◌∷◌, ◌++◌, map, length, get_or, set, replicate, subst, sym, refl, ap, ◌∙◌, arith, length-append, length-set, Bool, ⊎_elim, get_or-set_other, get_or-set_same}
use Rattle.std.specs.Prelude.{None, Some, Any}
use Rattle.std.proofs.lemmas.List.{get_or_past, length-map, length-replicate}
use Rattle.std.specs.List.{All}
use Rattle.std.proofs.lemmas.List.Elements.{All-cons, All-nil}
use Rattle.std.proofs.lemmas.List.Sums.{sum_by-append}
use mathlib.Core.Option.{some, some-injective}
use lib.ListN.{get_elem?}
use Rattle.atomic_table.specs.Table.{opening, Splits, Joins, Final, Seen}
use Rattle.atomic_table.proofs.Lists.{at_map, at_index, at_longer, set_else}
use Rattle.kd_turn.specs.declared.views.Cell.{Cell}
use Rattle.kd_hands.specs.declared.views.Part.{Part}
use Rattle.kd_hands.specs.declared.views.View.{View}
use Rattle.kd_hands.specs.Views.{part, blank, opening_view, last_view, parent, child, spent, both}
use Rattle.kd_turn.specs.Rule.{shows, cell_of, Lock, IsHome, turns_of, IsPass, IsBack, SeatOk, Turning, opened_by, world_of}
use Rattle.kd_hands.specs.Lists.{at_place, is_at}
use Rattle.kd_hands.specs.Locks.{Locks, opening_locks}
use Rattle.kd_hands.proofs.Lists.{sum_set, sum_set, all_alike, read, snoc_at, some_at, each_set, each_snoc, map_at}
use Rattle.kd_hands.proofs.Places.{some_same, every, place_here, not_both, nobody_at, same_at}
use Rattle.kd_turn.proofs.Moved.{known, regrouped, tells, at_pass, shown_set, unborn}
use mathlib.Core.Logic.{dite}
use native.Mathlib.Decide.{dec_le, ℕ_discrete}
use Rattle.kd_turn.specs.Sight.{Sight}
use Rattle.kd_turn.specs.Told.{Ended, Gathered}

-- a pass that has seen nothing
fresh_pass : {E : Type 0} (n j : ℕ) → IsPass n j (opening_view {E = E} n j)
fresh_pass n j = search (arith, length-replicate)

module _ {X E : Type 0} (stands : ℕ → List (ℕ × E) → X → Type 0) (fact : Locks E → Type 0) (most : ℕ) where
  pub splits : (id : ℕ) (v : View E) → v.live ≡ true → 0 < v.made → v.made < most → Splits (Turning {X = X} stands fact most) id v (parent v) (child v)
  splits id v live last room s r at = at_pass r id v at live
      (λ v. 0 < v.made → v.made < most
      → Turning {X = X} stands fact most record { words = s.words; homes = s.homes; views = set s.views id (parent v) ++ child v ∷ [] })
      (λ at free last room.
      let v : View E = known r id in
      let sized = r.sized in
      let next : ℕ = r.count in
      let is_last : id + 1 ≡ next = grind (arith, last) in
      let counted : next ≡ v.made = grind (arith, is_last) in
      let born = unborn r next (omega arith) in
      let new : View E = last_view r.many next in
      let cut : List (View E) = set s.views id (parent v) in
      let long : length cut ≡ next = length-set s.views id (parent v) ∙ sized.views in
      let near = (read s.views id v v at).0 in
      let sums : turns_of cut + v.turns ≡ turns_of s.views + v.turns = sum_set (λ u. u.turns) s.views id v (parent v) at in
      let more : turns_of (cut ++ new ∷ []) ≡ turns_of cut + 0 = sum_by-append (λ (u : View E). u.turns) cut (new ∷ []) in
      let made : (j : ℕ) → j ≢ next → j ≢ id → cond (j + 1 == next) next 0 ≡ cond (j + 1 == next + 1) (next + 1) 0 = λ j n k. grind (arith, is_last, n, k) in
      let first : 0 ≡ cond (id + 1 == next + 1) (next + 1) 0 = grind (arith, is_last) in
      let own : next + 1 ≡ cond (next + 1 == next + 1) (next + 1) 0 = grind arith in
      let P : ℕ → View E → Type 0 = λ j u. u ≡ cond (r.retired j) spent (shows (next + 1) j (r.passes j)) in
      let shown = each_snoc cut next new (opening_view r.many) long P
      ((λ t. record (born.0 t) { made = own t }) ∙ sym (ap (λ b. cond b spent (shows (next + 1) next (r.passes next))) born.1))
      (each_set s.views id (parent v) (opening_view r.many) near (λ j u. j ≢ next → P j u)
      (λ _. (λ t. record v { made = first t }) ∙ sym (ap (λ b. cond b spent (shows (next + 1) id (r.passes id))) free))
      (λ j k n. r.shown j ∙ (λ t. cond (r.retired j) spent (record (r.passes j) { made = made j n k t })))) in
      subst (λ (u : View E). Turning {X = X} stands fact most record { words = s.words; homes = s.homes; views = cut ++ u ∷ [] })
      (λ t. last_view (sym (r.each_pass id).parts t) (counted t))
      (regrouped r (cut ++ new ∷ []) r.passes r.retired (next + 1) (length-append cut (new ∷ []) ∙ ap (λ (k : ℕ). k + 1) long) (omega arith) (omega arith)
      shown r.each_pass (λ _. refl) r.back)) last room

  pub opens : (n : ℕ) (words : List ℕ) (cells : List (Cell X E)) (xs : List X) → 0 < most → most ≤ 1024 → words ≡ replicate (6 * n) 0 → cells ≡ map cell_of xs
      → n ≡ length xs
      → ((l : ℕ) (x : X) → get_elem? xs l ≡ some x → stands l [] x) → fact opening_locks → Turning stands fact most (opening words cells (last_view n 0))
  opens n words cells xs some_pass few ws cs is fits tied =
      let new : View E = last_view n 0 in
      let locks : ℕ → Lock E = λ l. record { list = []; next = 0; drawer = λ _. 0; holder = None; marks = λ _. 0 } in
      let zeros : (k : ℕ) → get_or words k 0 ≡ 0 = λ k. ap (λ (q : List ℕ). get_or q k 0) ws ∙ all_alike (6 * n) k 0 in
      let bare : (l : ℕ) → blank ≡ part (opening_view {E = E} n 0) l = λ l. sym (all_alike n l blank) in
      let slots = length-map cells some ∙ (ap length cs ∙ (length-map xs (cell_of {E = E}) ∙ sym is)) in
      let wide = ap length ws ∙ length-replicate (6 * n) 0 in
      let none : (j : ℕ) → j ≢ 0 → ◌≡◌ {A = ℕ} 0 (cond (j + 1 == 1) 1 0) = λ j z. grind (arith, z) in
      record {
        locks = locks;
        passes = opening_view n;
        retired = λ _. false;
        many = n;
        count = 1;
        sized = record { slots = slots; wide = wide; views = refl; few = omega arith; fits = few };
        shown = λ j. dite (ℕ_discrete j 0) (λ z. subst (λ i. get_or (new ∷ []) i (opening_view n i) ≡ shows 1 i (opening_view n i)) (sym z) refl)
            (λ z. get_or_past (new ∷ []) j (opening_view n j) (let one : length (new ∷ []) ≡ 1 = refl in omega arith)
            ∙ (λ t. record (opening_view n j) { made = none j z t }));
        each_pass = fresh_pass n;
        each_seat = λ j l. subst (SeatOk (locks l) j) (bare l)
            record { begins = ([], refl); mine = refl; waits = λ k t. absurd cc; here = λ h. absurd cc; holds = refl; unswept = λ _. refl };
        each_lock = λ l lt.
            let x = some_at xs l (omega arith) in
            let home = ap (λ (q : List (Cell X E)). get_elem? (map some q) l) cs ∙ at_map some (map cell_of xs) l (cell_of x.0) (at_map cell_of xs l x.0 x.1) in
            let at_home : IsHome stands l [] (map some cells) = (cell_of x.0, home, x.0, refl, fits l x.0 x.1) in
            search (arith, zeros);
        back = λ j. All-nil (IsBack (λ _. false) (opening_view n));
        tied = subst fact (λ i. record opening_locks { hands = λ j k. sym (all_alike n k []) i; swept = λ j k. (bare k i).swept }) tied;
      }

module _ {X E : Type 0} (stands : ℕ → List (ℕ × E) → X → Type 0) (fact : Locks E → Type 0) (most : ℕ) where
  pub joins : (id other : ℕ) (v w : View E) → v.live ≡ true → w.live ≡ true → ((l : ℕ) → (part w l).holds ≡ false)
      → Joins (Turning {X = X} stands fact most) id v other w (both v w) spent
  joins id other v w live alive idle s r at ne at_w =
      let Q : View E → View E
      → Type 0 = λ v w. Turning {X = X} stands fact most record { words = s.words; homes = s.homes; views = set (set s.views id (both v w)) other spent } in
      at_pass r id v at live (λ v. get_elem? (set s.views id (both v w)) other ≡ some w → Q v w) (λ at free at_w'.
      at_pass r other w (sym (set_else s.views id other (both (known r id) w) ne) ∙ at_w') alive
      (λ w. ((l : ℕ) → (part w l).holds ≡ false) → get_elem? (set s.views id (both (known r id) w)) other ≡ some w → Q (known r id) w) (λ _ _ idle at_w.
      let v : View E = known r id in
      let w : View E = known r other in
      let own = r.each_pass id in
      let name : w.name ≡ other = (r.each_pass other).name in
      let few = (r.each_pass other).turns in
      let sized = r.sized in
      let b : View E = both v w in
      let mid : List (View E) = set s.views id b in
      let passes' : ℕ → View E = at_place r.passes id b in
      let retired' : ℕ → Bool = at_place r.retired other true in
      let one : turns_of mid + v.turns ≡ turns_of s.views + v.turns = sum_set (λ u. u.turns) s.views id v b at in
      let two : turns_of (set mid other spent) + w.turns ≡ turns_of mid + 2 ^ 43 = sum_set (λ u. u.turns) mid other w spent at_w in
      let parts : (j : ℕ) → (r.passes j).parts ≡ (passes' j).parts = same_at (λ (u : View E). u.parts) r.passes id b refl in
      let carry : (j : ℕ) → All (IsBack retired' passes') (r.passes j).back = λ j k d lt. let c : ℕ × List (Part E) = get_or (r.passes j).back k d in
      let q = r.back j k d lt in
      (every (λ j t. r.retired j ≡ true → t ≡ true) r.retired other true (λ _. refl) (λ _ _ t. t) c.0 q.0, sym (parts c.0) ∙ q.1, q.2) in
      let taken : IsBack retired' passes' (w.name, w.parts) =
      (place_here r.retired other w.name true name, sym (parts w.name) ∙ ap (λ (j : ℕ). (r.passes j).parts) name, idle) in
      regrouped r (set mid other spent) passes' retired' r.count (length-set mid other spent ∙ (length-set s.views id b ∙ sized.views)) sized.few
      (omega arith)
      (every (λ j t. get_or (set mid other spent) j (opening_view r.many j) ≡ cond t spent (shows r.count j (passes' j))) r.retired other true
      (get_or-set_same mid other spent (opening_view r.many other) (read mid other w w at_w).0)
      (λ j n. get_or-set_other mid other j spent (opening_view r.many j) n ∙ shown_set r id at free b j))
      (every (λ j u. IsPass r.many j u) r.passes id b (search own) (λ j _. r.each_pass j))
      (same_at tells r.passes id b refl)
      (every (λ j u. All (IsBack retired' passes') u.back) r.passes id b
      (All-cons (IsBack retired' passes') (w.name, w.parts) v.back taken (carry id)) (λ j _. carry j))) idle at_w') at_w

  -- Of a closed gate: `all` are its passes, which are gathered in the view u
  module _ (id : ℕ) (all : List (Sight E)) (u : View E) (words : List ℕ) (cells : List (Cell X E)) (g : Gathered all u)
      (each : (j : ℕ) → j < most → Any (λ p. p.view.name ≡ j) all) (final : Final (Seen (Turning {X = X} stands fact most) id u) words cells) where
    abbrev r : Turning {X = X} stands fact most final.0
    r = final.1.0

    is_u : u ≡ known r id
    is_u = at_pass r id u final.1.1 (ap (λ (v : View E). v.live) g.now ∙ g.live) (λ v. v ≡ known r id) (λ _ _. refl)

    -- what each pass knew it knows still, and it holds nothing
    still : (k : ℕ) (p : Sight E) → get_elem? all k ≡ some p → (l : ℕ) → SeatOk (r.locks l) p.view.name (part p.view l) × ((part p.view l).holds ≡ false)
    still k p e l = ⊎_elim
        (λ h.
        let back : Sight E → ℕ × List (Part E) = λ q. (q.view.name, q.view.parts) in
        let was = at_longer (map back g.rest) g.last.view.back k (back p) (at_map back g.rest k p h) in
        let at = read (known r id).back k (back p) (back p) (ap (λ (v : View E). get_elem? v.back k) (sym is_u ∙ g.now) ∙ was) in
        let q = subst (IsBack r.retired r.passes) at.1 (r.back id k (back p) at.0) in
        (knew p.view q.1, q.2 l))
        (λ h.
        let name : g.last.view.name ≡ id = ap (λ (v : View E). v.name) (sym g.now ∙ is_u) ∙ (r.each_pass id).name in
        subst (λ (q : Sight E). SeatOk (r.locks l) q.view.name (part q.view l) × ((part q.view l).holds ≡ false)) h.1
        (knew g.last.view (ap (λ (j : ℕ). (r.passes j).parts) name ∙ ap (λ (v : View E). v.parts) (sym is_u ∙ g.now)), g.idle l))
        (snoc_at g.rest g.last p k (ap (λ l. get_elem? l k) (sym g.are) ∙ e))
      where
        knew : (v : View E) → (r.passes v.name).parts ≡ v.parts → SeatOk (r.locks l) v.name (part v l)
        knew v same = subst (λ (ps : List (Part E)). SeatOk (r.locks l) v.name (get_or ps l blank)) same (r.each_seat v.name l)

    -- a pass that is never made knows nothing
    beyond : (j l : ℕ) → most ≤ j → part (r.passes j) l ≡ blank
    beyond j l le = let sized = r.sized in ap (λ (v : View E). part v l) (sym (unborn r j (omega arith)).0) ∙ all_alike r.many l blank

    nobody : (l : ℕ) → (r.locks l).holder ≡ None
    nobody l = nobody_at (r.locks l).holder (λ j t. not_both (part (r.passes j) l).holds ((r.each_seat j l).holds ∙ t) (dite (dec_le most j)
        (λ le. ap (λ (q : Part E). q.holds) (beyond j l le))
        (λ lt.
        let a = each j (omega arith) in
        let q = still a.0 a.1 (at_index all a.0 a.1 a.2 (sym a.3)) l in
        (r.each_seat j l).holds ∙ (ap (λ (i : ℕ). is_at i (r.locks l).holder) (sym a.4) ∙ (sym q.0.holds ∙ q.1)))))

    -- each cell has a value that stands for the list
    pub full : (l : ℕ) (y : Cell X E) → get_elem? cells l ≡ some y → (x : X) × (y.value ≡ Some x) × stands l (r.locks l).list x
    full l y e =
        let near = (read cells l y y e).0 in
        let home = (r.each_lock l (omega arith)).home (nobody l) in
        let same : home.0 ≡ y = some-injective home.0 y (sym (final.4 l home.0 home.1) ∙ e) in
        (home.2, ap (λ (z : Cell X E). z.value) (sym same) ∙ home.3, home.4)

    pub ended : (values : List X) → ((l : ℕ) (x : X) → get_elem? values l ≡ some x → (y : Cell X E) × (get_elem? cells l ≡ some y) × (y.value ≡ Some x))
        → Ended stands fact most (map (λ p. p.view) all) values
    ended values from = record {
      world = world_of r.locks r.passes;
      stood = λ l x e. let y = from l x e in let f = full l y.0 y.1 in subst (stands l (r.locks l).list) (some_same f.0 x (sym f.1 ∙ y.2)) f.2;
      begins = λ k v e l. (one k v e l).begins;
      own = λ k v e l. (one k v e l).mine;
      nobody = λ j l le. (r.each_seat j l).mine ∙ ap (λ (q : Part E). q.own) (beyond j l le);
      tied = r.tied;
      shut = ap (λ o. opened_by o (λ j. (r.passes j).opened)) (nobody 0);
    }
      where
        one : (k : ℕ) (v : View E) → get_elem? (map (λ p. p.view) all) k ≡ some v → (l : ℕ) → SeatOk (r.locks l) v.name (part v l)
        one k v e l = let p = map_at (λ (p : Sight E). p.view) all k v e in
            subst (λ (v : View E). SeatOk (r.locks l) v.name (part v l)) p.2 (still k p.0 p.1 l).0
