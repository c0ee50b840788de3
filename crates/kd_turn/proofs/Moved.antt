-- What the rule says of one pass, and the one law of all steps: a pass that moves at one lock
-- leaves the rest of the rule standing.
use Rattle.std.proofs.Common.{◌≡◌, ℕ, ◌+◌, ◌*◌, ◌^◌, ◌<◌, ◌≤◌, ◌≢◌, ◌==◌, Bool, true, false, cond, List, [], length, get_or, set, subst, sym, refl, ap, ◌∙◌, arith, length-set, get_or-set_other, get_or-set_same}
use Rattle.std.specs.Prelude.{Option, Some, None}
use Rattle.std.proofs.lemmas.List.{get_or_past, get_or_default}
use Rattle.std.specs.List.{All}
use Rattle.std.proofs.lemmas.List.Sums.{sum_by-le}
use mathlib.Core.Option.{some}
use mathlib.Core.Path.{Path}
use mathlib.Core.Option as maybe
use lib.ListN.{get_elem?}
use Rattle.atomic_table.specs.Table.{State}
use Rattle.kd_turn.specs.declared.views.Cell.{Cell}
use Rattle.kd_model.proofs.Truth.{not_true}
use Rattle.kd_hands.specs.declared.views.Part.{Part}
use Rattle.kd_hands.specs.declared.views.View.{View}
use Rattle.kd_hands.specs.Views.{part, hand, blank, opening_view, spent}
use Rattle.kd_hands.specs.Lists.{made_by, at_place, is_at}
use Rattle.kd_hands.specs.Locks.{Histories, Locks}
use Rattle.kd_hands.specs.Fits.{Fits, Stood}
use Rattle.kd_turn.specs.Rule.{shows, Lock, turns_of, opened_by, world_of, IsSized, IsPass, IsBack, IsHome, SeatOk, LockOk, Turning}
use Rattle.kd_hands.proofs.Lists.{sum_set, read, each_set}
use Rattle.kd_hands.proofs.Places.{every, place_here, place_else, place_same, place_map, place_zero, zero_same, not_both, is_at_some, some_if_at}

-- a view that is live was not taken in
live_one : {E : Type 0} (b : Bool) (v u : View E) → v.live ≡ true → v ≡ cond b spent u → (v ≡ u) × (b ≡ false)
live_one {E} true v u live e = absurd (not_both v.live live (ap (λ (q : View E). q.live) e))
live_one false v u live e = (e, refl)

few_turns : {E : Type 0} (b : Bool) (u : View E) → u.turns ≤ 2 ^ 43 → (cond b spent u).turns ≤ 2 ^ 43
few_turns b u h = grind arith

-- The world u is the old one, but for the lock l and the pass id, of which it has these; and what
-- the passes have opened
pub record Becomes {E : Type 0} (id l : ℕ) (old u : Locks E) (lock : Lock E) (hand : ℕ → List ℕ) (words : List (ℕ × ℕ))
    (opens : ℕ → List (ℕ × ℕ × E)) : Type 0 where
  pub lists : Path (ℕ → List (ℕ × E)) u.told.lists (at_place old.told.lists l lock.list)
  pub marks : Path (ℕ → ℕ → ℕ) u.marks (at_place old.marks l lock.marks)
  pub hands : Path (ℕ → ℕ → List ℕ) u.hands (at_place old.hands id hand)
  pub swept : Path (ℕ → ℕ → List (ℕ × ℕ)) u.swept (at_place old.swept id (at_place (old.swept id) l words))
  pub holder : u.holder ≡ cond (l == 0) lock.holder old.holder
  pub opened : u.told.opened ≡ cond (l == 0) (opened_by lock.holder opens) (opened_by old.holder opens)

-- what the world has of a view
abbrev pub tells : {E : Type 0} → View E → List (Part E) × List (List ℕ) × List (ℕ × ℕ × E)
tells v = (v.parts, v.hands, v.opened)

module _ {X E : Type 0} {stands : ℕ → List (ℕ × E) → X → Type 0} {fact : Locks E → Type 0} {most : ℕ} {s : State (Cell X E) (View E)}
    (r : Turning stands fact most s) where
  -- what is known of the pass id
  abbrev pub known : ℕ → View E
  known id = shows r.count id (r.passes id)

  -- what the rule says of the pass id and the lock l, where the pass was not taken in
  pub record Here (id l : ℕ) : Type 0 where
    pub at : get_elem? s.views id ≡ some (known id)
    pub free : r.retired id ≡ false
    pub near : l < r.many
    pub sized : IsSized r.many r.count most s
    pub low : (r.locks l).next ≤ 2 ^ 53
    pub own : IsPass r.many id (r.passes id)
    pub old : SeatOk (r.locks l) id (part (r.passes id) l)
    pub ok : LockOk stands r.many (turns_of s.views) s.words s.homes l (r.locks l)

  -- a live view is what the pass knows
  pub at_pass : (id : ℕ) (v : View E) → get_elem? s.views id ≡ some v → v.live ≡ true → (Q : View E → Type 0)
      → (get_elem? s.views id ≡ some (known id) → r.retired id ≡ false → Q (known id)) → Q v
  at_pass id v at live Q h =
      let is = live_one (r.retired id) v (known id) live (sym (read s.views id v (opening_view r.many id) at).1 ∙ r.shown id) in
      subst Q (sym is.0) (h (at ∙ ap some is.0) is.1)

  -- a pass that was not made yet has seen nothing
  pub unborn : (j : ℕ) → r.count ≤ j → (opening_view r.many j ≡ known j) × (r.retired j ≡ false)
  unborn j le = let sized = r.sized in
      live_one (r.retired j) (opening_view r.many j) (known j) refl (sym (get_or_past s.views j (opening_view r.many j) (omega arith)) ∙ r.shown j)

  -- what is shown where a view was set
  pub shown_set : (id : ℕ) → get_elem? s.views id ≡ some (known id) → r.retired id ≡ false → (w : View E) (j : ℕ)
      → get_or (set s.views id (shows r.count id w)) j (opening_view r.many j) ≡ cond (r.retired j) spent (shows r.count j (at_place r.passes id w j))
  shown_set id at free w = let u : View E = shows r.count id w in
      every (λ j x. get_or (set s.views id u) j (opening_view r.many j) ≡ cond (r.retired j) spent (shows r.count j x)) r.passes id w
      (get_or-set_same s.views id u (opening_view r.many id) (read s.views id (known id) w at).0 ∙ sym (ap (λ b. cond b spent u) free))
      (λ j n. get_or-set_other s.views id j u (opening_view r.many j) n ∙ r.shown j)

  -- no word reaches its end
  pub below : (l : ℕ) → l < r.many → (r.locks l).next ≤ 2 ^ 53
  below l near =
      let a = (r.each_lock l near).enough in
      let b = sum_by-le (λ (v : View E). v.turns) (2 ^ 43) s.views (λ j d lt.
      subst (λ (u : View E). u.turns ≤ 2 ^ 43) (sym (r.shown j) ∙ get_or_default s.views j (opening_view r.many j) d lt)
      (few_turns (r.retired j) (known j) (r.each_pass j).turns)) in
      let sized = r.sized in omega arith

  -- Views that are regrouped, and tell the same of the locks, leave the rest of the rule standing
  pub regrouped : (views' : List (View E)) (passes' : ℕ → View E) (retired' : ℕ → Bool) (count' : ℕ) → length views' ≡ count' → count' ≤ most
      → turns_of s.views ≤ turns_of views' → ((j : ℕ) → get_or views' j (opening_view r.many j) ≡ cond (retired' j) spent (shows count' j (passes' j)))
      → ((j : ℕ) → IsPass r.many j (passes' j)) → ((j : ℕ) → tells (r.passes j) ≡ tells (passes' j))
      → ((j : ℕ) → All (IsBack retired' passes') (passes' j).back) → Turning stands fact most record { words = s.words; homes = s.homes; views = views' }
  regrouped views' passes' retired' count' long few more shown each_pass same back = record {
    locks = r.locks;
    passes = passes';
    retired = retired';
    many = r.many;
    count = count';
    sized = search (r.sized);
    shown = shown;
    each_pass = each_pass;
    each_seat = λ j l. subst (λ (t : List (Part E) × List (List ℕ) × List (ℕ × ℕ × E)). SeatOk (r.locks l) j (get_or t.0 l blank)) (same j) (r.each_seat j l);
    each_lock = λ l lt. let ok = r.each_lock l lt in let marks = ok.marks in let home = ok.home in search (arith, ok);
    back = back;
    tied = subst fact (λ i. record (world_of r.locks r.passes) {
      told = record { lists = λ l. (r.locks l).list; opened = opened_by (r.locks 0).holder (λ j. (same j i).2) };
      hands = λ j k. get_or (same j i).1 k [];
      swept = λ j k. (get_or (same j i).0 k blank).swept;
    }) r.tied;
  }

  -- what is open stays, where nobody takes lock 0 or leaves it
  pub still_open : (id l : ℕ) → let ops : ℕ → List (ℕ × ℕ × E) = λ j. (r.passes j).opened in let held : ℕ → Option ℕ = λ k. (r.locks k).holder in
      opened_by (held 0) ops ≡ cond (l == 0) (opened_by (held l) (at_place ops id (ops id))) (opened_by (held 0) (at_place ops id (ops id)))
  still_open id l = let ops : ℕ → List (ℕ × ℕ × E) = λ j. (r.passes j).opened in
      zero_same (λ k. opened_by (r.locks k).holder ops) l
      ∙ ap (λ (o : ℕ → List (ℕ × ℕ × E)). cond (l == 0) (opened_by (r.locks l).holder o) (opened_by (r.locks 0).holder o)) (place_same ops id)

  -- where a pass has the ticket that is served, nobody else holds the lock
  pub alone : (id l j : ℕ) → (part (r.passes id) l).ticket ≡ Some (length (r.locks l).list) → (part (r.passes j) l).holds ≡ true → j ≡ id
  alone id l j t h = let n : ℕ = length (r.locks l).list in sym ((r.each_seat j l).waits n ((r.each_seat j l).here h).0).2 ∙ ((r.each_seat id l).waits n t).2

  -- the world of the rule is in keeping with what each pass knows
  pub fits_of : (id : ℕ) → Fits (known id) (world_of r.locks r.passes)
  fits_of id =
      let seat : (k : ℕ) → SeatOk (r.locks k) id (part (r.passes id) k) = r.each_seat id in
      record {
        begins = λ k. (seat k).begins;
        mine = λ k. ap (λ (j : ℕ). made_by j (r.locks k).list) (r.each_pass id).name ∙ (seat k).mine;
        whole = λ k h. ((seat k).here h).1;
        opened = λ h. let is = some_if_at id (r.locks 0).holder (sym (seat 0).holds ∙ h) in
            (sym (ap (λ (o : Option ℕ). opened_by o (λ j. (r.passes j).opened)) is), is ∙ ap (λ (j : ℕ). Some j) (sym (r.each_pass id).name));
        closed = λ h e. not_both (is_at id (r.locks 0).holder) (is_at_some id (r.locks 0).holder (e ∙ ap (λ (j : ℕ). Some j) (r.each_pass id).name))
            (sym (seat 0).holds ∙ h);
        hands = λ k. ap (λ (j : ℕ). hand (r.passes j) k) (sym (r.each_pass id).name);
        swept = λ k. ap (λ (j : ℕ). (part (r.passes j) k).swept) (sym (r.each_pass id).name);
        sole = λ k h i ne. (r.each_seat i k).unswept (not_true (part (r.passes i) k).holds
            (λ t. ne (alone id k i ((seat k).here h).0 t ∙ sym (r.each_pass id).name)));
      }

-- The pass id moves at the lock l: it knows p of it now, has these hands, open entries, turns and
-- steps, and the lock comes to `lock`
module _ {X E : Type 0} {stands : ℕ → List (ℕ × E) → X → Type 0} {fact : Locks E → Type 0} {most : ℕ} {s : State (Cell X E) (View E)}
    (r : Turning stands fact most s)
    (id l : ℕ) (h : Here r id l) (p : Part E) (hs : List (List ℕ)) (op : List (ℕ × ℕ × E)) (turns steps : ℕ) (lock : Lock E) where
  abbrev after : View E
  after = record (known r id) { parts = set (r.passes id).parts l p; hands = hs; opened = op; turns = turns; steps = steps }

  abbrev passes' : ℕ → View E
  passes' = at_place r.passes id after

  abbrev locks' : ℕ → Lock E
  locks' = at_place r.locks l lock

  -- what the passes have opened afterwards
  abbrev opens' : ℕ → List (ℕ × ℕ × E)
  opens' = at_place (λ j. (r.passes j).opened) id op

  -- what holds of the new part, and of all others as they were, holds of each
  each_part : (P : ℕ → Part E → Type 0) → P l p → ((k : ℕ) → k ≢ l → P k (part (r.passes id) k)) → (k : ℕ) → P k (part after k)
  each_part = each_set (r.passes id).parts l p (λ _. blank) (let n = h.own.parts in let near = h.near in omega arith)

  -- The word i, which belongs to the lock l, becomes m; only the home of l may change, and the
  -- world comes to u
  pub moved : (i m : ℕ) (homes' : List (maybe.Option (Cell X E))) (u : Locks E) → length hs ≡ r.many → (r.passes id).turns ≤ turns → turns ≤ 2 ^ 43
      → (l ≡ 0 → p.holds ≡ false → op ≡ []) → (l ≢ 0 → (part (r.passes id) 0).holds ≡ false → op ≡ [])
      → ((k q : ℕ) → k < r.many → k ≢ l → q < 4 → (k ≢ i) × (r.many + k ≢ i) × (2 * r.many + (4 * k + q) ≢ i))
      → length homes' ≡ length s.homes → ((k : ℕ) → k ≢ l → get_elem? homes' k ≡ get_elem? s.homes k)
      → SeatOk lock id p → ((j : ℕ) → j ≢ id → SeatOk (r.locks l) j (part (r.passes j) l) → SeatOk lock j (part (r.passes j) l))
      → ((total : ℕ) → total + (r.passes id).turns ≡ turns_of s.views + turns → LockOk stands r.many total (set s.words i m) homes' l lock)
      → Becomes id l (world_of r.locks r.passes) u lock (λ k. get_or hs k []) p.swept (at_place (λ j. (r.passes j).opened) id op)
      → fact u → Turning stands fact most record { words = set s.words i m; homes = homes'; views = set s.views id after } × Stood fact after
  moved i m homes' u long more top shut_zero shut_else apart as_long same_homes mine others lock_is becomes kept =
      let v : View E = known r id in
      let own = h.own in
      let sized = r.sized in
      let word : (k : ℕ) → k ≢ i → get_or (set s.words i m) k 0 ≡ get_or s.words k 0 = λ k n. get_or-set_other s.words i k m 0 n in
      let sums : turns_of (set s.views id after) + v.turns ≡ turns_of s.views + turns = sum_set (λ u. u.turns) s.views id v after h.at in
      let was : Locks E = world_of r.locks r.passes in
      let old : ℕ → List (ℕ × ℕ) = was.swept id in
      let swept_now : Path (ℕ → List (ℕ × ℕ)) (at_place old l p.swept) (λ k. (part after k).swept) = λ t k.
      each_part (λ k q. at_place old l p.swept k ≡ q.swept) (place_here old l l p.swept refl) (λ k n. place_else old l k p.swept n) k t in
      let swept = becomes.swept ∙ (ap (at_place was.swept id) swept_now
      ∙ place_map {B = ℕ → List (ℕ × ℕ)} (λ (v : View E) k. (part v k).swept) r.passes id after) in
      let lists = becomes.lists ∙ place_map (λ (q : Lock E). q.list) r.locks l lock in
      let marks = becomes.marks ∙ place_map (λ (q : Lock E). q.marks) r.locks l lock in
      let hands = becomes.hands ∙ place_map (λ (v : View E). hand v) r.passes id after in
      let holder = becomes.holder ∙ place_zero (λ (q : Lock E). q.holder) r.locks l lock in
      let opened = becomes.opened ∙ (place_zero (λ (q : Lock E). opened_by q.holder opens') r.locks l lock
      ∙ ap (opened_by (locks' 0).holder) (place_map (λ (v : View E). v.opened) r.passes id after)) in
      let told : Path (Histories E) u.told (world_of locks' passes').told = λ t. record { lists = lists t; opened = opened t } in
      let carry : (j : ℕ) → All (IsBack r.retired passes') (r.passes j).back = λ j k d lt. let c : ℕ × List (Part E) = get_or (r.passes j).back k d in
      let q = r.back j k d lt in
      (q.0, ap (λ (u : View E). u.parts) (place_else r.passes id c.0 after (λ z. not_both (r.retired c.0) q.0 (ap r.retired z ∙ h.free))) ∙ q.1, q.2) in
      let s' : State (Cell X E) (View E) = record { words = set s.words i m; homes = homes'; views = set s.views id after } in
      let r' : Turning stands fact most s' = record {
        locks = locks';
        passes = passes';
        retired = r.retired;
        many = r.many;
        count = r.count;
        sized = let words = length-set s.words i m in let views = length-set s.views id after in search arith;
        shown = shown_set r id h.at h.free after;
        each_pass = every (λ j u. IsPass r.many j u) r.passes id after
            (let parts = length-set v.parts l p ∙ own.parts in
            let shut = each_part (λ k q. k ≡ 0 → q.holds ≡ false → op ≡ []) (λ z. shut_zero z)
            (λ k n z h. shut_else (λ q. n (z ∙ sym q)) (ap (λ (i : ℕ). (part v i).holds) (sym z) ∙ h)) 0 refl in
            search)
            (λ j _. r.each_pass j);
        each_seat = λ j k. every (λ k q. SeatOk q j (part (passes' j) k)) r.locks l lock
            (every (λ j u. SeatOk lock j (part u l)) r.passes id after
            (each_part (λ k q. k ≡ l → SeatOk lock id q) (λ _. mine) (λ k n z. absurd (n z)) l refl) (λ j n. others j n (r.each_seat j l)) j)
            (λ k n. every (λ j u. SeatOk (r.locks k) j (part u k)) r.passes id after
            (each_part (λ k q. k ≢ l → SeatOk (r.locks k) id q) (λ z. absurd (z refl)) (λ k _ _. r.each_seat id k) k n) (λ j _. r.each_seat j k) j) k;
        each_lock = λ k lt. every (λ k q. k < r.many → LockOk stands r.many (turns_of (set s.views id after)) (set s.words i m) homes' k q) r.locks l lock
            (λ _. lock_is (turns_of (set s.views id after)) sums)
            (λ k n lt.
            let ok = r.each_lock k lt in
            let one = apart k 0 lt n (omega arith) in
            let marks : (q : ℕ) → q < 4 → get_or (set s.words i m) (2 * r.many + (4 * k + q)) 0 ≡ (r.locks k).marks q =
            λ q t. word (2 * r.many + (4 * k + q)) (apart k q lt n t).2 ∙ ok.marks q t in
            let home : (r.locks k).holder ≡ None → IsHome stands k (r.locks k).list homes' = λ none. let h =
            ok.home none in (h.0, same_homes k n ∙ h.1, h.2, h.3, h.4) in
            search (arith, word, ok)) k lt;
        back = every (λ j u. All (IsBack r.retired passes') u.back) r.passes id after (carry id) (λ j _. carry j);
        tied = subst fact (λ t. record { told = told t; holder = holder t; hands = hands t; marks = marks t; swept = swept t }) kept;
      } in
      let fits = subst (λ u. Fits u (world_of locks' passes')) (ap (shows r.count id) (place_here r.passes id id after refl)) (fits_of r' id) in
      (r', record { world = world_of locks' passes'; fits = fits; holds = r'.tied })
