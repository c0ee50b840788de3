-- Passes that come in turn.
use Rattle.std.proofs.Common.{◌≡◌, ◌≢◌, ◌<◌, ◌≤◌, ◌==◌, ◌⊎◌, inl, inr, ℕ, zero, suc, ◌+◌, ◌-◌, Bool, true, false, cond, drop, List, [], ◌∷◌, ◌++◌, length, length-append, refl, ap, sym, subst, ◌∙◌, arith}
use Rattle.std.proofs.lemmas.Bool.{cases_eq, cases_lt}
use Rattle.kd_hands.specs.Lists.{made_by}
use Rattle.kd_histories.specs.Turns.{Turn}
use Rattle.kd_load.specs.Bus.{AreConnected, IsSetUp}
use Rattle.kd_load.specs.Laws.{AreInTurn, IsComing}
use Rattle.kd_load.proofs.Mixed.{made_here}

pub made_append : (k : ℕ) (xs ys : List (ℕ × Turn)) → made_by k (xs ++ ys) ≡ made_by k xs ++ made_by k ys
made_append k [] ys = refl
made_append k (x ∷ xs) ys = go (x.0 == k) (made_append k xs ys)
  where
    go : (b : Bool) → made_by k (xs ++ ys) ≡ made_by k xs ++ made_by k ys → cond b (x ∷ made_by k (xs ++ ys)) (made_by k (xs ++ ys)) ≡ cond b (x ∷ made_by k xs) (made_by k xs) ++ made_by k ys
    go true e = ap (λ zs. x ∷ zs) e
    go false e = e

pub nothing : {X : Type 0} (xs : List X) → length xs ≡ 0 → xs ≡ []
nothing [] e = refl
nothing (x ∷ xs) e = absurd cc

pub same_rest : {X : Type 0} (xs ys zs : List X) → xs ++ ys ≡ xs ++ zs → ys ≡ zs
same_rest [] ys zs e = e
same_rest (x ∷ xs) ys zs e = same_rest xs ys zs (ap (drop 1) e)

-- entries of one pass alone
alone : (j : ℕ) (xs : List (ℕ × Turn)) → ((k : ℕ) → k ≢ j → length (made_by k xs) ≡ 0) → made_by j xs ≡ xs
alone j [] none = refl
alone j ((i, e) ∷ xs) none = go (cases_eq i j) (alone j xs (λ k ne. fewer k (i == k) (none k ne)))
  where
    fewer : (k : ℕ) (b : Bool) → length (cond b ((i, e) ∷ made_by k xs) (made_by k xs)) ≡ 0 → length (made_by k xs) ≡ 0
    fewer k true z = absurd cc
    fewer k false z = z

    go : (i ≡ j) ⊎ (i ≡ j → ⊥) → made_by j xs ≡ xs → made_by j ((i, e) ∷ xs) ≡ (i, e) ∷ xs
    go (inl is) rest = subst (λ (q : ℕ). made_by q ((i, e) ∷ xs) ≡ (i, e) ∷ made_by q xs) is (made_here i e xs) ∙ ap (λ zs. (i, e) ∷ zs) rest
    go (inr ne) rest = let one = ap (λ (zs : List (ℕ × Turn)). length zs) (made_here i e xs) in let z = none i ne in absurd (omega (arith, one, z))

-- connections and one behind them
connect_more : (filters : List (List ℕ)) (i m : ℕ) (xs ys : List (ℕ × Turn)) → AreConnected filters i m xs → AreConnected filters (i + m) 1 ys → AreConnected filters i (suc m) (xs ++ ys)
connect_more filters i zero xs ys e one = subst (λ (zs : List (ℕ × Turn)). AreConnected filters i 1 (zs ++ ys)) (sym e) (subst (λ (q : ℕ). AreConnected filters q 1 ys) (omega arith) one)
connect_more filters i (suc m) [] ys are one = absurd are
connect_more filters i (suc m) (x ∷ []) ys are one = absurd are
connect_more filters i (suc m) (x ∷ y ∷ xs) ys are one = (are.0, are.1, connect_more filters (suc i) m xs ys are.2 (subst (λ (q : ℕ). AreConnected filters q 1 ys) (omega arith) one))

module _ (filters : List (List ℕ)) (n : ℕ) (fronts : ℕ → List (ℕ × Turn)) (list : List (ℕ × Turn)) (turns : AreInTurn filters n fronts list) where
  size : ℕ → ℕ → ℕ
  size k i = length (made_by k (fronts i))

  -- what came behind a front
  new : (j : ℕ) → j < n → List (ℕ × Turn)
  new j lt = (turns.grows j lt).0

  size_more : (k j : ℕ) (lt : j < n) → size k (suc j) ≡ size k j + length (made_by k (new j lt))
  unfolding size new
  size_more k j lt =
      let g = turns.grows j lt in
      ap (λ (zs : List (ℕ × Turn)). length (made_by k zs)) (sym g.1) ∙ (ap (λ (zs : List (ℕ × Turn)). length zs) (made_append k (fronts j) g.0) ∙ length-append (made_by k (fronts j)) (made_by k g.0))

  sizes_grow : (k i m : ℕ) → i + m ≤ n → size k i ≤ size k (i + m)
  sizes_grow k i zero le = let e : size k (i + 0) ≡ size k i = ap (size k) (omega arith) in omega (arith, e)
  sizes_grow k i (suc m) le =
      let rest = sizes_grow k i m (omega arith) in
      let more = size_more k (i + m) (omega arith) in
      let e : size k (i + suc m) ≡ size k (suc (i + m)) = ap (size k) (omega arith) in
      omega (arith, rest, more, e)

  grow_to : (k i j : ℕ) → i ≤ j → j ≤ n → size k i ≤ size k j
  grow_to k i j low high = let g = sizes_grow k i (j - i) (omega arith) in let e : size k (i + (j - i)) ≡ size k j = ap (size k) (omega arith) in omega (arith, g, e)

  size_end : (k : ℕ) → size k n ≤ length (made_by k list)
  unfolding size
  size_end k =
      let g = turns.ends in
      let e = ap (λ (zs : List (ℕ × Turn)). length (made_by k zs)) (sym g.1) ∙ (ap (λ (zs : List (ℕ × Turn)). length zs) (made_append k (fronts n) g.0) ∙ length-append (made_by k (fronts n)) (made_by k g.0)) in
      omega (arith, e)

  size_still : (k : ℕ) → k < n → size k n ≡ size k (suc k)
  unfolding size
  size_still k low = ap (λ (zs : List (ℕ × Turn)). length zs) (turns.still k low)

  not_yet : (k : ℕ) → k < n → size k k ≡ 0
  unfolding size
  not_yet k low = ap (λ (zs : List (ℕ × Turn)). length zs) (turns.before k low)

  no_other : (j : ℕ) (lt : j < n) (k : ℕ) → k ≢ j → length (made_by k (new j lt)) ≡ 0
  no_other j lt k ne = go (cases_lt k n) (cases_lt k j)
    where
      go : (k < n) ⊎ (n ≤ k) → (k < j) ⊎ (j ≤ k) → length (made_by k (new j lt)) ≡ 0
      go (inr past) c =
          let none = ap (λ (zs : List (ℕ × Turn)). length zs) (turns.nobody k past) in
          let more = size_more k j lt in let a = grow_to k (suc j) n (omega arith) (omega arith) in let b = size_end k in
          omega (arith, none, more, a, b)
      go (inl low) (inl before) =
          let more = size_more k j lt in
          let a = grow_to k (suc k) j (omega arith) (omega arith) in
          let b = grow_to k (suc j) n (omega arith) (omega arith) in
          let same : size k n ≡ size k (suc k) = size_still k low in
          omega (arith, more, a, b, same)
      go (inl low) (inr after) =
          let more = size_more k j lt in
          let a = grow_to k (suc j) k (omega arith) (omega arith) in
          let none : size k k ≡ 0 = not_yet k low in
          omega (arith, more, a, none)

  -- what came is the pass's own
  new_is : (j : ℕ) (lt : j < n) → made_by j (fronts (suc j)) ≡ new j lt
  unfolding new
  new_is j lt =
      let g = turns.grows j lt in
      ap (made_by j) (sym g.1) ∙ (made_append j (fronts j) g.0 ∙ ((λ t. turns.before j lt t ++ made_by j g.0) ∙ alone j g.0 (no_other j lt)))

  came : (j : ℕ) (lt : j < n) → (ys : List (ℕ × Turn)) × (fronts (suc j) ≡ fronts j ++ ys) × IsComing filters j ys
  unfolding new
  came j lt = (new j lt, sym (turns.grows j lt).1, subst (IsComing filters j) (new_is j lt) (turns.come j lt))

  pub set_up : (m : ℕ) → m < n → IsSetUp filters (suc m) (fronts (suc m))
  set_up zero lt = let c = came 0 lt in start c.0 (c.1 ∙ (λ t. turns.first t ++ c.0)) c.2
    where
      start : (ys : List (ℕ × Turn)) → fronts 1 ≡ ys → IsComing filters 0 ys → IsSetUp filters 1 (fronts 1)
      start [] e come = absurd come
      start ((j, x) ∷ ys) e come = record {
        pass = j;
        bus = come.0.bus;
        rest = ys;
        are = e ∙ (λ t. (j, come.0.is t) ∷ ys);
        creator = come.0.creator;
        size = come.0.size;
        hashes = come.0.hashes;
        connected = come.1;
      }
  set_up (suc m) lt =
      let old = set_up m (omega arith) in
      let c = came (suc m) lt in
      record {
        pass = old.pass;
        bus = old.bus;
        rest = old.rest ++ c.0;
        are = c.1 ∙ (λ t. old.are t ++ c.0);
        creator = old.creator;
        size = old.size;
        hashes = old.hashes;
        connected = connect_more filters 1 (suc m) old.rest c.0 old.connected (subst (λ (q : ℕ). AreConnected filters q 1 c.0) (omega arith) c.2);
      }
