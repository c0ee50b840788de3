-- Two rings in one vector that have no number in common: what is done to one leaves the other.
use Rattle.std.specs.Prelude.{◌≡◌, ◌≢◌, ◌<◌, ◌≤◌, ℕ, true, false, List, ◌∷◌, length, slice_index}
use Rattle.std.specs.List.{AllByRecursion}
use Rattle.std.proofs.Common.{arith, set, ◌∙◌}
use Rattle.std.proofs.lemmas.List.{get_or-set_other, length-set}
use Rattle.kd_model.proofs.Lists.{all_follow, all_of_filter}
use Rattle.kd_model.specs.Words.{contains}
use Rattle.kd_rings.specs.Rings.{AreRings, IsRing, order, put_behind}
use Rattle.kd_rings.specs.declared.heads.TheConstants.{HEAD, START}
use Rattle.kd_rings.proofs.Linked.{next_holds, previous_holds, without}
use Rattle.kd_rings.proofs.Rings.{all_put, holds_in, later_in, out_ring, put_ring, ring_kept}

-- what is behind and before each number once one is put behind another
abbrev pub put_next : List ℕ → ℕ → ℕ → List ℕ
put_next fs p n = set (set fs n (slice_index fs p)) p n

abbrev pub put_previous : List ℕ → List ℕ → ℕ → ℕ → List ℕ
put_previous fs gs p n = set (set gs n p) (slice_index fs p) n

-- and once one is taken out
abbrev pub out_next : List ℕ → List ℕ → ℕ → List ℕ
out_next fs gs n = set fs (slice_index gs n) (slice_index fs n)

abbrev pub out_previous : List ℕ → List ℕ → ℕ → List ℕ
out_previous fs gs n = set gs (slice_index fs n) (slice_index gs n)

-- numbers that differ from two leave a list that is changed there
twice : (xs : List ℕ) (i v j w k : ℕ) → k ≢ i → k ≢ j → slice_index (set (set xs i v) j w) k ≡ slice_index xs k
twice xs i v j w k a b = get_or-set_other (set xs i v) j k w 0 b ∙ get_or-set_other xs i k v 0 a

-- one ring with a number more beside another ring
put_beside : (head other : ℕ) (In Out : ℕ → Type 0) (fs gs : List ℕ) (p n : ℕ) → ((a b : ℕ) → In a → Out b → b ≢ a) → IsRing head fs gs → IsRing other fs gs → AllByRecursion In (head ∷ order head fs) → AllByRecursion Out (other ∷ order other fs) → contains p (head ∷ order head fs) ≡ true → In n → IsRing other (put_next fs p n) (put_previous fs gs p n) × (order other (put_next fs p n) ≡ order other fs)
put_beside head other In Out fs gs p n apart r o ins outs at new =
    let q = slice_index fs p in
    let pin : In p = holds_in In p (head ∷ order head fs) ins at in
    let qin : In q = next_holds In (slice_index fs) (slice_index gs) p head (order head fs) head r.linked at ins.1 ins.0 in
    ring_kept other fs gs (put_next fs p n) (put_previous fs gs p n) o (length-set (set fs n q) p n ∙ length-set fs n q) (length-set (set gs n p) q n ∙ length-set gs n p)
    (all_follow Out (λ k. slice_index (put_next fs p n) k ≡ slice_index fs k) (other ∷ order other fs) (λ k h. twice fs n q p n k (apart n k new h) (apart p k pin h)) outs)
    (all_follow Out (λ k. slice_index (put_previous fs gs p n) k ≡ slice_index gs k) (other ∷ order other fs) (λ k h. twice gs n p q n k (apart n k new h) (apart q k qin h)) outs)

-- one ring with a number less beside another ring
out_beside : (head other : ℕ) (In Out : ℕ → Type 0) (fs gs : List ℕ) (n : ℕ) → ((a b : ℕ) → In a → Out b → b ≢ a) → IsRing head fs gs → IsRing other fs gs → AllByRecursion In (head ∷ order head fs) → AllByRecursion Out (other ∷ order other fs) → contains n (order head fs) ≡ true → IsRing other (out_next fs gs n) (out_previous fs gs n) × (order other (out_next fs gs n) ≡ order other fs)
out_beside head other In Out fs gs n apart r o ins outs at =
    let q = slice_index fs n in let p = slice_index gs n in
    let pin : In p = previous_holds In (slice_index fs) (slice_index gs) n head (order head fs) head r.linked at ins.1 ins.0 in
    let qin : In q = next_holds In (slice_index fs) (slice_index gs) n head (order head fs) head r.linked (later_in n head (order head fs) at) ins.1 ins.0 in
    ring_kept other fs gs (out_next fs gs n) (out_previous fs gs n) o (length-set fs p q) (length-set gs q p)
    (all_follow Out (λ k. slice_index (out_next fs gs n) k ≡ slice_index fs k) (other ∷ order other fs) (λ k h. get_or-set_other fs p k q 0 (apart p k pin h)) outs)
    (all_follow Out (λ k. slice_index (out_previous fs gs n) k ≡ slice_index gs k) (other ∷ order other fs) (λ k h. get_or-set_other gs q k p 0 (apart q k qin h)) outs)

-- both rings after a change
pub record AreThen (fs gs ss hs : List ℕ) : Type 0 where
  pub rings : AreRings fs gs
  pub first_now : order START fs ≡ ss
  pub second_now : order HEAD fs ≡ hs

lows : (fs gs : List ℕ) → AreRings fs gs → AllByRecursion (λ k. k < HEAD) (START ∷ order START fs)
lows fs gs r = (omega arith, r.low)

highs : (fs gs : List ℕ) → AreRings fs gs → AllByRecursion (λ k. HEAD ≤ k) (HEAD ∷ order HEAD fs)
highs fs gs r = (omega arith, all_follow (λ k. HEAD < k) (λ k. HEAD ≤ k) (order HEAD fs) (λ k h. omega arith) r.high)

above : (a b : ℕ) → a < HEAD → HEAD ≤ b → b ≢ a
above a b h g e = omega arith

under : (a b : ℕ) → HEAD ≤ a → b < HEAD → b ≢ a
under a b h g e = omega arith

pub first_put : (fs gs : List ℕ) (p n : ℕ) → AreRings fs gs → contains p (START ∷ order START fs) ≡ true → contains n (START ∷ order START fs) ≡ false → n < START → n < length fs → AreThen (put_next fs p n) (put_previous fs gs p n) (put_behind p n START (order START fs)) (order HEAD fs)
first_put fs gs p n r at new low inside =
    let w = put_ring START fs gs p n r.first at new inside in
    let below : n < HEAD = omega arith in
    let o = put_beside START HEAD (λ k. k < HEAD) (λ k. HEAD ≤ k) fs gs p n above r.first r.second (lows fs gs r) (highs fs gs r) at below in
    record {
      rings = record { first = w.0; second = o.0; low = rw w.1 (all_put (λ k. k < HEAD) p n START (order START fs) below r.low); high = rw o.1 r.high };
      first_now = w.1;
      second_now = o.1;
    }

pub second_put : (fs gs : List ℕ) (p n : ℕ) → AreRings fs gs → contains p (HEAD ∷ order HEAD fs) ≡ true → contains n (HEAD ∷ order HEAD fs) ≡ false → HEAD < n → n < length fs → AreThen (put_next fs p n) (put_previous fs gs p n) (order START fs) (put_behind p n HEAD (order HEAD fs))
second_put fs gs p n r at new high inside =
    let w = put_ring HEAD fs gs p n r.second at new inside in
    let above_head : HEAD ≤ n = omega arith in
    let o = put_beside HEAD START (λ k. HEAD ≤ k) (λ k. k < HEAD) fs gs p n under r.second r.first (highs fs gs r) (lows fs gs r) at above_head in
    record {
      rings = record { first = o.0; second = w.0; low = rw o.1 r.low; high = rw w.1 (all_put (λ k. HEAD < k) p n HEAD (order HEAD fs) high r.high) };
      first_now = o.1;
      second_now = w.1;
    }

pub first_out : (fs gs : List ℕ) (n : ℕ) → AreRings fs gs → contains n (order START fs) ≡ true → AreThen (out_next fs gs n) (out_previous fs gs n) (without n (order START fs)) (order HEAD fs)
first_out fs gs n r at =
    let w = out_ring START fs gs n r.first at in
    let o = out_beside START HEAD (λ k. k < HEAD) (λ k. HEAD ≤ k) fs gs n above r.first r.second (lows fs gs r) (highs fs gs r) at in
    record {
      rings = record { first = w.0; second = o.0; low = rw w.1 (all_of_filter (λ k. k < HEAD) _ (order START fs) r.low); high = rw o.1 r.high };
      first_now = w.1;
      second_now = o.1;
    }

pub second_out : (fs gs : List ℕ) (n : ℕ) → AreRings fs gs → contains n (order HEAD fs) ≡ true → AreThen (out_next fs gs n) (out_previous fs gs n) (order START fs) (without n (order HEAD fs))
second_out fs gs n r at =
    let w = out_ring HEAD fs gs n r.second at in
    let o = out_beside HEAD START (λ k. HEAD ≤ k) (λ k. k < HEAD) fs gs n under r.second r.first (highs fs gs r) (lows fs gs r) at in
    record {
      rings = record { first = o.0; second = w.0; low = rw o.1 r.low; high = rw w.1 (all_of_filter (λ k. HEAD < k) _ (order HEAD fs) r.high) };
      first_now = o.1;
      second_now = w.1;
    }
