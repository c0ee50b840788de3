-- A slice that comes behind the last.
use Rattle.std.specs.Prelude.{◌≡◌, ◌<◌, ℕ, true, false, List, [], ◌∷◌, ◌++◌, length, nat_eq, slice_index}
use Rattle.std.proofs.Common.{ap, arith, ◌∙◌}
use Rattle.std.proofs.lemmas.Bool.Decides.{nat_tests}
use Rattle.std.proofs.lemmas.List.{length-map}
use Rattle.kd_model.specs.Words.{contains}
use Rattle.kd_rings.specs.Rings.{AreRings, before, order, put_behind}
use Rattle.kd_rings.proofs.Ends.{before_end, put_end}
use Rattle.kd_rings.proofs.Pairs.{AreThen, put_next, put_previous, first_put}
use Rattle.kd_rings.proofs.Rings.{ring_last}
use Rattle.kd_order.specs.Chains.{nexts, previouses}
use Rattle.kd_order.specs.declared.node.Node.{Node}
use Rattle.kd_rings.specs.declared.heads.TheConstants.{HEAD, START}
use Rattle.kd_order.proofs.Writes.{next_node, node_inside}

-- a slice that comes behind the last
pub record IsArrived (ns : List Node) (last n : ℕ) : Type 0 where
  pub inside : last < length ns
  pub next : slice_index (nexts ns) last < length ns
  pub then : AreThen (put_next (nexts ns) last n) (put_previous (nexts ns) (previouses ns) last n) (order START (nexts ns) ++ n ∷ []) (order HEAD (nexts ns))

pub arrived : (ns : List Node) (last n : ℕ) → AreRings (nexts ns) (previouses ns) → last ≡ slice_index (previouses ns) START → contains n (order START (nexts ns)) ≡ false → n < START → n < length ns → IsArrived ns last n
arrived ns last n r e new low within =
    let fs = nexts ns in let gs = previouses ns in
    let xs = order START fs in
    let is : last ≡ before START START xs = e ∙ ring_last START fs gs r.first in
    let among : contains last (START ∷ xs) ≡ true = ap (λ k. contains k (START ∷ xs)) is ∙ before_end START START xs in
    let other : nat_eq n START ≡ false = grind (arith, nat_tests) in
    let w = first_put fs gs last n r among (rw other new) low (omega (arith, length-map ns (λ (m : Node). m.next))) in
    let end : put_behind last n START xs ≡ xs ++ n ∷ [] = ap (λ k. put_behind k n START xs) is ∙ put_end START n START xs r.first.apart r.first.apart.0 in
    record {
      inside = node_inside START ns last r.first among;
      next = next_node START ns last r.first among;
      then = record { rings = w.rings; first_now = w.first_now ∙ end; second_now = w.second_now };
    }
