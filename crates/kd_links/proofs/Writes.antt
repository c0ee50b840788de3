-- A write to one node leaves the fields that it doesn't name.
use Rattle.std.proofs.Common.{◌≡◌, ℕ, ◌<◌, List, map, length, get_or, set, sym, ap, ◌∙◌, arith}
use Rattle.std.specs.Prelude.{◌∷◌, true, slice_index}
use Rattle.std.proofs.lemmas.List.{get_or-map, length-map, map-set, set-get_or}
use Rattle.kd_model.specs.Words.{contains}
use Rattle.kd_rings.specs.Rings.{IsRing, order}
use Rattle.kd_links.specs.Chains.{nexts, previouses}
use Rattle.kd_links.specs.declared.node.Node.{Node}
use Rattle.kd_rings.proofs.Rings.{next_inside, previous_inside, ring_inside}

pub same_under : {X Y : Type 0} (f : X → Y) (xs : List X) (i : ℕ) (x y : X) → i < length xs → x ≡ get_or xs i x → f y ≡ f x → map f (set xs i y) ≡ map f xs
same_under f xs i x y lt e same =
    map-set f xs i y ∙ ap (set (map f xs) i) (same ∙ ap f e ∙ sym (get_or-map f xs i x (f x) lt)) ∙ set-get_or (map f xs) i (f x)

-- a field of what is read at a place
pub read_under : {X : Type 0} (f : X → ℕ) (xs : List X) (i : ℕ) (x : X) → i < length xs → x ≡ get_or xs i x → f x ≡ get_or (map f xs) i 0
read_under f xs i x lt e = ap f e ∙ sym (get_or-map f xs i x 0 lt)

-- where the nodes of a ring lie
pub node_inside : (head : ℕ) (ns : List Node) (p : ℕ) → IsRing head (nexts ns) (previouses ns) → contains p (head ∷ order head (nexts ns)) ≡ true → p < length ns
node_inside head ns p r h = omega (arith, length-map ns (λ (n : Node). n.next), ring_inside head (nexts ns) (previouses ns) p r h)

pub next_node : (head : ℕ) (ns : List Node) (p : ℕ) → IsRing head (nexts ns) (previouses ns) → contains p (head ∷ order head (nexts ns)) ≡ true → slice_index (nexts ns) p < length ns
next_node head ns p r h = omega (arith, length-map ns (λ (n : Node). n.next), next_inside head (nexts ns) (previouses ns) p r h)

pub previous_node : (head : ℕ) (ns : List Node) (p : ℕ) → IsRing head (nexts ns) (previouses ns) → contains p (order head (nexts ns)) ≡ true → slice_index (previouses ns) p < length ns
previous_node head ns p r h = omega (arith, length-map ns (λ (n : Node). n.next), previous_inside head (nexts ns) (previouses ns) p r h)
