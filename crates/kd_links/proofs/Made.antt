-- Nodes that all name the start, but for the head, which names itself, make two rings of no numbers.
use Rattle.std.specs.Prelude.{◌≡◌, ◌≢◌, ◌<◌, ℕ, List, [], length, map, replicate, slice_index, zero, suc}
use Rattle.std.proofs.Common.{ap, arith, refl, set, ◌∙◌, ◌∷◌}
use Rattle.std.proofs.lemmas.List.{get_or-replicate, get_or-set_same, get_or-set_other, length-replicate, length-set}
use Rattle.kd_rings.specs.Rings.{AreRings, order}
use Rattle.kd_rings.specs.declared.heads.TheConstants.{HEAD, START}
use Rattle.kd_links.specs.declared.node.TheConstants.{NODES}
use Rattle.kd_rings.proofs.Rings.{ring_alone}

pub map_all : {X Y : Type 0} (f : X → Y) (n : ℕ) (x : X) → map f (replicate n x) ≡ replicate n (f x)
map_all f zero x = refl
map_all f (suc n) x = ap (f x ∷◌) (map_all f n x)

abbrev pub blank : List ℕ
blank = set (replicate NODES START) HEAD HEAD

pub record AreMade (fs gs : List ℕ) : Type 0 where
  pub rings : AreRings fs gs
  pub none : order START fs ≡ []
  pub empty : order HEAD fs ≡ []

long : length blank ≡ NODES
long = length-set (replicate NODES START) HEAD HEAD ∙ length-replicate NODES START

apart : START ≢ HEAD
apart e = omega arith

starts : slice_index blank START ≡ START
starts = get_or-set_other (replicate NODES START) HEAD START HEAD 0 apart ∙ get_or-replicate NODES START START 0 (omega arith)

heads : slice_index blank HEAD ≡ HEAD
heads = get_or-set_same (replicate NODES START) HEAD HEAD 0 (omega (arith, length-replicate NODES START))

pub made : AreMade blank blank
made =
    let start_inside : START < length blank = omega (arith, long) in
    let head_inside : HEAD < length blank = omega (arith, long) in
    let s = ring_alone START blank blank start_inside refl starts starts in
    let h = ring_alone HEAD blank blank head_inside refl heads heads in
    record {
      rings = record { first = s.0; second = h.0; low = rw s.1 tt; high = rw h.1 tt };
      none = s.1;
      empty = h.1;
    }
