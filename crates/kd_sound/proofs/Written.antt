-- What is written into a memory, and what isn't.
use Rattle.std.specs.Prelude.{◌≡◌, ◌≤◌, ◌+◌, ◌⊎◌, ℕ, List, ◌++◌, drop, length, take}
use Rattle.std.proofs.Common.{ap, arith, inl, inr, length-append, length-drop, length-take, sym, take-take, ◌∙◌}
use Rattle.std.proofs.Math.Seq.{drop-append_seam, take-append_seam}
use Rattle.std.proofs.lemmas.List.{drop-take, take-append-le}
use Rattle.std.proofs.lemmas.Slice.{drop-append-drop}
use Rattle.kd_acts.specs.Steps.{written}

module _ (m xs : List ℕ) (at : ℕ) (inside : at + length xs ≤ length m) where
  abbrev front : List ℕ
  front = take at m ++ xs

  abbrev rest : List ℕ
  rest = drop (at + length xs) m

  front_length : length front ≡ at + length xs
  front_length = omega (arith, length-append (take at m) xs, length-take at m)

  -- a write keeps the length
  pub length_written : length (written m at xs) ≡ length m
  length_written = omega (arith, length-append front rest, front_length, length-drop (at + length xs) m)

  -- what is written stands there
  pub written_there : take (length xs) (drop at (written m at xs)) ≡ xs
  written_there =
      let begins : at ≡ length (take at m) = omega (arith, length-take at m) in
      sym (drop-take at (length xs) (written m at xs))
      ∙ ap (λ n. drop at (take n (front ++ rest))) (sym front_length)
      ∙ ap (drop at) (take-append_seam front rest)
      ∙ ap (λ n. drop n front) begins ∙ drop-append_seam (take at m) xs

  -- a range that the write doesn't meet stays
  pub written_elsewhere : (low len : ℕ) → ((low + len ≤ at) ⊎ (at + length xs ≤ low)) → take len (drop low (written m at xs)) ≡ take len (drop low m)
  written_elsewhere low len (inl p) =
      let first : low + len ≤ length (take at m) = omega (arith, length-take at m) in
      sym (drop-take low len (written m at xs))
      ∙ ap (drop low) (take-append-le (low + len) front rest (omega (arith, front_length)) ∙ take-append-le (low + len) (take at m) xs first ∙ take-take (low + len) at m p)
      ∙ drop-take low len m
  written_elsewhere low len (inr p) = ap (take len) (drop-append-drop (at + length xs) m front low p front_length)
