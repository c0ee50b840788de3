-- All numbers are in use, or no gap is so long.
use Rattle.std.specs.Prelude.{◌≡◌, ℕ, None, Option, Some, length, refl, vec_capacity}
use Rattle.std.proofs.Common.{ap, arith, sym, ◌∙◌}
use Rattle.std.proofs.lemmas.List.{length-map}
use Rattle.kd_model.specs.Slices.{unused_number}
use Rattle.kd_pool.proofs.Kept.{book_shown, fewer_slots}
use Rattle.kd_pool.proofs.Longs.{all_in_use, nothing_holds}
use Rattle.kd_pool.proofs.Offers.{reserves_none, reserves_nowhere}
use Rattle.kd_acts.specs.State.{book_of, placed_of}
use Rattle.kd_pool.proofs.pool.Pool.why_too_long.Goals as goal

pub returns-then-len : goal.returns-then-len
returns-then-len c = λ len source user long.
    let b = c.self.inside.book in
    let ss = c.self.inside.slots.items in
    let k = c.self.invariant.kept in
    let book : book_of c.args.self.now ≡ b = sym (ap book_of c.self.view_is) ∙ book_shown c.self.inside.memory.items c.self.inside.shares.items b ss (vec_capacity c.self.inside.slots) c.self.inside.next_arrival c.self.inside.dropped c.self.inside.offered k in
    let unspent : unused_number b ≡ None → ⊥ = λ u. let many = all_in_use b u in omega (arith, many, ap length k.tied, length-map ss placed_of) in
    reserves_nowhere c.args.self.now b len source user book unspent (nothing_holds b len k.sound (omega (arith, k.fits, long)))

pub returns-else-len : goal.returns-else-len
returns-else-len c = λ len source user long.
    let b = c.self.inside.book in
    let ss = c.self.inside.slots.items in
    let k = c.self.invariant.kept in
    let room = vec_capacity c.self.inside.slots in
    let book : book_of c.args.self.now ≡ b = sym (ap book_of c.self.view_is) ∙ book_shown c.self.inside.memory.items c.self.inside.shares.items b ss room c.self.inside.next_arrival c.self.inside.dropped c.self.inside.offered k in
    let used : (n : ℕ) → unused_number b ≡ Some n → ⊥ = λ n e. let fewer = fewer_slots c.self.inside.memory.items b ss room n k e in omega (arith, fewer) in
    reserves_none c.args.self.now b len source user book (none_is (unused_number b) used)
  where
    none_is : (o : Option ℕ) → ((n : ℕ) → o ≡ Some n → ⊥) → o ≡ None
    none_is None h = refl
    none_is (Some n) h = absurd (h n refl)
