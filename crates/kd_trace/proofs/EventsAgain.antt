-- Events other than takes: what is spelled so is read.
use Rattle.std.proofs.Common.{◌≡◌, ℕ, ◌^◌, ◌<◌, ◌≤◌, List, [], ◌∷◌, drop, refl, ap, ◌∙◌, Bool, true, false, ltb, leb, Option, Some, None, arith}
use Rattle.std.specs.Prelude.{⊤, ℤ}
use mir.ValLaws.{of_z_fits}
use Rattle.std.specs.Int.{w64}
use Rattle.std.proofs.lemmas.Int.{to_z-of_z}
use Rattle.std.proofs.lemmas.Bool.{lt-ltb, leb-true}
use Rattle.kd_model.proofs.Truth.{both_true}
use Rattle.kd_item.specs.Spelling.{words, number}
use Rattle.kd_wire.specs.Commands.{bit}
use Rattle.kd_acts.specs.declared.receive.RecvMode.{RecvMode}
use Rattle.kd_world.specs.Legal.{Event, visit, leave, publishes, receives, reads, frees, is_caller}
use Rattle.kd_world.specs.Legal as legal
use Rattle.kd_replay.specs.Hearing.{IsLimit}
use Rattle.kd_trace.specs.Items.{MayStand, event_entry, limit_word, mode_flags}
use Rattle.kd_trace.specs.Reading.{event_in, free_in, leave_in, mode_in, publish_in, read_in, receive_in, receives_in, visit_in}
use Rattle.kd_trace.proofs.Bodies.{One, Two, Three, one_again, three_again, two_again}

visit_again : (body : List ℕ) (n s : ℕ) → Two body n s → is_caller n ≡ true → s < 64 → visit_in body ≡ Some (visit n s)
visit_again body n s b c lt = let small : ltb s 64 ≡ true = lt-ltb s 64 lt in rw (b.len, b.first, b.second, c, small) refl

leave_again : (body : List ℕ) (n : ℕ) → One body n → is_caller n ≡ true → leave_in body ≡ Some (leave n)
leave_again body n b c = rw (b.len, b.first, c) refl

publish_again : (body : List ℕ) (n s k : ℕ) → Three body n s k → is_caller n ≡ true → s < 64 → k < 2 ^ 32 → publish_in body ≡ Some (publishes n s k)
publish_again body n s k b c lt few =
    let small : ltb s 64 ≡ true = lt-ltb s 64 lt in
    let short : ltb k (2 ^ 32) ≡ true = lt-ltb k (2 ^ 32) few in
    rw (b.len, b.first, b.second, b.third, c, small, short) refl

free_again : (body : List ℕ) (n k : ℕ) → Two body n k → is_caller n ≡ true → k < 2 ^ 32 → free_in body ≡ Some (frees n k)
free_again body n k b c few = let short : ltb k (2 ^ 32) ≡ true = lt-ltb k (2 ^ 32) few in rw (b.len, b.first, b.second, c, short) refl

read_again : (body : List ℕ) (n k : ℕ) (sealed : Bool) → Three body n k (bit sealed) → is_caller n ≡ true → k < 2 ^ 32 → read_in body ≡ Some (reads n k sealed)
read_again body n k true b c few = let short : ltb k (2 ^ 32) ≡ true = lt-ltb k (2 ^ 32) few in rw (b.len, b.first, b.second, b.third, c, short) refl
read_again body n k false b c few = let short : ltb k (2 ^ 32) ≡ true = lt-ltb k (2 ^ 32) few in rw (b.len, b.first, b.second, b.third, c, short) refl

-- a mode of these parts
abbrev mode_by : Bool → Bool → Option ℤ → RecvMode
mode_by peek drop_it limit = record { peek = peek; drop_it = drop_it; limit = limit }

mode_again : (peek drop_it : Bool) (limit : Option ℤ) → IsLimit limit → mode_in (mode_flags (mode_by peek drop_it limit)) (limit_word limit) ≡ Some (mode_by peek drop_it limit)
mode_again true true None f = refl
mode_again true false None f = refl
mode_again false true None f = refl
mode_again false false None f = refl
mode_again true true (Some l) f = ap (λ z. Some (mode_by true true (Some z))) (to_z-of_z w64 l f)
mode_again true false (Some l) f = ap (λ z. Some (mode_by true false (Some z))) (to_z-of_z w64 l f)
mode_again false true (Some l) f = ap (λ z. Some (mode_by false true (Some z))) (to_z-of_z w64 l f)
mode_again false false (Some l) f = ap (λ z. Some (mode_by false false (Some z))) (to_z-of_z w64 l f)

receive_again : (body : List ℕ) (n : ℕ) (mode : RecvMode) → Three body n (mode_flags mode) (limit_word mode.limit) → is_caller n ≡ true → IsLimit mode.limit → receive_in body ≡ Some (receives n mode)
receive_again body n mode b c f =
    let m : mode_in (number (drop 8 body)) (number (drop 16 body)) ≡ Some mode =
    ap (λ k. mode_in k (number (drop 16 body))) b.second ∙ ap (mode_in (mode_flags mode)) b.third ∙ mode_again mode.peek mode.drop_it mode.limit f in
    rw (b.len, b.first, c) (ap (receives_in n) m)

pub caller_small : (n : ℕ) → is_caller n ≡ true → n < 2 ^ 64
caller_small n c = let most : n ≤ 64 = leb-true n 64 (both_true (leb 1 n) (leb n 64) c).1 in omega (arith, most)

low_flags : (mode : RecvMode) → mode_flags mode < 2 ^ 64
low_flags mode = low mode.peek mode.drop_it mode.limit
  where
    low : (peek drop_it : Bool) (limit : Option ℤ) → mode_flags (mode_by peek drop_it limit) < 2 ^ 64
    low true true None = omega arith
    low true false None = omega arith
    low false true None = omega arith
    low false false None = omega arith
    low true true (Some l) = omega arith
    low true false (Some l) = omega arith
    low false true (Some l) = omega arith
    low false false (Some l) = omega arith

limit_small : (limit : Option ℤ) → IsLimit limit → limit_word limit < 2 ^ 64
limit_small None f = omega arith
limit_small (Some l) f = (of_z_fits w64 l f).fits

bit_small : (b : Bool) → bit b < 2 ^ 64
bit_small true = omega arith
bit_small false = omega arith

-- an event's item, but a take's, is read as it
abbrev Again : Event → Type 0
Again e = event_in (event_entry e).kind (event_entry e).body ≡ Some e

-- whose command a take gives
abbrev pub IsTake : Event → Type 0
IsTake (legal.take n x) = ⊤
IsTake _ = ⊥

pub event_again : (e : Event) → MayStand e → (IsTake e → ⊥) → Again e
unfolding event_in
event_again (legal.take n x) m no_take = absurd (no_take tt)
event_again (visit n s) m no_take = visit_again (words (n ∷ s ∷ [])) n s (two_again n s _ (caller_small n m.caller) (let lt : s < 64 = m.form in omega (arith, lt)) refl) m.caller m.form
event_again (leave n) m no_take = leave_again (words (n ∷ [])) n (one_again n _ (caller_small n m.caller) refl) m.caller
event_again (publishes n s k) m no_take =
    publish_again (words (n ∷ s ∷ k ∷ [])) n s k (three_again n s k _ (caller_small n m.caller) (let lt : s < 64 = m.form.0 in omega (arith, lt)) (let lt : k < 2 ^ 32 = m.form.1 in omega (arith, lt)) refl) m.caller m.form.0 m.form.1
event_again (receives n mode) m no_take =
    receive_again (words (n ∷ mode_flags mode ∷ limit_word mode.limit ∷ [])) n mode (three_again n (mode_flags mode) (limit_word mode.limit) _ (caller_small n m.caller) (low_flags mode) (limit_small mode.limit m.form) refl) m.caller m.form
event_again (reads n k sealed) m no_take =
    read_again (words (n ∷ k ∷ bit sealed ∷ [])) n k sealed (three_again n k (bit sealed) _ (caller_small n m.caller) (let lt : k < 2 ^ 32 = m.form in omega (arith, lt)) (bit_small sealed) refl) m.caller m.form
event_again (frees n k) m no_take = free_again (words (n ∷ k ∷ [])) n k (two_again n k _ (caller_small n m.caller) (let lt : k < 2 ^ 32 = m.form in omega (arith, lt)) refl) m.caller m.form
