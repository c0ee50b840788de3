-- What an acquire's answer says of the room.
use Rattle.std.proofs.Common.{◌≡◌, ℕ, ◌+◌, ◌<◌, ◌≤◌, Bool, true, false, List, [], ◌∷◌, length, Some, None, Result, Ok, Err, refl, sym, ap, arith, cond, inl, inr}
use Rattle.std.specs.Prelude.{not, ◌&&◌, ◌||◌, ◌⊎◌, ◌==◌, filter, nat_le, unwrap_or}
use Rattle.std.specs.List.{list_any}
use Rattle.std.proofs.lemmas.Bool.{true≢false, and_cases, not-false, leb-false}
use Rattle.kd_model.proofs.Truth.{not_ok}
use Rattle.kd_model.specs.Words.{those, some_of, first_that_holds}
use Rattle.kd_types.specs.Flags.{has_bits}
use Rattle.kd_name.specs.Names.{is_name}
use Rattle.kd_types.specs.declared.flags.NameFlags.{NameFlags}
use Rattle.kd_types.specs.declared.refusal.Refusal.{Refusal}
use Rattle.kd_types.specs.declared.refusal.Refusal.TheVariants.{BadName, AlreadyOwned, TooMany, NameTaken}
use Rattle.kd_registry.specs.declared.claim.Claim.{Claim}
use Rattle.kd_registry.specs.declared.claim.Verdict.{Verdict}
use Rattle.kd_registry.specs.declared.claim.Verdict.TheVariants.{Owner, Queued}
use Rattle.kd_registry.specs.Claims.{is_claim_of, is_placeholder, allows, ranks, held, judged, asked, is_over, activator_answer}

judged_over : (id : ℕ) (flags : NameFlags) (over : Bool) (mine : List Claim) (v : Verdict) → judged id flags over mine ≡ Ok v → over ≡ false
judged_over id flags false mine v e = refl
judged_over id flags true [] v e = absurd (not_ok e)
judged_over id flags true (o ∷ cs) v e =
    go (o.id == id) ((is_placeholder o, Ok (Owner o.id (Some o.id))) ∷ (allows o && has_bits flags.0 1, Ok (Owner o.id None)) ∷ (has_bits flags.0 4, Ok Queued) ∷ []) (Err NameTaken) e
  where
    go : (b : Bool) (rest : List (Bool × Result Verdict Refusal)) (other : Result Verdict Refusal) → unwrap_or (first_that_holds ((b, Err AlreadyOwned) ∷ (true, Err (TooMany 64)) ∷ rest)) other ≡ Ok v → true ≡ false
    go true rest other t = absurd (not_ok t)
    go false rest other t = absurd (not_ok t)

any_counts : (p : Claim → Bool) (xs : List Claim) → list_any p xs ≡ true → 0 < length (filter p xs)
any_counts p [] h = absurd (true≢false (sym h))
any_counts p (x ∷ xs) h = go (p x) h (any_counts p xs)
  where
    go : (b : Bool) → (b || list_any p xs) ≡ true → (list_any p xs ≡ true → 0 < length (filter p xs)) → 0 < length (cond b (x ∷ filter p xs) (filter p xs))
    go true t rest = omega arith
    go false t rest = rest t

-- a name is acquired only where there is room, or where an older claim makes some
pub has_room : (r : List Claim) (id : ℕ) (n : List ℕ) (flags : NameFlags) (v : Verdict) → asked r id n flags ≡ Ok v → (held r id < 64 → length r < 4160) → length r ≤ 4160 → length r < 4160 + length (those (is_claim_of id) (ranks r n))
has_room r id n flags v e room le = named (is_name n) e
  where
    go : (not (some_of (is_claim_of id) (ranks r n)) ≡ false) ⊎ (nat_le 64 (held r id) ≡ false) → length r < 4160 + length (those (is_claim_of id) (ranks r n))
    go (inl t) = omega (arith, le, any_counts (is_claim_of id) (ranks r n) (not-false (some_of (is_claim_of id) (ranks r n)) t))
    go (inr t) = omega (arith, room (leb-false 64 (held r id) t))

    named : (b : Bool) → cond b (judged id flags (is_over r id n) (ranks r n)) (Err BadName) ≡ Ok v → length r < 4160 + length (those (is_claim_of id) (ranks r n))
    named true t = go (and_cases (not (some_of (is_claim_of id) (ranks r n))) (nat_le 64 (held r id)) (judged_over id flags (is_over r id n) (ranks r n) v t))
    named false t = absurd (not_ok t)

-- a name gets an activator only where none stands on it
pub activated_none : (r : List Claim) (n : List ℕ) (done : Unit {0}) → Ok done ≡ activator_answer r n → some_of is_placeholder (ranks r n) ≡ false
activated_none r n done e = go (not (is_name n)) (some_of is_placeholder (ranks r n)) e
  where
    go : (a b : Bool) → Ok done ≡ unwrap_or (first_that_holds ((a, Err BadName) ∷ (b, Err NameTaken) ∷ [])) (Ok tt) → b ≡ false
    go true b t = absurd (not_ok (sym t))
    go false true t = absurd (not_ok (sym t))
    go false false t = refl
