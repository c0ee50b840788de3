-- Examples, by computation.
use Rattle.std.specs.Prelude.{◌≡◌, ℕ, List, [], ◌∷◌, map, Some, Ok, Err, codes, refl}
use Rattle.kd_types.specs.declared.flags.NameFlags.{NameFlags}
use Rattle.kd_types.specs.declared.refusal.Refusal.TheVariants.{AlreadyOwned, NameTaken, NoSuchName, NotOwner}
use Rattle.kd_registry.specs.declared.claim.Claim.{Claim}
use Rattle.kd_registry.specs.declared.claim.Verdict.TheVariants.{Owner}
use Rattle.kd_registry.specs.Claims.{asked, acquired, claim_of, left_by, release_answer, after_activator, activator_answer}

-- `replace` is 1, `allow` 2, `queue` 4
abbrev with_flags : ℕ → NameFlags
with_flags n = record { 0 = n }

abbrev acquires : List Claim → ℕ → ℕ → List Claim
acquires r id flags = acquired r (claim_of id (codes "a.b") (with_flags flags)) (asked r id (codes "a.b") (with_flags flags))

abbrev ids : List Claim → List ℕ
ids r = map (λ (c : Claim). c.id) r

-- 1 allows and queues, 3 queues, 2 replaces
abbrev three : List Claim
three = acquires (acquires (acquires [] 1 6) 3 4) 2 1

replaced_owner_stands_next : ids three ≡ 2 ∷ 1 ∷ 3 ∷ []
replaced_owner_stands_next = refl

left : ids (left_by three 2) ≡ 1 ∷ 3 ∷ []
left = refl

queued_again : ids (acquires three 1 4) ≡ 2 ∷ 1 ∷ 3 ∷ []
queued_again = refl

taken_from_the_queue : ids (acquires (acquires (acquires (acquires [] 1 2) 2 4) 3 4) 3 1) ≡ 3 ∷ 2 ∷ []
taken_from_the_queue = refl

owned : asked three 2 (codes "a.b") (with_flags 0) ≡ Err AlreadyOwned
owned = refl

not_taken : asked three 4 (codes "a.b") (with_flags 1) ≡ Err NameTaken
not_taken = refl

not_claimed : release_answer three 4 (codes "a.b") ≡ Err NotOwner
not_claimed = refl

not_owned : release_answer three 4 (codes "c.d") ≡ Err NoSuchName
not_owned = refl

next_owns : release_answer three 2 (codes "a.b") ≡ Ok 1
next_owns = refl

abbrev placeheld : List Claim
placeheld = after_activator [] 9 (codes "a.b") (activator_answer [] (codes "a.b"))

activator_hands_over : asked placeheld 1 (codes "a.b") (with_flags 0) ≡ Ok (Owner 9 (Some 9))
activator_hands_over = refl

activator_is_last : ids (acquires (acquires placeheld 1 0) 2 4) ≡ 1 ∷ 2 ∷ 9 ∷ []
activator_is_last = refl
