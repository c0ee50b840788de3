-- What a desk without one connection has.
use Rattle.std.proofs.Common.{◌≡◌, ℕ, Bool, cond, List, [], ◌∷◌, refl, ap, ◌∙◌, arith}
use Rattle.std.specs.Prelude.{◌==◌, ◌||◌, not, filter}
use Rattle.std.proofs.lemmas.Bool.Decides.{nat_tests}
use Rattle.kd_model.specs.Words.{but_those, contains}
use Rattle.kd_registry.specs.declared.claim.Claim.{Claim}
use Rattle.kd_registry.specs.Claims.{left_by}
use Rattle.kd_registry.specs.Changes as registry
use Rattle.kd_replies.specs.declared.request.Request.{Request}
use Rattle.kd_replies.specs.Requests.{concerns, is_among}
use Rattle.kd_commands.specs.declared.conn.Conn.{Conn}
use Rattle.kd_commands.specs.Leaving.{concerns_one}

-- two tests that agree choose the same
pub filter_alike : {X : Type 0} (p q : X → Bool) → ((x : X) → p x ≡ q x) → (xs : List X) → filter p xs ≡ filter q xs
filter_alike p q h [] = refl
filter_alike p q h (x ∷ xs) = ap (λ b. cond b (x ∷ filter p xs) (filter p xs)) (h x) ∙ ap (λ ys. cond (q x) (x ∷ ys) ys) (filter_alike p q h xs)

-- one is among one alone where they are the same
pub among_one : (id x : ℕ) → is_among (id ∷ []) x ≡ (x == id)
among_one id x = grind (arith, nat_tests)

pub contains_one : (id x : ℕ) → contains x (id ∷ []) ≡ (x == id)
contains_one id x = grind (arith, nat_tests)

pub conns_without : (id : ℕ) (cs : List Conn) → but_those (λ (c : Conn). is_among (id ∷ []) c.id) cs ≡ but_those (λ (c : Conn). c.id == id) cs
conns_without id cs = filter_alike _ _ (λ c. ap not (among_one id c.id)) cs

pub claims_without : (id : ℕ) (r : List Claim) → registry.claims_without (id ∷ []) r ≡ left_by r id
claims_without id r = filter_alike _ _ (λ c. ap not (contains_one id c.id)) r

pub requests_without : (id : ℕ) (qs : List Request) → but_those (concerns_one (id ∷ [])) qs ≡ but_those (concerns id) qs
requests_without id qs = filter_alike _ _ (λ (q : Request). ap not (ap (λ b. b || is_among (id ∷ []) q.replier) (among_one id q.asker) ∙ ap (λ b. (q.asker == id) || b) (among_one id q.replier))) qs
