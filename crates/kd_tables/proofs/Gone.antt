-- Connections that leave one after the other, and an endpoint that goes with them.
use Rattle.std.proofs.Common.{◌≡◌, ◌<◌, ◌+◌, ℕ, Bool, true, false, List, [], ◌∷◌, ◌++◌, length, get_or, take, refl, sym, ap, ◌∙◌}
use Rattle.std.specs.Prelude.{◌==◌, ◌||◌, ◌&&◌, not, filter, nat_eq}
use Rattle.std.proofs.lemmas.List.{take_more}
use Rattle.std.proofs.lemmas.List.Folds.{list_any-append}
use Rattle.std.proofs.lemmas.List.Sums.{fold-append}
use Rattle.kd_model.specs.Words.{but_those, contains, those}
use Rattle.kd_policy.specs.declared.owner.Owner.TheVariants as owner
use Rattle.kd_policy.specs.Policy.{after_drop}
use Rattle.kd_endpoint.specs.Labels.{after_remove}
use Rattle.kd_match.specs.Rules.{without_conn}
use Rattle.kd_seal.specs.Book as seal
use Rattle.kd_registry.specs.declared.claim.Claim.{Claim}
use Rattle.kd_replies.specs.declared.request.Request.{Request}
use Rattle.kd_replies.specs.Requests.{is_among}
use Rattle.kd_commands.specs.declared.conn.Conn.{Conn}
use Rattle.kd_commands.specs.State.{Desk, seat_set}
use Rattle.kd_commands.specs.Leaving.{concerns_one, ids_of, on_endpoint, without_conns, without_endpoint}
use Rattle.kd_commands.proofs.Gone.{filter_alike}
use Rattle.kd_tables.specs.Room.{seats_on}
use Rattle.kd_tables.proofs.Marks.{both_filters}

-- ---- connections that leave one after the other

kept_all : {X : Type 0} (xs : List X) → filter (λ x. true) xs ≡ xs
kept_all [] = refl
kept_all (x ∷ xs) = ap (x ∷◌) (kept_all xs)

-- nobody leaves
pub without_none : (d : Desk) → without_conns d [] ≡ d
unfolding without_conns
without_none d = rw (kept_all d.conns, kept_all d.registry, kept_all d.requests) refl

neither : (a b : Bool) → (not a && not b) ≡ not (a || b)
neither true b = refl
neither false b = refl

none_of_four : (a b x y : Bool) → (not (a || b) && not (x || y)) ≡ not ((a || x) || (b || y))
none_of_four true b x y = refl
none_of_four false true true y = refl
none_of_four false true false y = refl
none_of_four false false x y = refl

but_both : {X : Type 0} (p q both : X → Bool) → ((x : X) → (not (p x) && not (q x)) ≡ not (both x)) → (xs : List X) → but_those q (but_those p xs) ≡ but_those both xs
but_both p q both h xs = both_filters (λ x. not (q x)) (λ x. not (p x)) xs ∙ filter_alike _ _ h xs

among_more : (ids : List ℕ) (id x : ℕ) → is_among (ids ++ id ∷ []) x ≡ (is_among ids x || is_among (id ∷ []) x)
among_more ids id x = list_any-append (λ i. i == x) ids (id ∷ [])

-- one more leaves
without_more : (d : Desk) (ids : List ℕ) (id : ℕ) → without_conns (without_conns d ids) (id ∷ []) ≡ without_conns d (ids ++ id ∷ [])
unfolding without_conns
without_more d ids id =
    let more : List ℕ = ids ++ id ∷ [] in
    let conns : but_those (λ (c : Conn). is_among (id ∷ []) c.id) (but_those (λ (c : Conn). is_among ids c.id) d.conns) ≡ but_those (λ (c : Conn). is_among more c.id) d.conns =
    but_both _ _ _ (λ c. neither (is_among ids c.id) (is_among (id ∷ []) c.id) ∙ ap not (sym (among_more ids id c.id))) d.conns in
    let claims : but_those (λ (c : Claim). contains c.id (id ∷ [])) (but_those (λ (c : Claim). contains c.id ids) d.registry) ≡ but_those (λ (c : Claim). contains c.id more) d.registry =
    but_both _ _ _ (λ c. neither (contains c.id ids) (contains c.id (id ∷ [])) ∙ ap not (sym (list_any-append (nat_eq c.id) ids (id ∷ [])))) d.registry in
    let requests : but_those (concerns_one (id ∷ [])) (but_those (concerns_one ids) d.requests) ≡ but_those (concerns_one more) d.requests =
    but_both _ _ _ (λ (q : Request). none_of_four (is_among ids q.asker) (is_among ids q.replier) (is_among (id ∷ []) q.asker) (is_among (id ∷ []) q.replier)
    ∙ sym (ap not (ap (λ b. b || is_among more q.replier) (among_more ids id q.asker) ∙ ap (λ b. (is_among ids q.asker || is_among (id ∷ []) q.asker) || b) (among_more ids id q.replier)))) d.requests in
    rw (conns, claims, requests, fold-append (λ q i. after_drop q (owner.Conn i)) d.policy ids (id ∷ []), fold-append without_conn d.rules ids (id ∷ []), fold-append seal.seals_without_conn d.seals ids (id ∷ [])) refl

pub without_one_more : (d : Desk) (ids : List ℕ) (i id : ℕ) → i < length ids → id ≡ get_or ids i id → without_conns (without_conns d (take i ids)) (id ∷ []) ≡ without_conns d (take (i + 1) ids)
without_one_more d ids i id low is =
    without_more d (take i ids) id ∙ ap (λ x. without_conns d (take i ids ++ x ∷ [])) is ∙ sym (ap (without_conns d) (take_more ids i id low))

-- ---- the desk then

-- with the seats blocked of those that came by it
abbrev pub with_seats : Desk → ℕ → Desk
with_seats d e = record d { blocked = seat_set (d.blocked ++ seats_on d.conns e) }

-- and without it and its entries
abbrev pub but_endpoint : Desk → ℕ → Desk
but_endpoint d e = record d { endpoints = after_remove d.endpoints e; policy = after_drop d.policy (owner.Endpoint e) }

pub ended : (d : Desk) (e : ℕ) → but_endpoint (without_conns (with_seats d e) (ids_of (on_endpoint d e))) e ≡ without_endpoint d e
unfolding without_endpoint without_conns
ended d e = refl
