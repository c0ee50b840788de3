-- Hands agree with pools in a world: what one act at a pool makes of it, wherever that pool is.
use Rattle.std.specs.Prelude.{◌≡◌, ◌≢◌, ◌<◌, ◌≤◌, ◌==◌, ◌&&◌, ℕ, Bool, true, false, List, [], ◌∷◌, ◌++◌, length, get_or, set, refl, Option, Some, None, zero, suc}
use Rattle.std.proofs.Common.{ap, sym, subst, ◌∙◌, arith}
use Rattle.std.proofs.lemmas.Bool.{true≢false}
use Rattle.std.proofs.lemmas.List.{get_or_past}
use mathlib.Core.Logic.{dite}
use native.Mathlib.Decide.{dec_le, ℕ_discrete}
use Rattle.kd_acts.specs.State.{Act, Answer, Hold, Image, Visit, by_desk, close, drain, free, idle, offer, post, publish, raise, read, receive, settle}
use Rattle.kd_acts.specs.Steps.{after, answer}
use Rattle.kd_acts.specs.Lasting.{is_let_be, is_open, open_after}
use Rattle.kd_commands.specs.State.{Desk}
use Rattle.kd_commands.specs.Plans.{Part}
use Rattle.kd_commands.specs.Visits.{images_in, met, next_part, with_images}
use Rattle.kd_commands.specs.Seating.{open_along, open_at}
use Rattle.kd_world.specs.State.{closed_pool}
use Rattle.kd_world.proofs.Agreeing.{Agrees, Face, acted_quietly, but_at, each, is_quiet, set_reads}
use Rattle.kd_acts.proofs.Lasting.{open_follows}

-- ---- up pools along the visits

pub along_none : (s : ℕ) (ps : List Part) (b : Bool) → open_along s ps [] b ≡ b
unfolding open_along
along_none s [] b = refl
along_none s (p ∷ ps) b = refl

-- a settle brings its images, and opens nothing
met_opens : (s : ℕ) (is : List Image) (p : Part) (o : Answer) (b : Bool) → open_at s p o b ≡ open_at s (met is p) o b
met_opens s is p o b = ap (λ x. elim (p.seat == s) [ true ↦ x | false ↦ b ]) (go p.act)
  where
    go : (v : Visit) → open_after (by_desk v) o b ≡ open_after (by_desk (with_images is v)) o b
    go (raise size) = refl
    go (close force) = refl
    go (offer user len source must content) = refl
    go (post image) = refl
    go drain = refl
    go (settle old) = refl

-- one visit more
pub along_more : (s : ℕ) (is : List Image) (ps : List Part) (outs : List Answer) (o : Answer) (q : Part) (b : Bool) → next_part is ps outs ≡ Some q
    → open_along s ps (outs ++ o ∷ []) b ≡ open_at s q o (open_along s ps outs b)
unfolding open_along next_part
along_more s is [] outs o q b e = absurd cc
along_more s is (p ∷ ps) [] o q b e =
    along_none s ps (open_at s p o b) ∙ met_opens s is p o b ∙ ap (λ (x : Option Part). elim x [ None ↦ b | Some y ↦ open_at s y o b ]) e
along_more s is (p ∷ ps) (x ∷ outs) o q b e = along_more s (is ++ images_in x) ps outs o q (open_at s p x b) e

-- ---- a pool of a list, and one that isn't in it

module _ (pools : List Hold) (s : ℕ) (h : Hold) where
  pub set_pool : s < length pools → (k : ℕ) → get_or (set pools s h) k closed_pool ≡ but_at (λ i. get_or pools i closed_pool) s h k
  set_pool lt k = set_reads pools s k h closed_pool lt

  pub set_nowhere : length pools ≤ s → (k : ℕ) → get_or (set pools s h) k closed_pool ≡ get_or pools k closed_pool
  set_nowhere le = past pools s le
    where
      past : (xs : List Hold) (s : ℕ) → length xs ≤ s → (k : ℕ) → get_or (set xs s h) k closed_pool ≡ get_or xs k closed_pool
      past [] s le k = refl
      past (x ∷ xs) zero le k = absurd (omega (arith, le))
      past (x ∷ xs) (suc s) le zero = refl
      past (x ∷ xs) (suc s) le (suc k) = past xs s (omega (arith, le)) k

pub with_pools : (d : Desk) (pool pool' : ℕ → Hold) (face : ℕ → Face) (up : ℕ → Bool) → ((k : ℕ) → pool k ≡ pool' k) → Agrees d pool face up → Agrees d pool' face up
with_pools d pool pool' face up same = subst (λ p. Agrees d p face up) (λ t k. same k t)

pub with_faces : (d : Desk) (pool : ℕ → Hold) (face face' : ℕ → Face) (up : ℕ → Bool) → ((i : ℕ) → face i ≡ face' i) → Agrees d pool face up → Agrees d pool face' up
with_faces d pool face face' up same = subst (λ f. Agrees d pool f up) (λ t i. same i t)

pub with_open : (d : Desk) (pool : ℕ → Hold) (face : ℕ → Face) (up up' : ℕ → Bool) → ((s : ℕ) → up s ≡ up' s) → Agrees d pool face up → Agrees d pool face up'
with_open d pool face up up' same = subst (λ o. Agrees d pool face o) (λ t s. same s t)

-- a pool that isn't up stays so, but by a raise
quiet_closed : (a : Act) (o : Answer) → is_quiet a ≡ true → open_after a o false ≡ false
quiet_closed (by_desk (raise size)) o q = absurd (true≢false (sym q))
quiet_closed (by_desk (close force)) o q = go (is_let_be force o)
  where
    go : (b : Bool) → (b && false) ≡ false
    go true = refl
    go false = refl
quiet_closed (by_desk (offer user len source must content)) o q = refl
quiet_closed (by_desk (post image)) o q = refl
quiet_closed (by_desk drain) o q = refl
quiet_closed (by_desk (settle images)) o q = refl
quiet_closed (publish generation number content) o q = refl
quiet_closed (receive mode) o q = refl
quiet_closed (read number wants) o q = refl
quiet_closed (free number) o q = refl
quiet_closed idle o q = refl

module _ (d : Desk) (pools : List Hold) (face : ℕ → Face) (up : ℕ → Bool) (r : Agrees d (λ k. get_or pools k closed_pool) face up) (s : ℕ) (a : Act) (quiet : is_quiet a ≡ true) where
  abbrev pool : ℕ → Hold
  pool = λ k. get_or pools k closed_pool

  abbrev now : Hold
  now = after (pool s) a

  abbrev said : Answer
  said = answer (pool s) a

  -- an act that moves nothing into a hand or out of it, at any pool
  pub acts_quietly : (up' : ℕ → Bool) → up' s ≡ open_after a said (up s) → ((k : ℕ) → k ≢ s → up' k ≡ up k) → Agrees d (λ k. get_or (set pools s now) k closed_pool) face up'
  acts_quietly up' here_open else_open = dite (dec_le (length pools) s)
      (λ le. with_pools d pool (λ k. get_or (set pools s now) k closed_pool) face up' (λ k. sym (set_nowhere pools s now le k))
      (with_open d pool face up up' (λ k. dite (ℕ_discrete k s)
      (λ z. let shut : up s ≡ false = sym (r.opens s) ∙ ap is_open (get_or_past pools s closed_pool le) in
      subst (λ i. up i ≡ up' i) (sym z) (shut ∙ sym (here_open ∙ ap (open_after a said) shut ∙ quiet_closed a said quiet)))
      (λ ne. sym (else_open k ne))) r))
      (λ gt. with_pools d (but_at pool s now) (λ k. get_or (set pools s now) k closed_pool) face up' (λ k. sym (set_pool pools s now (omega (arith, gt)) k))
      (acted_quietly d pool face up r s a up'
      (each (λ k h. is_open h ≡ up' k) pool s now (open_follows (pool s) a ∙ ap (open_after a said) (r.opens s) ∙ sym here_open) (λ k ne. r.opens k ∙ sym (else_open k ne))) quiet))
