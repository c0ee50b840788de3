-- Which size each open pool has while a plan is visited: the one that its connection asked for.
use Rattle.std.specs.Prelude.{◌≡◌, ◌==◌, ℕ, true, false, List, [], ◌∷◌, Option, Some, None, option_map}
use Rattle.kd_model.specs.Words.{first}
use Rattle.kd_types.specs.declared.refusal.Refusal.{Refusal}
use Rattle.kd_acts.specs.State.{Answer, by_desk}
use Rattle.kd_counts.specs.Sizes.{size_by}
use Rattle.kd_commands.specs.declared.conn.Conn.{Conn}
use Rattle.kd_commands.specs.State.{Desk, has_seat}
use Rattle.kd_commands.specs.Plans.{Part, Plan}
use Rattle.kd_commands.specs.Visits.{first_ends, next_part}
use Rattle.kd_settled.specs.Room.{BySettled}

-- the size that the connection on a seat asked for; none where nobody sits
unfoldable pub size_at : Desk → ℕ → Option ℕ
size_at d s = option_map (λ (c : Conn). c.size) (first (has_seat s) d.conns)

-- the size of a seat's pool after a visit that was answered so
abbrev pub size_then : ℕ → Part → Answer → Option ℕ → Option ℕ
size_then s p o was = elim (p.seat == s) [ true ↦ size_by (by_desk p.act) o was | false ↦ was ]

-- and after as many visits as there are answers
unfoldable pub size_along : ℕ → List Part → List Answer → Option ℕ → Option ℕ
size_along s [] outs was = was
size_along s (p ∷ ps) [] was = was
size_along s (p ∷ ps) (o ∷ outs) was = size_along s ps outs (size_then s p o was)

-- when all is visited each pool has the size that the connection on its seat asked for
abbrev pub HasSizes : Desk → Plan → Type 0
HasSizes d p =
    (outs : List Answer) (s : ℕ) → first_ends p.parts outs ≡ None → next_part [] p.parts outs ≡ None
    → size_along s p.parts outs (size_at d s) ≡ size_at p.next s

abbrev pub PoolsHaveSizes : Type 0
PoolsHaveSizes = BySettled (λ d k w x p. HasSizes d p)

-- where the first part ends all, each has the size that it had
abbrev pub KeepsSizes : Desk → Plan → Type 0
KeepsSizes d p =
    (outs : List Answer) (s : ℕ) (why : Refusal) → first_ends p.parts outs ≡ Some why
    → size_along s p.parts outs (size_at d s) ≡ size_at d s

abbrev pub SizesStay : Type 0
SizesStay = BySettled (λ d k w x p. KeepsSizes d p)
