-- How many claims each connection has: as rows tell it, and as the claims themselves do.
use Rattle.std.specs.Prelude.{◌≡◌, ℕ, ◌<◌, ◌≤◌, Bool, true, not, ◌&&◌, List, length, slice_index_or, ◌==◌, if◌then◌else◌}
use Rattle.std.specs.List.{sum_by}
use Rattle.kd_model.specs.Words.{those}
use Rattle.kd_registry.specs.declared.claim.Claim.{Claim}
use Rattle.kd_registry.specs.declared.holdings.Holding.{Holding}
use Rattle.kd_registry.specs.Claims.{is_ordinary_claim}

-- The rows

abbrev pub row_at : List Holding → ℕ → Holding
row_at rows k = slice_index_or rows k (record { id = 0; count = 0 })

-- the ids rise, so that none comes twice, and no row is empty
pub record AreRows (rows : List Holding) : Type 0 where
  pub rising : (i j : ℕ) → i < j → j < length rows → (row_at rows i).id < (row_at rows j).id
  pub some : (k : ℕ) → k < length rows → 0 < (row_at rows k).count

-- the row at the place is the connection's
pub record IsAt (rows : List Holding) (id place : ℕ) : Type 0 where
  pub within : place < length rows
  pub has_id : (row_at rows place).id ≡ id

-- it has none, and would have it at the place: lower ids before it, higher ones from it on
pub record IsGapFor (rows : List Holding) (id place : ℕ) : Type 0 where
  pub within : place ≤ length rows
  pub lower_before : (k : ℕ) → k < place → (row_at rows k).id < id
  pub higher_after : (k : ℕ) → place ≤ k → k < length rows → id < (row_at rows k).id

-- Counts

-- choices of connections: all, only one, and those of a choice but one
abbrev pub anyone : ℕ → Bool
anyone id = true

abbrev pub only : ℕ → ℕ → Bool
only one id = id == one

abbrev pub but : (ℕ → Bool) → ℕ → ℕ → Bool
but chosen one id = chosen id && not (id == one)

abbrev pub one_if : Bool → ℕ
one_if b = if b then 1 else 0

-- a row's count if its connection is chosen
abbrev pub row_count : (ℕ → Bool) → Holding → ℕ
row_count chosen h = if chosen h.id then h.count else 0

-- how many claims the chosen connections have, by the rows
abbrev pub claim_count : (ℕ → Bool) → List Holding → ℕ
claim_count chosen rows = sum_by (row_count chosen) rows

-- an ordinary claim of a chosen connection
abbrev pub is_chosen : (ℕ → Bool) → Claim → Bool
is_chosen chosen c = is_ordinary_claim c && chosen c.id

abbrev pub weight : (ℕ → Bool) → Claim → ℕ
weight chosen c = one_if (is_chosen chosen c)

-- how many ordinary claims they have
abbrev pub claimed : (ℕ → Bool) → List Claim → ℕ
claimed chosen claims = length (those (is_chosen chosen) claims)

-- the rows tell the claims
abbrev pub Tells : List Holding → List Claim → Type 0
Tells rows claims = (chosen : ℕ → Bool) → claim_count chosen rows ≡ claimed chosen claims
