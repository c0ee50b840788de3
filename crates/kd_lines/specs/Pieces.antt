-- How bytes fall into frames, or into replies.
use Rattle.std.specs.Prelude.{◌≡◌, ◌≢◌, ℕ, ◌≤◌, ◌%◌, List, [], ◌∷◌, ◌++◌, length, take, Option}
use Rattle.std.specs.List.{flat_map, AllByRecursion}
use Rattle.std.specs.Io.KnownBytes.{Appends}
use Rattle.kd_item.specs.Spelling.{number}
use Rattle.kd_lines.specs.declared.kind.Kind.{Kind}
use Rattle.kd_lines.specs.declared.kind.Kind.TheVariants.{Frames, Replies}

-- the greatest size: of a frame 128 KiB, of a reply all that a run takes
abbrev pub most_of : Kind → ℕ
most_of Frames = 131072
most_of Replies = 16777216

-- a whole frame or reply: its first word is its size, in words
pub record IsPiece (kind : Kind) (piece : List ℕ) : Type 0 where
  pub size : number piece ≡ length piece
  pub low : 32 ≤ length piece
  pub high : length piece ≤ most_of kind
  pub whole : length piece % 8 ≡ 0

-- no whole one stands at the front
abbrev pub HasNoPiece : Kind → List ℕ → Type 0
HasNoPiece kind bytes =
    (piece rest : List ℕ) → IsPiece kind piece → bytes ≡ piece ++ rest → ⊥

-- pieces one after the other
abbrev pub joined : List (List ℕ) → List ℕ
joined pieces = flat_map (λ piece. piece) pieces

-- the bytes are these parts, each of which is one, and a rest
pub record IsCut (IsOne : List ℕ → Type 0) (bytes : List ℕ) (parts : List (List ℕ))
    (rest : List ℕ) : Type 0 where
  pub whole : bytes ≡ joined parts ++ rest
  pub each : AllByRecursion IsOne parts

-- what comes of parts, in their order: something of each
abbrev pub AllCome : (List ℕ → List ℕ → Type 0) → List (List ℕ) → List ℕ → Type 0
AllCome Comes [] written = written ≡ []
AllCome Comes (p ∷ ps) written =
    (first : List ℕ) × (more : List ℕ) × Comes p first × (written ≡ first ++ more)
    × AllCome Comes ps more

-- a front of what comes of the first parts was written
abbrev pub WritesFront : (List ℕ → Type 0) → (List ℕ → List ℕ → Type 0) → List ℕ
    → Option (List ℕ) → Option (List ℕ) → Type 0
WritesFront IsOne Comes bytes held_before held_after =
    (parts : List (List ℕ)) × (rest written : List ℕ) × (n : ℕ) × IsCut IsOne bytes parts rest
    × AllCome Comes parts written × Appends held_before held_after (take n written)

-- what comes of all these parts was written
abbrev pub WritesAll : (List ℕ → List ℕ → Type 0) → List (List ℕ) → Option (List ℕ)
    → Option (List ℕ) → Type 0
WritesAll Comes parts held_before held_after =
    (written : List ℕ) × AllCome Comes parts written × Appends held_before held_after written

-- what comes of all the bytes was written
abbrev pub WritesWhole : (List ℕ → Type 0) → (List ℕ → List ℕ → Type 0) → List ℕ
    → Option (List ℕ) → Option (List ℕ) → Type 0
WritesWhole IsOne Comes bytes held_before held_after =
    (parts : List (List ℕ)) × IsCut IsOne bytes parts []
    × WritesAll Comes parts held_before held_after

-- what comes of the parts before this place was written, and bytes are left there
abbrev pub WritesUpTo : (List ℕ → Type 0) → (List ℕ → List ℕ → Type 0) → (List ℕ → Type 0)
    → List ℕ → ℕ → Option (List ℕ) → Option (List ℕ) → Type 0
WritesUpTo IsOne Comes IsLeft bytes at held_before held_after =
    (parts : List (List ℕ)) × (rest : List ℕ) × IsCut IsOne bytes parts rest × (rest ≢ [])
    × IsLeft rest × (at ≡ length (joined parts)) × WritesAll Comes parts held_before held_after
