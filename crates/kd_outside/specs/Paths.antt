-- The bytes of a path that only contracts see.
use Rattle.std.specs.Prelude.{ℕ, List, [], ◌∷◌, ◌++◌}
use Rattle.kd_outside.specs.declared.path.Bytes.{Bytes}
use Rattle.kd_outside.specs.declared.path.Bytes.TheVariants.{Empty, Longer'}

-- the bytes, of which each step adds the last
abbrev pub bytes_of : Bytes → List ℕ
bytes_of Empty = []
bytes_of (Longer' marker front byte) = bytes_of front ++ byte ∷ []
