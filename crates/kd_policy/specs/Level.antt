-- What a list of entries grants on a name.
use Rattle.std.specs.Prelude.{ℕ, Bool, true, nat_lt, ◌==◌, if◌then◌else◌, List, map, fold, Option, Some, None}
use Rattle.kd_types.specs.declared.creds.Level.{Level}
use Rattle.kd_types.specs.declared.creds.Level.TheVariants.{See, Talk, Own}
use Rattle.kd_types.specs.Words.{same, those, some_of}
use Rattle.kd_name.specs.Patterns.{covers}
use Rattle.kd_policy.specs.declared.entry.Entry.{Entry}
use Rattle.kd_policy.specs.declared.entry.Subject.{Subject}
use Rattle.kd_policy.specs.declared.entry.Subject.TheVariants.{User, Group, World}

-- a greater level includes the lesser ones
abbrev pub rank : Level → ℕ
rank See = 1
rank Talk = 2
rank Own = 3

-- the greater of two levels, of which the first may be missing
abbrev pub greater : Option Level → Level → Option Level
greater None l = Some l
greater (Some k) l = if nat_lt (rank k) (rank l) then Some l else Some k

-- the greatest of some levels
abbrev pub greatest : List Level → Option Level
greatest ls = fold greater None ls

-- the subject is this user, this group, or everyone
abbrev pub is_meant : ℕ → ℕ → Subject → Bool
is_meant uid gid (User u) = u == uid
is_meant uid gid (Group g) = g == gid
is_meant uid gid World = true

-- the entry is for these credentials
abbrev pub subject_fits : ℕ → ℕ → Entry → Bool
subject_fits uid gid e = is_meant uid gid e.subject

-- the entry's pattern is this text, byte for byte
abbrev pub is_for : List ℕ → Entry → Bool
is_for text e = same e.pattern text

-- the entry's pattern covers the name
abbrev pub covers_name : List ℕ → Entry → Bool
covers_name name e = covers e.pattern name

-- the entries that count for a name: those with the name as their pattern, whoever they are for;
-- where there is none, those that cover it
abbrev pub counting : List Entry → List ℕ → List Entry
counting es name =
    if some_of (is_for name) es then those (is_for name) es else those (covers_name name) es

-- the levels that some entries give these credentials
abbrev pub levels : ℕ → ℕ → List Entry → List Level
levels uid gid es = map (λ (e : Entry). e.level) (those (subject_fits uid gid) es)

-- the greatest level that the entries that count give these credentials
unfoldable pub level_of : List Entry → List ℕ → ℕ → ℕ → Option Level
level_of es name uid gid = greatest (levels uid gid (counting es name))
