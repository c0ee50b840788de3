-- What is found in a list so far, when it is looked for one pattern.
use Rattle.std.specs.Prelude.{ℕ, false, not, ◌||◌, List, fold, None}
use Rattle.kd_types.specs.Words.{those, is_empty}
use Rattle.kd_policy.specs.declared.entry.Entry.{Entry}
use Rattle.kd_policy.specs.declared.granted.Granted.{Granted}
use Rattle.kd_policy.specs.declared.owner.Scope.{Scope}
use Rattle.kd_policy.specs.Level.{is_for, greater, levels}
use Rattle.kd_policy.specs.Policy.{Policy, list_of}

-- nothing yet
abbrev pub nothing_granted : Granted
nothing_granted = record { named = false; level = None }

-- what is found with these entries, all of the pattern
abbrev pub and_these : Granted → List Entry → ℕ → ℕ → Granted
and_these found es uid gid = record {
  named = found.named || not (is_empty es);
  level = fold greater found.level (levels uid gid es);
}

-- what is found with those of these entries that are of the pattern
unfoldable pub and_among : Granted → List Entry → List ℕ → ℕ → ℕ → Granted
and_among found es text uid gid = and_these found (those (is_for text) es) uid gid

-- what is found for the pattern in the whole list of the bus or of an endpoint
abbrev pub found_in : Policy → Scope → List ℕ → ℕ → ℕ → Granted
found_in p s text uid gid = and_among nothing_granted (list_of s p) text uid gid
