-- UTF-8, as a fact and as a test.
use Rattle.std.proofs.Common.{◌≡◌, ℕ, Bool, true, false, List, refl, sym}
use Rattle.std.specs.Str.{IsUtf8, is_utf8}
use Rattle.std.proofs.lemmas.Str.{IsUtf8-from_is_utf8, is_utf8-from_IsUtf8}

pub passes : (bs : List ℕ) → IsUtf8 bs → true ≡ is_utf8 bs
passes bs h = sym (is_utf8-from_IsUtf8 bs h)

by_cases : (b : Bool) → (b ≡ true → ⊥) → false ≡ b
by_cases true never = absurd (never refl)
by_cases false never = refl

pub fails : (bs : List ℕ) → ¬ (IsUtf8 bs) → false ≡ is_utf8 bs
fails bs never = by_cases (is_utf8 bs) (λ e. never (IsUtf8-from_is_utf8 bs e))
