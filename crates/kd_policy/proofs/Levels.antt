-- The level on a name, from what is found for the name and for its wildcard.
use Rattle.std.proofs.Common.{◌≡◌, ℕ, Bool, true, false, cond, not, ◌||◌, List, [], ◌∷◌, ◌++◌, filter, Option, Some, None, option_map, codes, refl, sym, ap, ◌∙◌}
use Rattle.kd_model.proofs.Truth.{both_false}
use Rattle.kd_types.specs.Words.{same, some_of, is_empty}
use Rattle.kd_name.specs.Patterns.{is_wildcard_of, parent, wildcard_of}
use Rattle.kd_policy.specs.declared.entry.Entry.{Entry}
use Rattle.kd_policy.specs.declared.granted.Granted.{Granted}
use Rattle.kd_policy.specs.Level.{is_for, covers_name, level_of}
use Rattle.kd_policy.specs.Granted.{nothing_granted, and_among}

-- whether some entry passes, and whether a filter leaves one
some_left : (p : Entry → Bool) (es : List Entry) → some_of p es ≡ not (is_empty (filter p es))
some_left p [] = refl
some_left p (e ∷ es) =
    elim (p e) as (λ b. (b || some_of p es) ≡ not (is_empty (cond b (e ∷ filter p es) (filter p es)))) [ true ↦ refl | false ↦ some_left p es ]

-- an entry for the very name
pub exact : (es : List Entry) (name : List ℕ) (uid gid : ℕ) → (and_among nothing_granted es name uid gid).named ≡ true → level_of es name uid gid ≡ (and_among nothing_granted es name uid gid).level
unfolding level_of and_among
exact es name uid gid e =
    let named : some_of (is_for name) es ≡ true = some_left (is_for name) es ∙ e in
    rw named refl

by_wildcard : (p name : List ℕ) (o : Option (List ℕ)) → wildcard_of name ≡ o → is_wildcard_of p name ≡ elim o [ Some w ↦ same p w | None ↦ false ]
by_wildcard p name o is = ap (λ (v : Option (List ℕ)). elim v [ Some w ↦ same p w | None ↦ false ]) is

-- what covers a name that no entry has for its pattern: its one wildcard
one_covers : (e : Entry) (name w : List ℕ) → wildcard_of name ≡ Some w → is_for name e ≡ false → covers_name name e ≡ is_for w e
one_covers e name w is other =
    let by : is_wildcard_of e.pattern name ≡ same e.pattern w = by_wildcard e.pattern name (Some w) is in
    λ i. other i || by i

none_covers : (e : Entry) (name : List ℕ) → wildcard_of name ≡ None → is_for name e ≡ false → covers_name name e ≡ false
none_covers e name is other =
    let by : is_wildcard_of e.pattern name ≡ false = by_wildcard e.pattern name None is in
    λ i. other i || by i

covered : (es : List Entry) (name w : List ℕ) → wildcard_of name ≡ Some w → some_of (is_for name) es ≡ false → filter (covers_name name) es ≡ filter (is_for w) es
covered [] name w is none = refl
covered (e ∷ es) name w is none =
    let other = both_false (is_for name e) (some_of (is_for name) es) none in
    ap (λ b. cond b (e ∷ filter (covers_name name) es) (filter (covers_name name) es)) (one_covers e name w is other.0) ∙ ap (λ xs. cond (is_for w e) (e ∷ xs) xs) (covered es name w is other.1)

uncovered : (es : List Entry) (name : List ℕ) → wildcard_of name ≡ None → some_of (is_for name) es ≡ false → filter (covers_name name) es ≡ []
uncovered [] name is none = refl
uncovered (e ∷ es) name is none =
    let other = both_false (is_for name e) (some_of (is_for name) es) none in
    ap (λ b. cond b (e ∷ filter (covers_name name) es) (filter (covers_name name) es)) (none_covers e name is other.0) ∙ uncovered es name is other.1

unnamed : (es : List Entry) (name : List ℕ) (uid gid : ℕ) → (and_among nothing_granted es name uid gid).named ≡ false → some_of (is_for name) es ≡ false
unfolding and_among
unnamed es name uid gid e = some_left (is_for name) es ∙ e

-- no entry for the very name, and its wildcard
pub wild : (es : List Entry) (name w : List ℕ) (uid gid : ℕ) → (and_among nothing_granted es name uid gid).named ≡ false → wildcard_of name ≡ Some w → level_of es name uid gid ≡ (and_among nothing_granted es w uid gid).level
unfolding level_of and_among
wild es name w uid gid e is =
    let none : some_of (is_for name) es ≡ false = unnamed es name uid gid e in
    rw (none, covered es name w is none) refl

-- nor a wildcard that covers it
pub neither : (es : List Entry) (name : List ℕ) (uid gid : ℕ) → (and_among nothing_granted es name uid gid).named ≡ false → wildcard_of name ≡ None → level_of es name uid gid ≡ None
unfolding level_of and_among
neither es name uid gid e is =
    let none : some_of (is_for name) es ≡ false = unnamed es name uid gid e in
    rw (none, uncovered es name is none) refl

-- the same of what was found, whatever the name is spelt as
pub told_exact : (es : List Entry) (name text : List ℕ) (uid gid : ℕ) (g : Granted) → g ≡ and_among nothing_granted es text uid gid → text ≡ name → g.named ≡ true → g.level ≡ level_of es name uid gid
told_exact es name text uid gid g is same named =
    let found : g ≡ and_among nothing_granted es name uid gid = is ∙ ap (λ t. and_among nothing_granted es t uid gid) same in
    ap (λ (x : Granted). x.level) found ∙ sym (exact es name uid gid (ap (λ (x : Granted). x.named) (sym found) ∙ named))

pub told_wild : (es : List Entry) (name text w : List ℕ) (uid gid : ℕ) (g h : Granted) → g ≡ and_among nothing_granted es text uid gid → text ≡ name → g.named ≡ false → wildcard_of name ≡ Some w → h ≡ and_among nothing_granted es w uid gid → h.level ≡ level_of es name uid gid
told_wild es name text w uid gid g h is same named covering by =
    let found : g ≡ and_among nothing_granted es name uid gid = is ∙ ap (λ t. and_among nothing_granted es t uid gid) same in
    ap (λ (x : Granted). x.level) by ∙ sym (wild es name w uid gid (ap (λ (x : Granted). x.named) (sym found) ∙ named) covering)

pub told_neither : (es : List Entry) (name text : List ℕ) (uid gid : ℕ) (g : Granted) → g ≡ and_among nothing_granted es text uid gid → text ≡ name → g.named ≡ false → wildcard_of name ≡ None → level_of es name uid gid ≡ None
told_neither es name text uid gid g is same named covering =
    let found : g ≡ and_among nothing_granted es name uid gid = is ∙ ap (λ t. and_among nothing_granted es t uid gid) same in
    neither es name uid gid (ap (λ (x : Granted). x.named) (sym found) ∙ named) covering

-- the wildcard of a name whose parent is known
pub with_star : (name : List ℕ) (o : Option (List ℕ)) → o ≡ parent name → wildcard_of name ≡ option_map (λ q. q ++ codes ".*") o
with_star name o is = ap (option_map (λ q. q ++ codes ".*")) (sym is)
