-- What is found in one part of a list after another.
use Rattle.std.proofs.Common.{◌≡◌, ℕ, ◌+◌, ◌<◌, Bool, true, false, cond, not, ◌||◌, if◌then◌else◌, List, [], ◌∷◌, ◌++◌, length, get_or, take, map, fold, Option, refl, sym, ap, ◌∙◌, append-nil}
use Rattle.std.proofs.lemmas.Grind.{flat_map-append}
use Rattle.std.proofs.lemmas.List.{map-append, take_more}
use Rattle.std.proofs.lemmas.List.Elements.{filter-append}
use Rattle.std.proofs.lemmas.List.Sums.{fold-append}
use Rattle.kd_model.proofs.Truth.{or_false}
use Rattle.kd_types.specs.declared.creds.Level.{Level}
use Rattle.kd_types.specs.Words.{those, is_empty}
use Rattle.kd_policy.specs.declared.entry.Entry.{Entry}
use Rattle.kd_policy.specs.declared.granted.Granted.{Granted}
use Rattle.kd_policy.specs.Level.{is_for, is_meant, subject_fits, levels, greater}
use Rattle.kd_policy.specs.declared.owner.Scope.{Scope}
use Rattle.kd_policy.specs.Policy.{Held, Policy, is_in, list_of, part_of}
use Rattle.kd_policy.specs.Granted.{nothing_granted, and_these, and_among}

levels-append : (uid gid : ℕ) (xs ys : List Entry) → levels uid gid (xs ++ ys) ≡ levels uid gid xs ++ levels uid gid ys
levels-append uid gid xs ys = rw (filter-append (subject_fits uid gid) xs ys) (map-append (λ (e : Entry). e.level) (those (subject_fits uid gid) xs) (those (subject_fits uid gid) ys))

some : (b : Bool) (xs ys : List Entry) → ((b || not (is_empty xs)) || not (is_empty ys)) ≡ (b || not (is_empty (xs ++ ys)))
some true xs ys = refl
some false [] ys = refl
some false (x ∷ xs) ys = refl

pub these-append : (found : Granted) (xs ys : List Entry) (uid gid : ℕ) → and_these (and_these found xs uid gid) ys uid gid ≡ and_these found (xs ++ ys) uid gid
these-append found xs ys uid gid =
    let named = some found.named xs ys in
    let level : fold greater (fold greater found.level (levels uid gid xs)) (levels uid gid ys) ≡ fold greater found.level (levels uid gid (xs ++ ys)) = sym (fold-append greater found.level (levels uid gid xs) (levels uid gid ys)) ∙ ap (fold greater found.level) (sym (levels-append uid gid xs ys)) in
    λ i. record { named = named i; level = level i }

pub among-append : (found : Granted) (xs ys : List Entry) (text : List ℕ) (uid gid : ℕ) → and_among (and_among found xs text uid gid) ys text uid gid ≡ and_among found (xs ++ ys) text uid gid
unfolding and_among
among-append found xs ys text uid gid = these-append found (those (is_for text) xs) (those (is_for text) ys) uid gid ∙ ap (λ es. and_these found es uid gid) (sym (filter-append (is_for text) xs ys))

-- one entry more
pub one_more : (level : Option Level) (uid gid : ℕ) (e : Entry) → fold greater level (levels uid gid (e ∷ [])) ≡ (if is_meant uid gid e.subject then greater level e.level else level)
one_more level uid gid e =
    elim (is_meant uid gid e.subject) as (λ b. fold greater level (map (λ (x : Entry). x.level) (cond b (e ∷ []) [])) ≡ (if b then greater level e.level else level)) [ true ↦ refl | false ↦ refl ]

pub levels_more : (level : Option Level) (uid gid : ℕ) (es : List Entry) (i : ℕ) (e : Entry) → i < length es → e ≡ get_or es i e → fold greater level (levels uid gid (take (i + 1) es)) ≡ (if is_meant uid gid e.subject then greater (fold greater level (levels uid gid (take i es))) e.level else fold greater level (levels uid gid (take i es)))
levels_more level uid gid es i e lt is =
    let parts : take (i + 1) es ≡ take i es ++ e ∷ [] = take_more es i e lt ∙ ap (λ x. take i es ++ x ∷ []) (sym is) in
    ap (λ xs. fold greater level (levels uid gid xs)) parts
    ∙ ap (fold greater level) (levels-append uid gid (take i es) (e ∷ []))
    ∙ fold-append greater level (levels uid gid (take i es)) (levels uid gid (e ∷ []))
    ∙ one_more (fold greater level (levels uid gid (take i es))) uid gid e

-- one owner more
pub list_more : (s : Scope) (hs : Policy) (i : ℕ) (h : Held) → i < length hs → h ≡ get_or hs i h → list_of s (take (i + 1) hs) ≡ list_of s (take i hs) ++ part_of s h
list_more s hs i h lt is =
    let parts : take (i + 1) hs ≡ take i hs ++ h ∷ [] = take_more hs i h lt ∙ ap (λ x. take i hs ++ x ∷ []) (sym is) in
    ap (list_of s) parts ∙ flat_map-append (part_of s) (take i hs) (h ∷ []) ∙ ap (λ es. list_of s (take i hs) ++ es) (append-nil (part_of s h))

-- no entries change nothing
pub none_found : (found : Granted) (text : List ℕ) (uid gid : ℕ) → found ≡ and_among found [] text uid gid
unfolding and_among
none_found found text uid gid =
    let named : found.named ≡ (found.named || not (is_empty (those (is_for text) []))) = or_false found.named in
    λ i. record { named = named i; level = found.level }

pub holding_more : (s : Scope) (hs : Policy) (i : ℕ) (h : Held) (g : Granted) (text : List ℕ) (uid gid : ℕ) → i < length hs → h ≡ get_or hs i h → g ≡ and_among nothing_granted (list_of s (take i hs)) text uid gid → and_among g (part_of s h) text uid gid ≡ and_among nothing_granted (list_of s (take (i + 1) hs)) text uid gid
holding_more s hs i h g text uid gid lt is found =
    ap (λ x. and_among x (part_of s h) text uid gid) found
    ∙ among-append nothing_granted (list_of s (take i hs)) (part_of s h) text uid gid
    ∙ ap (λ es. and_among nothing_granted es text uid gid) (sym (list_more s hs i h lt is))

-- an owner's part of a list is nothing, or all that it has
pub part_out : (s : Scope) (h : Held) → is_in s h.owner ≡ false → part_of s h ≡ []
part_out s h out = ap (λ b. elim b [ true ↦ h.entries | false ↦ [] ]) out

pub part_in : (s : Scope) (h : Held) → is_in s h.owner ≡ true → part_of s h ≡ h.entries
part_in s h inside = ap (λ b. elim b [ true ↦ h.entries | false ↦ [] ]) inside
