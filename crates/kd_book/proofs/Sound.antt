-- Along every list the book is sound: just slots of odd generations have a bus, and no two of them
-- one name.
use Rattle.std.proofs.Common.{◌≡◌, ◌≢◌, ℕ, zero, suc, ◌<◌, ◌≤◌, ◌+◌, ◌%◌, ◌==◌, nat_lt, Bool, true, false, not, cond, List, [], ◌∷◌, length, Option, Some, None, Result, Ok, Err, refl, ap, sym, ◌∙◌, subst, arith, slice_set, slice_index_or}
use Rattle.std.specs.Prelude.{is_some, is_none, unwrap_or, position}
use Rattle.std.specs.List.{position_or_len}
use mathlib.Core.Logic.{dite, ⊎_elim}
use native.Mathlib.Decide.{ℕ_discrete}
use Rattle.std.proofs.lemmas.Bool.{cases_lt}
use Rattle.std.proofs.lemmas.Option.{same_Some}
use Rattle.std.proofs.lemmas.Grind.{common_steps}
use Rattle.std.proofs.lemmas.List.{length-set, get_or-set_same, get_or-set_other}
use Rattle.std.proofs.lemmas.List.Sums.{fails_before_first}
use Rattle.std.proofs.lemmas.List.Quantifiers.{position-Some}
use Rattle.std.proofs.Math.ListN.{get_or-eq_default}
use Rattle.kd_model.specs.Words.{same, first_that_holds}
use Rattle.kd_model.proofs.Texts.{same_from}
use Rattle.kd_types.specs.declared.refusal.Refusal.{Refusal}
use Rattle.kd_types.specs.declared.refusal.Refusal.TheVariants.{BadName, WrongPrefix, BusExists, TooMany}
use Rattle.kd_name.specs.Names.{is_label}
use Rattle.kd_name.specs.BusNames.{has_prefix}
use Rattle.kd_book.specs.Buses.{Buses, no_buses, lowest_slot, name_at, generation_at, is_odd, is_called, named_slot, free_slot, make_refusal, make_answer, with_bus, without_bus}
use Rattle.kd_book.specs.Along.{LowestIsFound, NamesAreDistinct, SlotsAreOdd, Noted, made, refused, sought, removed, idle, book_after, book_along, IsNoted, AreNoted}

none_if_not_some : {X : Type 0} → (o : Option X) → is_some o ≡ false → o ≡ None
none_if_not_some None q = refl
none_if_not_some (Some x) q = absurd cc

pub lowest_is_found : LowestIsFound
unfolding lowest_slot
lowest_is_found b slot q = let p = position-Some is_some b.names slot None q in (p.1, (λ below less. none_if_not_some (name_at b below) (p.2 below less)))

module _ {X : Type 0} where
  none_passes : (p : X → Bool) (xs : List X) (d : X) → position p xs ≡ None → (k : ℕ) → k < length xs → p (slice_index_or xs k d) ≡ false
  none_passes p xs d q k less = let past : k < position_or_len p xs = grind (arith, common_steps) in fails_before_first p xs k d past

abbrev answered : Option Refusal → Option ℕ → Result ℕ Refusal
answered r f = elim r [ Some why ↦ Err why | None ↦ Ok (unwrap_or f 0) ]

frees_by : (l p e : Bool) (f : Option ℕ) (slot : ℕ) → ◌≡◌ {A = Result ℕ Refusal} (answered (first_that_holds {X = Refusal} ((not l, BadName) ∷ (not p, WrongPrefix) ∷ (e, BusExists) ∷ (is_none f, TooMany 4) ∷ [])) f) (Ok slot) → (e ≡ false) × (f ≡ Some slot)
frees_by false p e f slot q = absurd cc
frees_by true false e f slot q = absurd cc
frees_by true true true f slot q = absurd cc
frees_by true true false None slot q = absurd cc
frees_by true true false (Some k) slot q = (refl, cc)

frees : (b : Buses) (uid : ℕ) (name : List ℕ) (slot : ℕ) → make_answer b uid name ≡ Ok slot → (position (is_called name) b.names ≡ None) × (position is_none b.names ≡ Some slot)
unfolding make_answer make_refusal named_slot free_slot
frees b uid name slot q = let r = frees_by (is_label name) (has_prefix uid name) (is_some (named_slot b name)) (free_slot b) slot q in (none_if_not_some (position (is_called name) b.names) r.0, r.1)

record Sound (b : Buses) : Type 0 where
  generations : length b.generations ≡ 4
  names : length b.names ≡ 4
  odd : (i : ℕ) → i < 4 → is_some (name_at b i) ≡ is_odd (generation_at b i)
  distinct : (i j : ℕ) (name : List ℕ) → name_at b i ≡ Some name → name_at b j ≡ Some name → i ≡ j

opening : Sound no_buses
opening = record {
  generations = refl;
  names = refl;
  odd = odd;
  distinct = λ i j name q r. absurd (none i name q);
}
  where
    odd : (i : ℕ) → i < 4 → is_some (name_at no_buses i) ≡ is_odd (generation_at no_buses i)
    odd zero less = refl
    odd (suc zero) less = refl
    odd (suc (suc zero)) less = refl
    odd (suc (suc (suc zero))) less = refl
    odd (suc (suc (suc (suc i)))) less = absurd (omega arith)

    none : (i : ℕ) (name : List ℕ) → name_at no_buses i ≡ Some name → ⊥
    none zero name q = absurd cc
    none (suc zero) name q = absurd cc
    none (suc (suc zero)) name q = absurd cc
    none (suc (suc (suc zero))) name q = absurd cc
    none (suc (suc (suc (suc i)))) name q = absurd cc

within : (b : Buses) (i : ℕ) (name : List ℕ) → name_at b i ≡ Some name → i < length b.names
within b i name q = ⊎_elim
    (λ less. less)
    (λ past. let none : name_at b i ≡ None = get_or-eq_default b.names None past in absurd cc)
    (cases_lt i (length b.names))

-- a bus comes into a free slot, under a name that no bus has
entered : (b : Buses) → Sound b → (slot generation : ℕ) (name : List ℕ) → position (is_called name) b.names ≡ None → position is_none b.names ≡ Some slot → is_odd generation ≡ true → Sound (with_bus b slot generation name)
unfolding with_bus
entered b s slot generation name new free is = record {
  generations = length-set b.generations slot generation ∙ s.generations;
  names = length-set b.names slot (Some name) ∙ s.names;
  odd = odd;
  distinct = distinct;
}
  where
    inside : slot < length b.names
    inside = (position-Some is_none b.names slot None free).0

    here : slice_index_or (slice_set b.names slot (Some name)) slot None ≡ Some name
    here = get_or-set_same b.names slot (Some name) None inside

    else : (i : ℕ) → i ≢ slot → slice_index_or (slice_set b.names slot (Some name)) i None ≡ name_at b i
    else i ne = get_or-set_other b.names slot i (Some name) None ne

    generation_here : slice_index_or (slice_set b.generations slot generation) slot 0 ≡ generation
    generation_here = get_or-set_same b.generations slot generation 0 (omega (arith, inside, s.names, s.generations))

    odd : (i : ℕ) → i < 4 → is_some (slice_index_or (slice_set b.names slot (Some name)) i None) ≡ is_odd (slice_index_or (slice_set b.generations slot generation) i 0)
    odd i less = dite (ℕ_discrete i slot)
        (λ z. subst (λ k. is_some (slice_index_or (slice_set b.names slot (Some name)) k None) ≡ is_odd (slice_index_or (slice_set b.generations slot generation) k 0)) (sym z) (ap is_some here ∙ (sym is ∙ sym (ap is_odd generation_here))))
        (λ ne. ap is_some (else i ne) ∙ (s.odd i less ∙ sym (ap is_odd (get_or-set_other b.generations slot i generation 0 ne))))

    strange : (j : ℕ) (n : List ℕ) → n ≡ name → name_at b j ≡ Some n → ⊥
    strange j n z q =
        let no : is_called name (name_at b j) ≡ false = none_passes (is_called name) b.names None new j (within b j n q) in
        let yes : is_called name (name_at b j) ≡ true = ap (is_called name) q ∙ same_from n name z in
        absurd cc

    distinct : (i j : ℕ) (n : List ℕ) → slice_index_or (slice_set b.names slot (Some name)) i None ≡ Some n → slice_index_or (slice_set b.names slot (Some name)) j None ≡ Some n → i ≡ j
    distinct i j n q r = dite (ℕ_discrete i slot)
        (λ z. dite (ℕ_discrete j slot)
        (λ y. z ∙ sym y)
        (λ ne. absurd (strange j n (same_Some n name (sym (subst (λ k. slice_index_or (slice_set b.names slot (Some name)) k None ≡ Some n) z q) ∙ here)) (sym (else j ne) ∙ r))))
        (λ ne. dite (ℕ_discrete j slot)
        (λ y. absurd (strange i n (same_Some n name (sym (subst (λ k. slice_index_or (slice_set b.names slot (Some name)) k None ≡ Some n) y r) ∙ here)) (sym (else i ne) ∙ q)))
        (λ no. s.distinct i j n (sym (else i ne) ∙ q) (sym (else j no) ∙ r)))

even_after : (g : ℕ) → is_odd g ≡ true → is_odd (g + 1) ≡ false
even_after g is = grind (arith, common_steps)

-- a slot's bus goes
emptied : (b : Buses) → Sound b → (slot generation : ℕ) → slot < 4 → is_odd generation ≡ true → Sound (record { generations = slice_set b.generations slot (generation + 1); names = slice_set b.names slot None })
emptied b s slot generation inside is = record {
  generations = length-set b.generations slot (generation + 1) ∙ s.generations;
  names = length-set b.names slot None ∙ s.names;
  odd = odd;
  distinct = λ i j n q r. s.distinct i j n (before i n q) (before j n r);
}
  where
    here : slice_index_or (slice_set b.names slot None) slot None ≡ None
    here = get_or-set_same b.names slot None None (omega (arith, inside, s.names))

    else : (i : ℕ) → i ≢ slot → slice_index_or (slice_set b.names slot None) i None ≡ name_at b i
    else i ne = get_or-set_other b.names slot i None None ne

    generation_here : slice_index_or (slice_set b.generations slot (generation + 1)) slot 0 ≡ generation + 1
    generation_here = get_or-set_same b.generations slot (generation + 1) 0 (omega (arith, inside, s.generations))

    odd : (i : ℕ) → i < 4 → is_some (slice_index_or (slice_set b.names slot None) i None) ≡ is_odd (slice_index_or (slice_set b.generations slot (generation + 1)) i 0)
    odd i less = dite (ℕ_discrete i slot)
        (λ z. subst (λ k. is_some (slice_index_or (slice_set b.names slot None) k None) ≡ is_odd (slice_index_or (slice_set b.generations slot (generation + 1)) k 0)) (sym z) (ap is_some here ∙ (sym (even_after generation is) ∙ sym (ap is_odd generation_here))))
        (λ ne. ap is_some (else i ne) ∙ (s.odd i less ∙ sym (ap is_odd (get_or-set_other b.generations slot i (generation + 1) 0 ne))))

    before : (i : ℕ) (n : List ℕ) → slice_index_or (slice_set b.names slot None) i None ≡ Some n → name_at b i ≡ Some n
    before i n q = dite (ℕ_discrete i slot)
        (λ z. let none : slice_index_or (slice_set b.names slot None) i None ≡ None = subst (λ k. slice_index_or (slice_set b.names slot None) k None ≡ None) (sym z) here in absurd cc)
        (λ ne. sym (else i ne) ∙ q)

left : (b : Buses) → Sound b → (slot generation : ℕ) → slot < 4 → is_odd generation ≡ true → Sound (without_bus b slot generation)
unfolding without_bus
left b s slot generation inside is = chosen (generation_at b slot == generation)
  where
    chosen : (c : Bool) → Sound (cond c (record { generations = slice_set b.generations slot (generation + 1); names = slice_set b.names slot None }) b)
    chosen true = emptied b s slot generation inside is
    chosen false = s

sound_after : (b : Buses) → Sound b → (x : Noted) → IsNoted b x → Sound (book_after x b)
sound_after b s (made uid name slot generation) t = let f = frees b uid name slot t.0 in entered b s slot generation name f.0 f.1 t.1
sound_after b s (refused uid name why) t = s
sound_after b s (sought name answer) t = s
sound_after b s (removed slot generation) t = left b s slot generation t.0 t.1
sound_after b s idle t = s

sound_along : (b : Buses) → Sound b → (xs : List Noted) → AreNoted b xs → Sound (book_along b xs)
sound_along b s [] t = s
sound_along b s (x ∷ xs) t = sound_along (book_after x b) (sound_after b s x t.0) xs t.1

pub slots_are_odd : SlotsAreOdd
slots_are_odd xs t slot less = (sound_along no_buses opening xs t).odd slot less

pub names_are_distinct : NamesAreDistinct
names_are_distinct xs t i j name q r = (sound_along no_buses opening xs t).distinct i j name q r
