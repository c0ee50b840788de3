-- What a turn, a mark, a sweep and an entry do to the point on hands.
use Rattle.std.proofs.Common.{◌≡◌, ℕ, ◌*◌, ◌/◌, ◌%◌, ◌^◌, ◌<◌, ◌≢◌, ◌⊎◌, ◌&&◌, ◌||◌, ◌==◌, not, Bool, true, false, cond, List, [], ◌∷◌, ◌++◌, eqb-true, eq-eqb, ne_eqb, subst, sym, refl, ap, ◌∙◌, inl, inr, ⊎_elim, arith}
use Rattle.std.specs.Prelude.{Option, Some, None, nat_lt}
use Rattle.std.specs.Int.{bit_at}
use Rattle.std.proofs.lemmas.Nat.Bits.{bit_at_or, bit_at-zero, bit_at-lt, bit_at-pow_same, bit_at-pow_other}
use Rattle.std.proofs.Math.Bool.{and-false}
use Rattle.std.proofs.lemmas.Bool.{lt-ltb}
use Rattle.std.proofs.lemmas.List.Folds.{list_any-append}
use Rattle.std.proofs.lemmas.Map.Views.{any-filter_same}
use Rattle.std.proofs.lemmas.Nat.{pow_below}
use native.Mathlib.Nat.{mod-eq_of_lt}
use mathlib.Core.Logic.{dite}
use native.Mathlib.Decide.{ℕ_discrete}
use Rattle.kd_model.proofs.Truth.{not_true}
use Rattle.kd_hands.specs.Lists.{hand_has, hand_without, has_mark, is_marked, was_swept, is_word_of, at_place, is_at}
use Rattle.kd_hands.specs.Locks.{Locks, Handed, opening_locks, taken, with_mark, marked_in, swept_in, entered, hands_after}
use Rattle.kd_hands.specs.Settles.{Settles, Unlent}
use Rattle.kd_hands.proofs.Places.{every, place_here, place_else, both_here, not_both}
use Rattle.kd_hands.proofs.Entries.{lists_here, lists_else, mine_here, others, swept_else, unswept}

-- the bit of a number in its word
pub same_power : (n m : ℕ) → 2 ^ n ≡ 2 ^ m → n ≡ m
same_power n m e = let a = bit_at-pow_same m in let b = bit_at-pow_other n m in grind arith

pub bit_is : (n : ℕ) → n < 64 → (1 * 2 ^ n) % 2 ^ 64 ≡ 2 ^ n
bit_is n h = let p : 2 ^ n < 2 ^ 64 = pow_below n 64 h in let one : 1 * 2 ^ n ≡ 2 ^ n = omega arith in ap (λ (k : ℕ). k % 2 ^ 64) one ∙ mod-eq_of_lt p

-- the hand without a number
has_without : (a n : ℕ) (hand : List ℕ) → hand_has a (hand_without n hand) ≡ (not (a == n) && hand_has a hand)
has_without a n hand = any-filter_same (λ x. x == a) (λ x. not (x == n)) (not (a == n)) (λ k e. ap (λ x. not (x == n)) (eqb-true k a e)) hand

pub gone_from : (n : ℕ) (hand : List ℕ) → hand_has n (hand_without n hand) ≡ false
gone_from n hand = has_without n n hand ∙ ap (λ b. not b && hand_has n hand) (eq-eqb n n refl)

kept_in : (a n : ℕ) (hand : List ℕ) → a ≢ n → hand_has a (hand_without n hand) ≡ hand_has a hand
kept_in a n hand ne = has_without a n hand ∙ ap (λ b. not b && hand_has a hand) (ne_eqb a n ne)

-- the words after the number n is marked
module _ (words : ℕ → ℕ) (n : ℕ) where
  marks_it : n < 256 → is_marked n (with_mark n words) ≡ true
  marks_it small =
      let w : ℕ = words (n / 64) in
      let i : ℕ = n % 64 in
      let a = bit_at_or w (2 ^ i) i in let b = bit_at-pow_same i in let c = bit_at-lt w i in
      grind arith

  marks_else : (b : ℕ) → b ≢ n → is_marked b (with_mark n words) ≡ is_marked b words
  marks_else b ne =
      let a = bit_at_or (words (n / 64)) (2 ^ (n % 64)) (b % 64) in
      let c : n % 64 ≢ b % 64 → bit_at (2 ^ (n % 64)) (b % 64) ≡ 0 = λ apart. bit_at-pow_other (n % 64) (b % 64) (λ z. apart (sym z)) in
      grind arith

-- the words after the word q is swept
module _ (words : ℕ → ℕ) (q b : ℕ) where
  swept_it : b / 64 ≡ q → is_marked b (at_place words q 0) ≡ false
  swept_it e = let z = bit_at-zero (b % 64) in ap (λ t. nat_lt b 256 && t)
      (ap (λ (m : ℕ). bit_at m (b % 64) == 1) (place_here words q (b / 64) 0 e) ∙ ap (λ (m : ℕ). m == 1) z) ∙ and-false (nat_lt b 256)

  swept_not : b / 64 ≢ q → is_marked b (at_place words q 0) ≡ is_marked b words
  swept_not ne = ap (λ (m : ℕ). nat_lt b 256 && (bit_at m (b % 64) == 1)) (place_else words q (b / 64) 0 ne)

-- The point on hands for one number of one lock: whether it is lent and out, who may have it, who
-- has it, who has swept it or its word, and whether it is marked
pub record Placed (Lent Out : Type 0) (keeper holder : Option ℕ) (hands swept words : ℕ → Bool) (marked : Bool) : Type 0 where
  pub lent : (j : ℕ) → hands j ≡ true → Lent
  pub lent_mark : marked ≡ true → Lent
  pub kept : (j : ℕ) → hands j ≡ true → keeper ≡ Some j
  pub found : Out → ((j : ℕ) × (hands j ≡ true)) ⊎ ((marked ≡ true) ⊎ ((j : ℕ) × (swept j ≡ true)))
  pub once : (j : ℕ) → Out → marked ≡ true → hands j ≡ false
  pub gone : (i : ℕ) → Out → swept i ≡ true → (marked ≡ false) × ((j : ℕ) → hands j ≡ false)
  pub clear : (j : ℕ) → holder ≡ Some j → keeper ≡ None → words j ≡ true → marked ≡ false

module _ {E : Type 0} (lends out : ℕ → List (ℕ × E) → ℕ → Type 0) (keeper : ℕ → List (ℕ × E) → Option ℕ) where
  abbrev pub Number : Locks E → ℕ → ℕ → Type 0
  Number w l n = Placed (lends l (w.told.lists l) n) (out l (w.told.lists l) n) (keeper l (w.told.lists 0)) w.holder
      (λ j. hand_has n (w.hands j l)) (λ j. was_swept n (w.swept j l)) (λ j. is_word_of n (w.swept j l)) (is_marked n (w.marks l))

  pub number : (w : Locks E) → Handed lends out keeper w → (l n : ℕ) → Number w l n
  number w h l n = search (h.lent, h.lent_mark, h.kept, h.found, h.once, h.gone, h.clear)

  pub handed : (w : Locks E) → ((l n : ℕ) → Number w l n) → Handed lends out keeper w
  handed w p = record {
    lent = λ j l n. (p l n).lent j;
    lent_mark = λ l n. (p l n).lent_mark;
    kept = λ j l n. (p l n).kept j;
    found = λ l n. (p l n).found;
    once = λ j l n. (p l n).once j;
    gone = λ i l n. (p l n).gone i;
    clear = λ j l n. (p l n).clear j;
  }

  -- a number of which all stays as it was
  pub stays : (w u : Locks E) (k b : ℕ) → w.told.lists k ≡ u.told.lists k → w.told.lists 0 ≡ u.told.lists 0 → w.holder ≡ u.holder
      → ((i : ℕ) → hand_has b (w.hands i k) ≡ hand_has b (u.hands i k))
      → ((i : ℕ) → was_swept b (w.swept i k) ≡ was_swept b (u.swept i k)) → ((i : ℕ) → is_word_of b (w.swept i k) ≡ is_word_of b (u.swept i k))
      → is_marked b (w.marks k) ≡ is_marked b (u.marks k) → Number w k b → Number u k b
  stays w u k b list zero holder hands swept words marked =
      subst (λ T. T) (λ t. Placed (lends k (list t) b) (out k (list t) b) (keeper k (zero t)) (holder t) (λ i. hands i t) (λ i. swept i t) (λ i. words i t)
      (marked t))

  -- what holds of one number, and of all others as they were, holds of each
  cases : (l n : ℕ) (P : ℕ → ℕ → Type 0) → P l n → ((k b : ℕ) → (k ≡ l → b ≡ n → ⊥) → P k b) → (k b : ℕ) → P k b
  cases l n P here else k b = dite (ℕ_discrete k l) (λ e. dite (ℕ_discrete b n) (λ f. subst (λ (z : ℕ × ℕ). P z.0 z.1) (λ t. (sym e t, sym f t)) here)
      (λ f. else k b (λ _. f))) (λ e. else k b (λ z _. e z))

  module _ (w : Locks E) (h : Handed lends out keeper w) where
    pub take_law : (l j : ℕ) → (l ≡ 0 → (k : ℕ) → w.swept j k ≡ []) → Handed lends out keeper (taken l j w)
    take_law l j bare =
        let clear : (i k n : ℕ) → (taken l j w).holder ≡ Some i → keeper k (w.told.lists 0) ≡ None → is_word_of n (w.swept i k) ≡ true
        → is_marked n (w.marks k) ≡ false =
        λ i k n is none sw. grind (arith, h.clear i k n, bare) in
        search (h.lent, h.lent_mark, h.kept, h.found, h.once, h.gone)

    pub mark_law : (l n j : ℕ) → n < 256 → hand_has n (w.hands j l) ≡ true → Handed lends out keeper (marked_in l n j w)
    mark_law l n j small in_hand =
        let u : Locks E = marked_in l n j w in
        let left : List ℕ = hand_without n (w.hands j l) in
        let nobody : (i : ℕ) → hand_has n (u.hands i l) ≡ false = λ i. grind (arith, h.kept i l n, h.kept j l n, gone_from n (w.hands j l)) in
        let now : is_marked n (u.marks l) ≡ true = grind (arith, marks_it (w.marks l) n small) in
        handed u (cases l n (Number u) record {
          lent = λ i t. absurd (not_both (hand_has n (u.hands i l)) t (nobody i));
          lent_mark = λ _. h.lent j l n in_hand;
          kept = λ i t. absurd (not_both (hand_has n (u.hands i l)) t (nobody i));
          found = λ _. inr (inl now);
          once = λ i _ _. nobody i;
          gone = λ i o s. absurd (not_both (hand_has n (w.hands j l)) in_hand ((h.gone i l n o s).1 j));
          clear = λ i _ none _. let no : None ≡ Some j = sym none ∙ h.kept j l n in_hand in absurd (cc no);
        }
        (λ k b ne. stays w u k b refl refl refl
        (λ i. grind (arith, ne, kept_in b n (w.hands j l))) (λ _. refl) (λ _. refl)
        (grind (arith, ne, marks_else (w.marks l) n b))
        (number w h k b)))

    pub sweep_law : (l q j : ℕ) → q < 4 → Handed lends out keeper (swept_in l q j w)
    sweep_law l q j qt =
        let u : Locks E = swept_in l q j w in
        let words : List (ℕ × ℕ) = w.swept j l ++ (q, w.marks l q) ∷ [] in
        let swept_more : (b : ℕ) → was_swept b words ≡ (was_swept b (w.swept j l) || (((q == b / 64) && has_mark b (w.marks l q)) || false)) =
        λ b. list_any-append (λ x. x.0 == b / 64 && has_mark b x.1) (w.swept j l) ((q, w.marks l q) ∷ []) in
        let word_more : (b : ℕ) → is_word_of b words ≡ (is_word_of b (w.swept j l) || ((q == b / 64) || false)) =
        λ b. list_any-append (λ x. x.0 == b / 64) (w.swept j l) ((q, w.marks l q) ∷ []) in
        let bit : (b : ℕ) → Bool = λ b. (q == b / 64) && has_mark b (w.marks l q) in
        let other : (k b : ℕ) → (k ≡ l → b / 64 ≡ q → ⊥) → Number u k b = λ k b ne.
        let off : k ≡ l → (q == b / 64) ≡ false = λ z. ne_eqb q (b / 64) (λ e. ne z (sym e)) in
        stays w u k b refl refl refl (λ _. refl)
        (λ i. grind (arith, swept_more b, off))
        (λ i. grind (arith, word_more b, off))
        (grind (arith, ne, swept_not (w.marks l) q b)) (number w h k b) in
        handed u (λ k b. dite (ℕ_discrete k l) (λ kl. dite (ℕ_discrete (b / 64) q)
        (λ e.
        let N = number w h l b in
        let clean : is_marked b (u.marks l) ≡ false = ap (is_marked b) (place_here w.marks l l (at_place (w.marks l) q 0) refl) ∙ swept_it (w.marks l) q b e in
        let M : Bool = is_marked b (w.marks l) in
        let bit_is : bit b ≡ M = ap (λ c. c && has_mark b (w.marks l q)) (eq-eqb q (b / 64) (sym e) ∙ sym (lt-ltb b 256 (omega arith)))
        ∙ ap (λ (z : ℕ). nat_lt b 256 && has_mark b (w.marks l z)) (sym e) in
        let now : was_swept b (u.swept j l) ≡ (was_swept b (w.swept j l) || (M || false)) = ap (was_swept b) (both_here w.swept j l words)
        ∙ (swept_more b ∙ ap (λ c. was_swept b (w.swept j l) || (c || false)) bit_is) in
        let marked : M ≡ true → was_swept b (u.swept j l) ≡ true = λ m. grind (arith, now, m) in
        let each : (i : ℕ) → (was_swept b (w.swept i l) ≡ true → was_swept b (u.swept i l) ≡ true) × (was_swept b (u.swept i l) ≡ true
        → (was_swept b (w.swept i l) ≡ true) ⊎ (M ≡ true)) =
        λ i. grind (arith, now) in
        subst (λ (k : ℕ). Number u k b) (sym kl) record {
          lent = N.lent;
          lent_mark = λ m. absurd (not_both (is_marked b (u.marks l)) m clean);
          kept = N.kept;
          found = λ o. ⊎_elim (λ f. inl f) (λ g. inr (inr (⊎_elim (λ m. (j, marked m)) (λ s. (s.0, (each s.0).0 s.1)) g)))
              (N.found o);
          once = λ _ _ m. absurd (not_both (is_marked b (u.marks l)) m clean);
          gone = λ i o s. (clean, ⊎_elim (λ t. (N.gone i o t).1) (λ m i'. N.once i' o m) ((each i).1 s));
          clear = λ _ _ _ _. clean;
        })
        (λ ne. other k b (λ _. ne))) (λ ne. other k b (λ z _. ne z)))

-- where an empty list has none out, nothing is in a hand, marked or swept at first
pub opening_hands : {E : Type 0} (lends out : ℕ → List (ℕ × E) → ℕ → Type 0) (keeper : ℕ → List (ℕ × E) → Option ℕ) → ((l n : ℕ) → out l [] n → ⊥)
    → Handed lends out keeper opening_locks
opening_hands lends out keeper none_out =
    let unmarked : (n : ℕ) → is_marked n (λ _. 0) ≡ false = λ n. let z = bit_at-zero (n % 64) in grind arith in
    search (arith, none_out, unmarked)

module _ {E : Type 0} (lends out : ℕ → List (ℕ × E) → ℕ → Type 0) (keeper : ℕ → List (ℕ × E) → Option ℕ) (after : ℕ → E → List ℕ → List ℕ)
    (empties : E → Option ℕ) (l : ℕ) (e : E) (j : ℕ) (w : Locks E) (h : Handed lends out keeper w)
    (sole : (i : ℕ) → i ≢ j → w.swept i l ≡ []) (far : l ≢ 0) where
  abbrev hs : ℕ → E → (ℕ → List ℕ) → ℕ → List ℕ
  hs = hands_after after empties

  abbrev w' : Locks E
  w' = entered hs l j e w

  hands_else : (i k : ℕ) → k ≢ l → w'.hands i k ≡ w.hands i k
  hands_else i k ne = grind arith

  -- an entry on another lock than lock 0
  pub settled : Settles lends out keeper after l e j w → Handed lends out keeper w'
  settled s = handed lends out keeper w' (λ k n. dite (ℕ_discrete k l)
      (λ z. subst (λ (k : ℕ). Number lends out keeper w' k n) (sym z)
      (subst (λ (q : List (ℕ × E) × List (ℕ × E)). Placed (lends l q.0 n) (out l q.0 n) (keeper l q.1) w'.holder (λ i. hand_has n (w'.hands i l))
      (λ i. was_swept n (w'.swept i l)) (λ i. is_word_of n (w'.swept i l)) (is_marked n (w.marks l)))
      (λ t. (sym (lists_here hs l j e w) t, sym (lists_else hs l j e w 0 (λ q. far (sym q))) t)) record {
        lent = by (λ i x. hand_has n x ≡ true → lends l (w.told.lists l ++ (j, e) ∷ []) n) (s.lent n) (λ i ne. s.lent_others i n ne);
        lent_mark = s.lent_mark n;
        kept = by (λ i x. hand_has n x ≡ true → keeper l (w.told.lists 0) ≡ Some i) (s.kept n) (λ i _. h.kept i l n);
        found = λ o. ⊎_elim (λ a. inl (j, ap (hand_has n) (mine_here after empties l j e w) ∙ a))
            (λ b. ⊎_elim (λ a. inl (a.0, ap (hand_has n) (others hs l j e w a.0 l a.1) ∙ a.2)) (λ m. inr (inl m)) b) (s.found n o);
        once = by (λ i x. out l (w.told.lists l ++ (j, e) ∷ []) n → is_marked n (w.marks l) ≡ true → hand_has n x ≡ false)
            (λ o m. (s.once n o m).0) (λ i ne o m. (s.once n o m).1 i ne);
        gone = λ i _ q. absurd (not_both (was_swept n (w'.swept i l)) q (ap (was_swept n) (unswept hs l j e w sole i)));
        clear = λ i _ _ q. absurd (not_both (is_word_of n (w'.swept i l)) q (ap (is_word_of n) (unswept hs l j e w sole i)));
      }))
      (λ ne. stays lends out keeper w w' k n (sym (lists_else hs l j e w k ne)) (sym (lists_else hs l j e w 0 (λ q. far (sym q))))
      (sym (ap (λ b. cond b None w.holder) (ne_eqb l 0 far)))
      (λ i. ap (hand_has n) (sym (hands_else i k ne))) (λ i. ap (was_swept n) (sym (swept_else hs l j e w i k ne)))
      (λ i. ap (is_word_of n) (sym (swept_else hs l j e w i k ne))) refl
      (number lends out keeper w h k n)))
    where
      by : (P : ℕ → List ℕ → Type 0) → P j (after l e (w.hands j l)) → ((i : ℕ) → i ≢ j → P i (w.hands i l)) → (i : ℕ) → P i (w'.hands i l)
      by P here else = every (λ i f. P i (f l)) w.hands j (hs l e (w.hands j))
          (subst (P j) (sym (ap (λ b. cond b (after l e (w.hands j l)) (cond ((l == 0) && is_at l (empties e)) [] (w.hands j l)))
          (eq-eqb l l refl))) here) else

-- For values that lend no numbers
module _ {E : Type 0} (keeper : ℕ → List (ℕ × E) → Option ℕ) where
  pub unlent : (w : Locks E) → ((i k n : ℕ) → hand_has n (w.hands i k) ≡ false) → ((k n : ℕ) → is_marked n (w.marks k) ≡ false) → Unlent keeper w
  unlent w no_hand no_mark = search (arith, no_hand, no_mark)

  pub lends_nothing : (after : ℕ → E → List ℕ → List ℕ) (empties : E → Option ℕ) (l : ℕ) (e : E) (j : ℕ) (w : Locks E)
      → ((hand : List ℕ) → after l e hand ≡ hand) → Unlent keeper w → Unlent keeper (entered (hands_after after empties) l j e w)
  lends_nothing after empties l e j w same h =
      let none : (i k n : ℕ) → hand_has n (w.hands i k) ≡ false = λ i k n. not_true (hand_has n (w.hands i k)) (λ q. h.lent i k n q) in
      let w' : Locks E = entered (hands_after after empties) l j e w in
      let mine : (k n : ℕ) → hand_has n (hands_after after empties l e (w.hands j) k) ≡ false = λ k n. grind (arith, none j l n, none j k n, same (w.hands j l)) in
      unlent w' (λ i k n. every (λ i f. hand_has n (f k) ≡ false) w.hands j (hands_after after empties l e (w.hands j)) (mine k n) (λ i _. none i k n) i)
      (λ k n. not_true (is_marked n (w.marks k)) (λ q. h.lent_mark k n q))
