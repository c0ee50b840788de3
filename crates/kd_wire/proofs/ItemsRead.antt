-- What a reader of items knows from item to item.
use Rattle.std.proofs.Common.{◌≡◌, ℕ, ◌+◌, ◌-◌, ◌<◌, ◌≤◌, List, [], ◌∷◌, ◌++◌, length, drop, Some, None, Ok, Err, refl, sym, ap, ◌∙◌, length-drop, arith}
use Rattle.kd_item.specs.Spelling.{Entry}
use Rattle.kd_item.specs.Reading.{item_at, split, placed}
use Rattle.kd_item.proofs.Splits.{split_item, split_none, none_at_end}
use Rattle.kd_item.proofs.Judged.{first_placed, none_placed}
use Rattle.kd_types.specs.declared.refusal.Refusal.TheVariants.{Malformed}
use Rattle.kd_wire.specs.declared.item.WireItem.{WireItem}
use Rattle.kd_wire.specs.Reading.{item_behind, items_behind, if_ended, items_in}

-- a reader at a place of the bytes, with the items before it
pub record Stands (kinds : List ℕ) (start : ℕ) (bytes : List ℕ) (items : List WireItem) (rest : List ℕ) (at : ℕ) : Type 0 where
  pub place : at + length rest ≡ start + length bytes
  pub same_end : (split rest).1 ≡ (split bytes).1
  pub same : items_behind kinds items (placed at (split rest).0) ≡ items_behind kinds [] (placed start (split bytes).0)

pub behind_some : (kinds : List ℕ) (before : List WireItem) (e : Entry) (at : ℕ) (es : List (Entry × ℕ)) (item : WireItem) → item_behind kinds before e ≡ Some item → items_behind kinds before ((e, at) ∷ es) ≡ items_behind kinds (before ++ item ∷ []) es
unfolding items_behind
behind_some kinds before e at es item h = rw (h, items_behind) refl

pub behind_none : (kinds : List ℕ) (before : List WireItem) (e : Entry) (at : ℕ) (es : List (Entry × ℕ)) → item_behind kinds before e ≡ None → items_behind kinds before ((e, at) ∷ es) ≡ Err (Malformed at)
unfolding items_behind
behind_none kinds before e at es h = rw (h, items_behind) refl

pub behind_end : (kinds : List ℕ) (before : List WireItem) → items_behind kinds before [] ≡ Ok before
unfolding items_behind
behind_end kinds before = refl

pub begins : (kinds : List ℕ) (start : ℕ) (bytes : List ℕ) → Stands kinds start bytes [] bytes start
begins kinds start bytes = record { place = refl; same_end = refl; same = refl }

pub goes_on : (kinds : List ℕ) (start : ℕ) (bytes : List ℕ) (items : List WireItem) (rest after : List ℕ) (at size : ℕ) (e : Entry) (item : WireItem)
    → Stands kinds start bytes items rest at → size ≤ length rest → Some (e, drop size rest) ≡ item_at rest → after ≡ drop size rest → Some item ≡ item_behind kinds items e
    → Stands kinds start bytes (items ++ item ∷ []) after (at + size)
goes_on kinds start bytes items rest after at size e item s inside found after-is takes =
    let placed-is = first_placed at rest after size e inside found after-is in
    let place : at + length rest ≡ start + length bytes = s.place in
    let end : (split rest).1 ≡ (split (drop size rest)).1 = ap (λ (p : List Entry × List ℕ). p.1) (split_item rest (e, drop size rest) (sym found)) in
    record {
      place = omega (arith, ap length after-is, length-drop size rest);
      same_end = ap (λ (l : List ℕ). (split l).1) after-is ∙ sym end ∙ s.same_end;
      same = sym (behind_some kinds items e at (placed (at + size) (split after).0) item (sym takes)) ∙ ap (items_behind kinds items) (sym placed-is) ∙ s.same;
    }

not_ended : (end : ℕ) (rest : List ℕ) (items : List WireItem) → 0 < length rest → if_ended end rest (Ok items) ≡ Err (Malformed (end - length rest))
not_ended end [] items some = absurd (omega arith)
not_ended end (x ∷ xs) items some = grind arith

pub is_ended : (end : ℕ) (rest : List ℕ) (items : List WireItem) → length rest ≡ 0 → if_ended end rest (Ok items) ≡ Ok items
is_ended end rest items none = grind arith

-- the end of the bytes
pub all_read : (kinds : List ℕ) (start : ℕ) (bytes : List ℕ) (items : List WireItem) (rest : List ℕ) (at : ℕ) → Stands kinds start bytes items rest at → length rest ≡ 0 → items_in kinds start bytes ≡ Ok items
unfolding items_in
all_read kinds start bytes items rest at s none =
    let no_item : None ≡ item_at rest = sym (none_at_end rest (omega arith)) in
    let nothing : (split bytes).1 ≡ rest = sym s.same_end ∙ ap (λ (p : List Entry × List ℕ). p.1) (split_none rest (sym no_item)) in
    let read : items_behind kinds [] (placed start (split bytes).0) ≡ Ok items = sym s.same ∙ ap (items_behind kinds items) (none_placed at rest no_item) ∙ behind_end kinds items in
    ap (if_ended (start + length bytes) (split bytes).1) read ∙ is_ended (start + length bytes) (split bytes).1 items (ap length nothing ∙ none)

-- no item begins here
pub no_item_here : (kinds : List ℕ) (start : ℕ) (bytes : List ℕ) (items : List WireItem) (rest : List ℕ) (at : ℕ) → Stands kinds start bytes items rest at → 0 < length rest → None ≡ item_at rest → items_in kinds start bytes ≡ Err (Malformed at)
unfolding items_in
no_item_here kinds start bytes items rest at s some no_item =
    let left : (split bytes).1 ≡ rest = sym s.same_end ∙ ap (λ (p : List Entry × List ℕ). p.1) (split_none rest (sym no_item)) in
    let read : items_behind kinds [] (placed start (split bytes).0) ≡ Ok items = sym s.same ∙ ap (items_behind kinds items) (none_placed at rest no_item) ∙ behind_end kinds items in
    let place : at + length rest ≡ start + length bytes = s.place in
    let len : length (split bytes).1 ≡ length rest = ap length left in
    let at-is : start + length bytes - length (split bytes).1 ≡ at = omega arith in
    ap (if_ended (start + length bytes) (split bytes).1) read ∙ not_ended (start + length bytes) (split bytes).1 items (omega arith) ∙ ap (λ n. Err (Malformed n)) at-is

-- an item begins here that may not stand here
pub refused_here : (kinds : List ℕ) (start : ℕ) (bytes : List ℕ) (items : List WireItem) (rest : List ℕ) (at size : ℕ) (e : Entry) → Stands kinds start bytes items rest at → size ≤ length rest → Some (e, drop size rest) ≡ item_at rest → None ≡ item_behind kinds items e → items_in kinds start bytes ≡ Err (Malformed at)
unfolding items_in
refused_here kinds start bytes items rest at size e s inside found refuses =
    let placed-is = first_placed at rest (drop size rest) size e inside found refl in
    let read : items_behind kinds [] (placed start (split bytes).0) ≡ Err (Malformed at) = sym s.same ∙ ap (items_behind kinds items) placed-is ∙ behind_none kinds items e at (placed (at + size) (split (drop size rest)).0) (sym refuses) in
    ap (if_ended (start + length bytes) (split bytes).1) read
