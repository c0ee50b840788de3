-- How long spellings are.
use Rattle.std.proofs.Common.{◌≡◌, ℕ, ◌+◌, ◌*◌, ◌<◌, ◌≤◌, List, [], ◌∷◌, ◌++◌, length, get_or, take, sym, ap, ◌∙◌, length-append, arith}
use Rattle.std.proofs.lemmas.Grind.{flat_map-append}
use Rattle.std.proofs.lemmas.List.{take_more}
use Rattle.std.proofs.lemmas.List.Folds.{length-flat_map-take}
use Rattle.kd_item.specs.Spelling.{Entry, words, spelling, item_length}
use Rattle.kd_item.proofs.Sizes.{length-body, length-spelling}
use Rattle.kd_wire.specs.declared.item.WireItem.{WireItem}
use Rattle.kd_wire.specs.declared.reply.ListedItem.{ListedItem}
use Rattle.kd_wire.specs.Items.{words_in, bytes_in, kind_of, wire_entry, spelled, wire_length}
use Rattle.kd_wire.specs.Replies.{listed_entry, listing_bytes}

-- an item with such a body
pub length_entry : (kind : ℕ) (ns bytes : List ℕ) → length (spelling (record { kind = kind; body = words ns ++ bytes })) ≡ item_length (8 * length ns + length bytes)
length_entry kind ns bytes =
    let e : Entry = record { kind = kind; body = words ns ++ bytes } in
    length-spelling e ∙ ap item_length (length-body ns bytes)

pub length_item : (item : WireItem) → length (spelling (wire_entry item)) ≡ wire_length item
length_item item = length_entry (kind_of item) (words_in item) (bytes_in item)

pub length_one : (item : WireItem) → length (spelled (item ∷ [])) ≡ wire_length item
length_one item = omega (arith, length-append (spelling (wire_entry item)) [], length_item item)

pub length_line : (line : ListedItem) → length (spelling (listed_entry line)) ≡ item_length (16 + length line.name)
length_line line = length_entry 24 (line.id ∷ line.standing ∷ []) line.name

-- the items before one, and it, are no longer than all
pub spelled_so_far : (items : List WireItem) (i : ℕ) (item : WireItem) → i < length items → item ≡ get_or items i item → length (spelled (take i items)) + wire_length item ≤ length (spelled items)
spelled_so_far items i item lt is =
    let step = length-flat_map-take (λ x. spelling (wire_entry x)) items i item lt in
    let e : length (spelling (wire_entry (get_or items i item))) ≡ wire_length item = ap (λ x. length (spelling (wire_entry x))) (sym is) ∙ length_item item in
    omega (arith, e, step)

pub listed_so_far : (lines : List ListedItem) (i : ℕ) (line : ListedItem) → i < length lines → line ≡ get_or lines i line → length (listing_bytes (take i lines)) + item_length (16 + length line.name) ≤ length (listing_bytes lines)
listed_so_far lines i line lt is =
    let step = length-flat_map-take (λ x. spelling (listed_entry x)) lines i line lt in
    let e : length (spelling (listed_entry (get_or lines i line))) ≡ item_length (16 + length line.name) = ap (λ x. length (spelling (listed_entry x))) (sym is) ∙ length_line line in
    omega (arith, e, step)

-- one item more
pub spelled_more : (items : List WireItem) (i total : ℕ) (item : WireItem) → i < length items → item ≡ get_or items i item → total ≡ length (spelled (take i items)) → total + wire_length item ≡ length (spelled (take (i + 1) items))
spelled_more items i total item lt is so_far =
    let one : take (i + 1) items ≡ take i items ++ item ∷ [] = take_more items i item lt ∙ ap (λ x. take i items ++ x ∷ []) (sym is) in
    let both : spelled (take (i + 1) items) ≡ spelled (take i items) ++ spelled (item ∷ []) = ap spelled one ∙ flat_map-append (λ x. spelling (wire_entry x)) (take i items) (item ∷ []) in
    omega (arith, ap length both, length-append (spelled (take i items)) (spelled (item ∷ [])), length_one item, so_far)

pub listed_more : (lines : List ListedItem) (i total : ℕ) (line : ListedItem) → i < length lines → line ≡ get_or lines i line → total ≡ length (listing_bytes (take i lines)) → total + item_length (16 + length line.name) ≡ length (listing_bytes (take (i + 1) lines))
listed_more lines i total line lt is so_far =
    let one : take (i + 1) lines ≡ take i lines ++ line ∷ [] = take_more lines i line lt ∙ ap (λ x. take i lines ++ x ∷ []) (sym is) in
    let both : listing_bytes (take (i + 1) lines) ≡ listing_bytes (take i lines) ++ listing_bytes (line ∷ []) = ap listing_bytes one ∙ flat_map-append (λ x. spelling (listed_entry x)) (take i lines) (line ∷ []) in
    let last : length (listing_bytes (line ∷ [])) ≡ item_length (16 + length line.name) = omega (arith, length-append (spelling (listed_entry line)) [], length_line line) in
    omega (arith, ap length both, length-append (listing_bytes (take i lines)) (listing_bytes (line ∷ [])), last, so_far)

-- an item without words alone
pub length_alone : (item : WireItem) (n : ℕ) → n ≡ 8 * length (words_in item) + length (bytes_in item) → item_length n ≡ length (spelled (item ∷ []))
length_alone item n e = ap item_length e ∙ sym (length_one item)
