-- What a reader knows at each place.
use Rattle.std.proofs.Common.{◌≡◌, ℕ, ◌+◌, ◌-◌, ◌<◌, ◌≤◌, ◌^◌, Bool, true, false, List, [], ◌∷◌, ◌++◌, length, get_or, take, drop, Option, Some, None, Result, Ok, Err, refl, sym, ap, ◌∙◌, arith}
use Rattle.std.specs.List.{sum_by}
use Rattle.std.proofs.lemmas.List.{nil_from_length, drop_more, drop_all, take_more}
use Rattle.std.proofs.lemmas.List.Sums.{sum_by_push, sum_by-take-le}
use Rattle.kd_types.specs.declared.reply_error.ReplyError.{ReplyError}
use Rattle.kd_types.specs.declared.reply_error.ReplyError.TheVariants.{Bad}
use Rattle.kd_item.specs.Spelling.{Entry, number}
use Rattle.kd_item.specs.Reading.{item_at, split, placed, entries, left_over}
use Rattle.std.proofs.lemmas.Bool.{lt-ltb, ne_eqb}
use Rattle.kd_item.proofs.Words.{IsBytes, IsBytes-drop, number_fits}
use Rattle.kd_item.proofs.Splits.{split_item, split_none, none_at_end}
use Rattle.kd_item.proofs.Judged.{first_placed}
use Rattle.kd_image.specs.Items.{Contents, begins, padded_length}
use Rattle.kd_image.specs.Reading.{blank, contents_in, if_taken, with_item, with_off, read_on, payload_at, payloads_from}

-- what the reading is from here on
abbrev pub from_here : ℕ → Contents → ℕ → List ℕ → Result Contents ReplyError
from_here size c at rest = read_on size c (placed at (entries rest)) (left_over rest)

pub ends : (size at : ℕ) (c : Contents) (rest : List ℕ) → length rest ≡ 0 → from_here size c at rest ≡ Ok c
ends size at c rest none =
    let nothing : rest ≡ [] = nil_from_length rest none in
    let s : split rest ≡ ([], []) = ap split nothing ∙ split_none [] (none_at_end [] (omega arith)) in
    ap (λ (p : List Entry × List ℕ). read_on size c (placed at p.0) p.1) s

stuck : (size at : ℕ) (c : Contents) (rest : List ℕ) → 0 < length rest → at + length rest ≡ size → read_on size c [] rest ≡ Err (Bad at)
stuck size at c [] some e = absurd (omega arith)
stuck size at c (b ∷ rest) some e =
    let place : size - length (b ∷ rest) ≡ at = omega arith in
    ap (λ (n : ℕ). Err (Bad n)) place

pub no_item_here : (size at : ℕ) (c : Contents) (rest : List ℕ) → 0 < length rest → at + length rest ≡ size → None ≡ item_at rest → from_here size c at rest ≡ Err (Bad at)
no_item_here size at c rest some e none =
    ap (λ (p : List Entry × List ℕ). read_on size c (placed at p.0) p.1) (split_none rest (sym none)) ∙ stuck size at c rest some e

-- the item at the front, and the reading behind it
item_here : (size at taken : ℕ) (c : Contents) (e : Entry) (rest after : List ℕ) → taken ≤ length rest → Some (e, drop taken rest) ≡ item_at rest → after ≡ drop taken rest
    → from_here size c at rest ≡ read_on size c ((e, at) ∷ placed (at + taken) (entries after)) (left_over after)
item_here size at taken c e rest after inside found is =
    let places : placed at (entries rest) ≡ (e, at) ∷ placed (at + taken) (entries after) = first_placed at rest after taken e inside found is in
    let left : left_over rest ≡ left_over after = ap (λ (p : List Entry × List ℕ). p.1) (split_item rest (e, drop taken rest) (sym found)) ∙ ap (λ (l : List ℕ). left_over l) (sym is) in
    ap (λ (l : List (Entry × ℕ)). read_on size c l (left_over rest)) places ∙ ap (λ (l : List ℕ). read_on size c ((e, at) ∷ placed (at + taken) (entries after)) l) left

pub refused_here : (size at taken : ℕ) (c : Contents) (e : Entry) (rest : List ℕ) → taken ≤ length rest → Some (e, drop taken rest) ≡ item_at rest → None ≡ with_item size c e
    → from_here size c at rest ≡ Err (Bad at)
refused_here size at taken c e rest inside found none =
    let go : Option Contents → Result Contents ReplyError = λ o. elim o [ None ↦ Err (Bad at) | Some d ↦ from_here size d (at + taken) (drop taken rest) ] in
    item_here size at taken c e rest (drop taken rest) inside found refl ∙ ap go (sym none)

pub taken_here : (size at taken : ℕ) (c d : Contents) (e : Entry) (rest after : List ℕ) → taken ≤ length rest → Some (e, drop taken rest) ≡ item_at rest → after ≡ drop taken rest → Some d ≡ with_item size c e
    → from_here size c at rest ≡ from_here size d (at + taken) after
taken_here size at taken c d e rest after inside found is some =
    let go : Option Contents → Result Contents ReplyError = λ o. elim o [ None ↦ Err (Bad at) | Some b ↦ from_here size b (at + taken) after ] in
    item_here size at taken c e rest after inside found is ∙ ap go (sym some)

pub all_payloads : (done : List (List ℕ)) (at i : ℕ) (ns rest : List ℕ) → length ns ≤ i → payloads_from done at (drop i ns) rest ≡ payloads_from done at [] rest
all_payloads done at i ns rest le = ap (λ (l : List ℕ). payloads_from done at l rest) (drop_all i ns le)

pub no_payload_here : (done : List (List ℕ)) (at i n : ℕ) (ns rest : List ℕ) → i < length ns → n ≡ get_or ns i n → None ≡ payload_at n rest
    → payloads_from done at (drop i ns) rest ≡ Err (Bad at)
no_payload_here done at i n ns rest lt is none =
    let next : drop i ns ≡ n ∷ drop (i + 1) ns = drop_more ns i n lt ∙ ap (λ (m : ℕ). m ∷ drop (i + 1) ns) (sym is) in
    let go : Option (List ℕ × List ℕ) → Result (List (List ℕ)) ReplyError = λ o. elim o [ None ↦ Err (Bad at) | Some x ↦ payloads_from (done ++ x.0 ∷ []) (at + padded_length n) (drop (i + 1) ns) x.1 ] in
    ap (λ (l : List ℕ). payloads_from done at l rest) next ∙ ap go (sym none)

pub payload_here : (done : List (List ℕ)) (at i n : ℕ) (ns rest payload behind : List ℕ) → i < length ns → n ≡ get_or ns i n → Some (payload, behind) ≡ payload_at n rest
    → payloads_from done at (drop i ns) rest ≡ payloads_from (done ++ payload ∷ []) (at + padded_length n) (drop (i + 1) ns) behind
payload_here done at i n ns rest payload behind lt is some =
    let next : drop i ns ≡ n ∷ drop (i + 1) ns = drop_more ns i n lt ∙ ap (λ (m : ℕ). m ∷ drop (i + 1) ns) (sym is) in
    let go : Option (List ℕ × List ℕ) → Result (List (List ℕ)) ReplyError = λ o. elim o [ None ↦ Err (Bad at) | Some x ↦ payloads_from (done ++ x.0 ∷ []) (at + padded_length n) (drop (i + 1) ns) x.1 ] in
    ap (λ (l : List ℕ). payloads_from done at l rest) next ∙ ap go (sym some)

-- one length more
pub one_length : (size i n : ℕ) (ns : List ℕ) → i < length ns → n ≡ get_or ns i n → begins size (take (i + 1) ns) ≡ begins size (take i ns) + padded_length n
one_length size i n ns lt is =
    let more : take (i + 1) ns ≡ take i ns ++ n ∷ [] = take_more ns i n lt ∙ ap (λ (m : ℕ). take i ns ++ m ∷ []) (sym is) in
    let sum : sum_by padded_length (take (i + 1) ns) ≡ sum_by padded_length (take i ns) + padded_length n = ap (sum_by padded_length) more ∙ sum_by_push padded_length (take i ns) n in
    omega arith

pub lengths_within : (size i : ℕ) (ns : List ℕ) → begins size (take i ns) ≤ begins size ns
lengths_within size i ns =
    let le : sum_by padded_length (take i ns) ≤ sum_by padded_length ns = sum_by-take-le padded_length ns i in
    omega arith

-- where no number says the offset, no item does
pub beyond : (size : ℕ) (c : Contents) (body : List ℕ) → length body ≡ 16 → length c.lengths < 16 → 2 ^ 64 ≤ begins size c.lengths → IsBytes body → None ≡ with_off size c body
unfolding with_off
beyond size c body len few far fits =
    let word : number (drop 8 body) < 2 ^ 64 = number_fits (drop 8 body) (IsBytes-drop 8 body fits) in
    rw (len, lt-ltb (length c.lengths) 16 few, ne_eqb (number (drop 8 body)) (begins size c.lengths) (λ e. omega arith)) refl

-- the reading begins with what no item says
pub starts : (size : ℕ) (d : Contents) (area : List ℕ) → d ≡ blank → from_here size d 64 area ≡ contents_in size area
unfolding contents_in
starts size d area e = ap (λ (c : Contents). from_here size c 64 area) e

pub was_refused : (t : Bool) (d : Contents) (o : Option Contents) → t ≡ false → if_taken t d ≡ o → None ≡ o
was_refused true d o n e = absurd cc
was_refused false d o n e = e

pub was_taken : (t : Bool) (d : Contents) (o : Option Contents) → t ≡ true → if_taken t d ≡ o → Some d ≡ o
was_taken true d o n e = e
was_taken false d o n e = absurd cc
