-- A reply is its size word and its units.
use Rattle.std.proofs.Common.{◌≡◌, ℕ, ◌*◌, zero, suc, List, [], ◌∷◌, ◌++◌, length, map, take, replicate, refl, sym, ap, ◌∙◌, append-nil, append_assoc, length-append, arith}
use Rattle.std.specs.Prelude.{min}
use Rattle.kd_item.specs.Spelling.{padding, spelling, word, words}
use Rattle.kd_item.proofs.Words.{length-word}
use Rattle.kd_wire.specs.declared.reply.ListedItem.{ListedItem}
use Rattle.kd_wire.specs.declared.reply.Reply.{Reply}
use Rattle.kd_wire.specs.declared.reply.Reply.TheVariants.{Hello, Send, Recv, Read, Free, Byebye, Close, NameAcquire, NameRelease, NameList, MatchAdd, MatchRemove, PolicySet, EndpointMake, MakeBus, Tick, Seal, Unseal, Enter, Refused}
use Rattle.kd_wire.specs.Replies.{code_of, listed_entry, listing_bytes, reply_length, reply_words, tail_of}
use Rattle.kd_places.specs.Replies.{UnitsMakeReplies, joined, tail_units}

-- the bytes of a line
abbrev pub line_unit : ListedItem → List ℕ
line_unit line = spelling (listed_entry line)

pub joined_words : (xs : List ℕ) (us : List (List ℕ)) → joined (map word xs ++ us) ≡ words xs ++ joined us
joined_words [] us = refl
joined_words (x ∷ xs) us = ap (λ l. word x ++ l) (joined_words xs us) ∙ sym (append_assoc (word x) (words xs) (joined us))

words_append : (xs ys : List ℕ) → words (xs ++ ys) ≡ words xs ++ words ys
words_append [] ys = refl
words_append (x ∷ xs) ys = ap (λ l. word x ++ l) (words_append xs ys) ∙ sym (append_assoc (word x) (words xs) (words ys))

pub joined_lines : (lines : List ListedItem) → joined (map line_unit lines) ≡ listing_bytes lines
joined_lines [] = refl
joined_lines (line ∷ lines) = ap (λ l. line_unit line ++ l) (joined_lines lines)

joined_tail : (r : Reply) → joined (tail_units r) ≡ tail_of r
joined_tail (Hello id size hashes) = refl
joined_tail Send = refl
joined_tail (Recv number offset size dropped) = refl
joined_tail (Read bytes) = append-nil (bytes ++ replicate (padding (length bytes)) 0)
joined_tail Free = refl
joined_tail Byebye = refl
joined_tail Close = refl
joined_tail (NameAcquire queued) = refl
joined_tail NameRelease = refl
joined_tail (NameList listed) = joined_lines listed
joined_tail MatchAdd = refl
joined_tail MatchRemove = refl
joined_tail PolicySet = refl
joined_tail EndpointMake = refl
joined_tail MakeBus = refl
joined_tail (Tick moment) = refl
joined_tail (Seal number) = refl
joined_tail Unseal = refl
joined_tail Enter = refl
joined_tail (Refused refusal) = refl

pub units_make_replies : UnitsMakeReplies
units_make_replies command caller r =
    let size = reply_length r in
    let own : List ℕ = reply_words r in
    let head : List ℕ = size ∷ command ∷ caller ∷ code_of r ∷ [] in
    let behind : List ℕ = command ∷ caller ∷ code_of r ∷ own in
    ap (λ l. l ++ tail_of r) (sym (words_append head own))
    ∙ append_assoc (word size) (words behind) (tail_of r)
    ∙ ap (λ l. word size ++ l) (ap (λ l. words behind ++ l) (sym (joined_tail r)) ∙ sym (joined_words behind (tail_units r)))

-- of words alone, so many
pub front_words : (m : ℕ) (xs : List ℕ) → joined (take m (map word xs)) ≡ words (take m xs)
front_words zero xs = refl
front_words (suc m) [] = refl
front_words (suc m) (x ∷ xs) = ap (λ l. word x ++ l) (front_words m xs)

pub front_length : (m : ℕ) (xs : List ℕ) → length (joined (take m (map word xs))) ≡ 8 * min m (length xs)
front_length zero xs = omega arith
front_length (suc m) [] = omega arith
front_length (suc m) (x ∷ xs) = omega (arith, length-append (word x) (joined (take m (map word xs))), length-word x, front_length m xs)
