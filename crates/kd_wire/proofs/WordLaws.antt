-- Words that are read are the bytes that they were read from.
use Rattle.std.proofs.Common.{◌≡◌, ℕ, zero, suc, ◌+◌, ◌*◌, ◌<◌, ◌≤◌, List, [], ◌∷◌, ◌++◌, length, take, drop, set, refl, sym, ap, ◌∙◌, length-drop, arith}
use Rattle.std.proofs.lemmas.List.{nil_from_length, take-append-drop, drop-drop, take_more_set}
use Rattle.std.proofs.Math.Seq.{take-add}
use Rattle.kd_item.specs.Spelling.{word, words, number}
use Rattle.kd_item.proofs.Words.{IsBytes, IsBytes-drop, word_front}
use Rattle.kd_wire.specs.Refusals.{words_from}

pub words_back : (n at : ℕ) (bytes : List ℕ) → at + 8 * n ≤ length bytes → IsBytes bytes → words (words_from n at bytes) ≡ take (8 * n) (drop at bytes)
words_back zero at bytes long fits = refl
words_back (suc n) at bytes long fits =
    let len = length-drop at bytes in
    let first : word (number (drop at bytes)) ≡ take 8 (drop at bytes) = word_front (drop at bytes) (omega (arith, len)) (IsBytes-drop at bytes fits) in
    let more : words (words_from n (at + 8) bytes) ≡ take (8 * n) (drop 8 (drop at bytes)) = words_back n (at + 8) bytes (omega arith) fits ∙ ap (take (8 * n)) (sym (drop-drop 8 at bytes)) in
    let both : take (8 + 8 * n) (drop at bytes) ≡ take 8 (drop at bytes) ++ take (8 * n) (drop 8 (drop at bytes)) = take-add 8 (8 * n) (drop at bytes) in
    let count : 8 * suc n ≡ 8 + 8 * n = omega arith in
    rw (count, both, first, more) refl

pub words_split : (n : ℕ) (bytes : List ℕ) → 8 * n ≤ length bytes → IsBytes bytes → words (words_from n 0 bytes) ++ drop (8 * n) bytes ≡ bytes
words_split n bytes long fits = ap (λ (l : List ℕ). l ++ drop (8 * n) bytes) (words_back n 0 bytes (omega arith) fits) ∙ take-append-drop (8 * n) bytes

-- nothing but words
pub words_only : (n : ℕ) (bytes : List ℕ) → length bytes ≡ 8 * n → IsBytes bytes → words (words_from n 0 bytes) ++ [] ≡ bytes
words_only n bytes len fits =
    let nothing : drop (8 * n) bytes ≡ [] = nil_from_length (drop (8 * n) bytes) (omega (arith, length-drop (8 * n) bytes)) in
    ap (λ (l : List ℕ). words (words_from n 0 bytes) ++ l) (sym nothing) ∙ words_split n bytes (omega arith) fits

pub length_words_from : (n at : ℕ) (bytes : List ℕ) → length (words_from n at bytes) ≡ n
length_words_from zero at bytes = refl
length_words_from (suc n) at bytes = ap suc (length_words_from n (at + 8) bytes)

-- one word more
pub words_more : (n at : ℕ) (bytes : List ℕ) → words_from (suc n) at bytes ≡ words_from n at bytes ++ number (drop (at + 8 * n) bytes) ∷ []
words_more zero at bytes =
    let place : at ≡ at + 8 * 0 = omega arith in
    ap (λ k. number (drop k bytes) ∷ []) place
words_more (suc n) at bytes =
    let place : at + 8 + 8 * n ≡ at + 8 * suc n = omega arith in
    ap (λ (l : List ℕ). number (drop at bytes) ∷ l) (words_more n (at + 8) bytes ∙ ap (λ k. words_from n (at + 8) bytes ++ number (drop k bytes) ∷ []) place)

-- a place into which a word more was read
pub one_word_read : (into bytes : List ℕ) (place read : ℕ) → place < length into → take place into ≡ words_from place 0 bytes → read ≡ number (drop (8 * place) bytes) → take (place + 1) (set into place read) ≡ words_from (place + 1) 0 bytes
one_word_read into bytes place read lt so_far read-is =
    let next : suc place ≡ place + 1 = omega arith in
    let here : 8 * place ≡ 0 + 8 * place = omega arith in
    let last : read ≡ number (drop (0 + 8 * place) bytes) = read-is ∙ ap (λ n. number (drop n bytes)) here in
    take_more_set into place read lt ∙ ap (λ (l : List ℕ). l ++ read ∷ []) so_far ∙ ap (λ n. words_from place 0 bytes ++ n ∷ []) last ∙ sym (words_more place 0 bytes) ∙ ap (λ k. words_from k 0 bytes) next
