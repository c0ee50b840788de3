-- The first words of a reply's frame, whatever follows it.
use Rattle.std.proofs.Common.{◌≡◌, ℕ, ◌^◌, ◌<◌, List, [], ◌∷◌, ◌++◌, length, drop, sym, ap, ◌∙◌, append_assoc, length-append, arith}
use Rattle.std.proofs.lemmas.List.{drop_at}
use Rattle.kd_item.specs.Spelling.{word, words, number}
use Rattle.kd_item.proofs.Words.{length-word, length-words, word_again}
use Rattle.kd_wire.specs.declared.reply.Reply.{Reply}
use Rattle.kd_wire.specs.Frames.{command_word, caller_word}
use Rattle.kd_wire.specs.Replies.{code_of, reply_words, tail_of, reply_length, reply_frame}

pub record Head (bytes : List ℕ) (size command caller : ℕ) : Type 0 where
  pub size_is : number bytes ≡ size
  pub command_is : command < 2 ^ 64 → command_word bytes ≡ command
  pub caller_is : caller < 2 ^ 64 → caller_word bytes ≡ caller

three_words : (a b c d r : List ℕ) → (a ++ (b ++ (c ++ d))) ++ r ≡ a ++ (b ++ (c ++ (d ++ r)))
three_words a b c d r = append_assoc a (b ++ (c ++ d)) r ∙ ap (λ (l : List ℕ). a ++ l) (append_assoc b (c ++ d) r ∙ ap (λ (l : List ℕ). b ++ l) (append_assoc c d r))

behind_two : (a b : ℕ) (rest : List ℕ) → drop 16 (word a ++ (word b ++ rest)) ≡ rest
behind_two a b rest =
    let long : length (word a ++ word b) ≡ 16 = omega (arith, length-append (word a) (word b), length-word a, length-word b) in
    ap (drop 16) (sym (append_assoc (word a) (word b) rest)) ∙ drop_at (word a ++ word b) rest 16 long

head_here : (size command caller : ℕ) (rest bytes : List ℕ) → size < 2 ^ 64 → bytes ≡ word size ++ (word command ++ (word caller ++ rest)) → Head bytes size command caller
head_here size command caller rest bytes fits e =
    record {
      size_is = ap number e ∙ word_again size (word command ++ (word caller ++ rest)) fits;
      command_is = λ lt. ap (λ (l : List ℕ). number (drop 8 l)) e ∙ ap number (drop_at (word size) (word command ++ (word caller ++ rest)) 8 (length-word size)) ∙ word_again command (word caller ++ rest) lt;
      caller_is = λ lt. ap (λ (l : List ℕ). number (drop 16 l)) e ∙ ap number (behind_two size command (word caller ++ rest)) ∙ word_again caller rest lt;
    }

pub head_of : (command caller : ℕ) (reply : Reply) (rest bytes : List ℕ) → reply_length reply < 2 ^ 64 → bytes ≡ reply_frame command caller reply ++ rest → Head bytes (reply_length reply) command caller
head_of command caller reply rest bytes fits e =
    let size = reply_length reply in
    let code = word (code_of reply) ++ [] in
    let own = words (reply_words reply) in
    let tail = tail_of reply in
    let head = word size ++ (word command ++ (word caller ++ code)) in
    let parts : reply_frame command caller reply ++ rest ≡ word size ++ (word command ++ (word caller ++ (code ++ (own ++ (tail ++ rest))))) = append_assoc (head ++ own) tail rest ∙ append_assoc head own (tail ++ rest) ∙ three_words (word size) (word command) (word caller) code (own ++ (tail ++ rest)) in
    head_here size command caller (code ++ (own ++ (tail ++ rest))) bytes fits (e ∙ parts)

pub length_of_reply : (command caller : ℕ) (reply : Reply) → length (reply_frame command caller reply) ≡ reply_length reply
length_of_reply command caller reply =
    let head = reply_length reply ∷ command ∷ caller ∷ code_of reply ∷ [] in
    omega (arith, length-append (words head ++ words (reply_words reply)) (tail_of reply), length-append (words head) (words (reply_words reply)), length-words head, length-words (reply_words reply))
