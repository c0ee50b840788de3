-- A frame that is read is the spelling of what is read.
use Rattle.std.proofs.Common.{◌≡◌, ℕ, ◌+◌, ◌*◌, ◌≤◌, List, [], ◌∷◌, ◌++◌, length, take, drop, sym, ap, ◌∙◌, append_assoc, length-drop, arith}
use Rattle.std.proofs.lemmas.List.{take-append-drop, drop-drop}
use Rattle.kd_item.specs.Spelling.{words, number}
use Rattle.kd_item.proofs.Words.{IsBytes, IsBytes-drop}
use Rattle.kd_wire.specs.declared.opcode.Opcode.{Opcode}
use Rattle.kd_wire.specs.declared.item.WireItem.{WireItem}
use Rattle.kd_wire.specs.Opcodes.{word_count}
use Rattle.kd_wire.specs.Items.{spelled}
use Rattle.kd_wire.specs.Frames.{layout, command_word, caller_word, flags_word}
use Rattle.kd_wire.specs.Refusals.{words_from, own_words, items_at}
use Rattle.kd_wire.proofs.WordLaws.{words_back, length_words_from}

pub frame_back : (opcode : Opcode) (frame : List ℕ) (items : List WireItem) → IsBytes frame → number frame ≡ length frame → items_at opcode ≤ length frame → drop (items_at opcode) frame ≡ spelled items
    → frame ≡ layout (command_word frame) (caller_word frame) (flags_word frame) (own_words opcode (drop 32 frame)) items
frame_back opcode frame items fits whole long read =
    let n = word_count opcode in
    let own = drop 32 frame in
    let head : words (words_from 4 0 frame) ≡ take 32 frame = words_back 4 0 frame (omega arith) fits in
    let mine : words (own_words opcode own) ≡ take (8 * n) own = words_back n 0 own (omega (arith, length-drop 32 frame)) (IsBytes-drop 32 frame fits) in
    let tail : spelled items ≡ drop (8 * n) own = sym read ∙ sym (drop-drop (8 * n) 32 frame) in
    let size : 32 + 8 * length (own_words opcode own) + length (spelled items) ≡ number frame = omega (arith, whole, length_words_from n 0 own, ap length read, length-drop (items_at opcode) frame) in
    let joined : take 32 frame ++ take (8 * n) own ++ drop (8 * n) own ≡ frame =
    append_assoc (take 32 frame) (take (8 * n) own) (drop (8 * n) own) ∙ ap (λ (l : List ℕ). take 32 frame ++ l) (take-append-drop (8 * n) own) ∙ take-append-drop 32 frame in
    sym (
    ap (λ k. words (k ∷ command_word frame ∷ caller_word frame ∷ flags_word frame ∷ []) ++ words (own_words opcode own) ++ spelled items) size
    ∙ ap (λ (l : List ℕ). l ++ words (own_words opcode own) ++ spelled items) head
    ∙ ap (λ (l : List ℕ). take 32 frame ++ l ++ spelled items) mine
    ∙ ap (λ (l : List ℕ). take 32 frame ++ take (8 * n) own ++ l) tail
    ∙ joined)
