-- A frame that has no refusal is the frame of a well-formed command.
use Rattle.std.proofs.Common.{◌≡◌, ℕ, ◌+◌, ◌*◌, ◌-◌, ◌%◌, ◌≤◌, Bool, true, false, cond, not, ◌||◌, eqb, ltb, List, [], length, drop, Option, Some, None, Ok, refl, sym, ap, subst, ◌∙◌, length-drop, arith}
use Rattle.std.proofs.lemmas.Bool.{eqb-true, ltb-false}
use Rattle.kd_model.proofs.Truth.{not_false, both_false}
use Rattle.kd_item.specs.Spelling.{number}
use Rattle.kd_item.proofs.Words.{IsBytes, IsBytes-drop}
use Rattle.kd_wire.specs.declared.opcode.Opcode.{Opcode}
use Rattle.kd_wire.specs.declared.opcode.Opcode.TheVariants.{Hello, Send, Recv, Read, Free, Byebye, Close, NameAcquire, NameRelease, NameList, MatchAdd, MatchRemove, PolicySet, EndpointMake, MakeBus, Tick, Seal, Unseal, Enter}
use Rattle.kd_wire.specs.declared.command.Command.{Command}
use Rattle.kd_wire.specs.declared.item.WireItem.{WireItem}
use Rattle.kd_wire.specs.declared.frame.Cut.{Cut}
use Rattle.kd_wire.specs.declared.frame.Cut.TheVariants.{Frame, Need, Bad}
use Rattle.kd_wire.specs.declared.port.Port.{Port}
use Rattle.kd_types.specs.declared.refusal.Refusal.TheVariants.{Unsupported}
use Rattle.kd_wire.specs.Ports.{takes_opcode}
use Rattle.kd_wire.specs.Opcodes.{opcode_number, opcode_of, word_count}
use Rattle.kd_wire.specs.Items.{spelled}
use Rattle.kd_wire.specs.Commands.{opcode_in, flags_of, command_words, items_of}
use Rattle.kd_wire.specs.Frames.{layout, cut_of, frame_of, command_word, caller_word, flags_word, is_no_size}
use Rattle.kd_wire.specs.Kinds.{kinds_of}
use Rattle.kd_wire.specs.Reading.{items_in, stand}
use Rattle.kd_wire.specs.Refusals.{own_words, items_at, has_broken_words, flaw_of, IsSized, AreParts, IsWellFormed, refusal_by, refusal_in, refusal_of}
use Rattle.kd_wire.proofs.Parts as parts
use Rattle.kd_wire.proofs.ItemLaws as laws
use Rattle.kd_wire.proofs.WordLaws.{length_words_from}
use Rattle.kd_wire.proofs.FrameLaws.{frame_back}

-- ---- what a whole frame is

-- a size word that tells a frame is past the tests before it
pub need_not : (b : Bool) (n : ℕ) (y : Cut) (m : ℕ) → cond b (Need n) y ≡ Frame m → (b ≡ false) × (y ≡ Frame m)
need_not true n y m e = absurd cc
need_not false n y m e = (refl, e)

pub bad_not : (b : Bool) (y : Cut) (m : ℕ) → cond b Bad y ≡ Frame m → (b ≡ false) × (y ≡ Frame m)
bad_not true y m e = absurd cc
bad_not false y m e = (refl, e)

pub frame_size : (n m : ℕ) → Frame n ≡ Frame m → n ≡ m
frame_size n m e = cc

pub record Whole (frame : List ℕ) : Type 0 where
  pub size : number frame ≡ length frame
  pub low : 32 ≤ length frame
  pub high : length frame ≤ 131072

pub whole : (frame : List ℕ) → cut_of frame ≡ Frame (length frame) → Whole frame
whole frame e =
    let a = need_not (ltb (length frame) 8) 8 _ (length frame) e in
    let b = bad_not (is_no_size (number frame)) _ (length frame) a.1 in
    let c = need_not (ltb (length frame) (number frame)) (number frame) (Frame (number frame)) (length frame) b.1 in
    let size : number frame ≡ length frame = frame_size (number frame) (length frame) c.1 in
    let x = both_false (ltb (number frame) 32 || ltb 131072 (number frame)) (not (eqb (number frame % 8) 0)) b.0 in
    let y = both_false (ltb (number frame) 32) (ltb 131072 (number frame)) x.0 in
    let low : 32 ≤ number frame = ltb-false _ _ y.0 in
    let high : number frame ≤ 131072 = ltb-false _ _ y.1 in
    record { size = size; low = omega arith; high = omega arith }

-- ---- the words of a frame

pub long_enough : (opcode : Opcode) (frame : List ℕ) → has_broken_words opcode frame ≡ false → items_at opcode ≤ length frame
long_enough Send frame e = ltb-false _ _ (both_false (ltb (length frame) 96) _ e).0
long_enough Hello frame e = ltb-false _ _ e
long_enough Recv frame e = ltb-false _ _ e
long_enough Read frame e = ltb-false _ _ e
long_enough Free frame e = ltb-false _ _ e
long_enough Byebye frame e = ltb-false _ _ e
long_enough Close frame e = ltb-false _ _ e
long_enough NameAcquire frame e = ltb-false _ _ e
long_enough NameRelease frame e = ltb-false _ _ e
long_enough NameList frame e = ltb-false _ _ e
long_enough MatchAdd frame e = ltb-false _ _ e
long_enough MatchRemove frame e = ltb-false _ _ e
long_enough PolicySet frame e = ltb-false _ _ e
long_enough EndpointMake frame e = ltb-false _ _ e
long_enough MakeBus frame e = ltb-false _ _ e
long_enough Tick frame e = ltb-false _ _ e
long_enough Seal frame e = ltb-false _ _ e
long_enough Unseal frame e = ltb-false _ _ e
long_enough Enter frame e = ltb-false _ _ e

sized : (opcode : Opcode) (frame : List ℕ) (items : List WireItem) → has_broken_words opcode frame ≡ false → drop (items_at opcode) frame ≡ spelled items → IsSized opcode (own_words opcode (drop 32 frame)) items
sized Send frame items e read =
    let a = both_false (ltb (length frame) 96) (not (eqb (number (drop 32 frame)) (length frame - 32))) e in
    let size : number (drop 32 frame) ≡ length frame - 32 = eqb-true _ _ (not_false _ a.1) in
    let long : 96 ≤ length frame = ltb-false _ _ a.0 in
    let len : length (drop 96 frame) ≡ length (spelled items) = ap length read in
    size ∙ omega (arith, len, length-drop 96 frame)
sized opcode frame items e read = tt

-- a frame of these flags and, behind its head, these bytes, that was judged
pub record Accepted (opcode : Opcode) (frame : List ℕ) (flags : ℕ) (own : List ℕ) (items : List WireItem) : Type 0 where
  pub form : AreParts opcode flags (own_words opcode own) items
  pub parts : frame ≡ layout (opcode_number opcode) (caller_word frame) flags (own_words opcode own) items
  pub size : 32 + 8 * length (own_words opcode own) + length (spelled items) ≤ 131072
  pub standing : stand (kinds_of opcode flags) [] items ≡ true
  pub values : flaw_of opcode flags (own_words opcode own) items ≡ None

accepted_whole : (opcode : Opcode) (frame : List ℕ) (items : List WireItem) → IsBytes frame → cut_of frame ≡ Frame (length frame) → command_word frame ≡ opcode_number opcode
    → has_broken_words opcode frame ≡ false → items_in (kinds_of opcode (flags_word frame)) (items_at opcode) (drop (items_at opcode) frame) ≡ Ok items
    → flaw_of opcode (flags_word frame) (own_words opcode (drop 32 frame)) items ≡ None → Accepted opcode frame (flags_word frame) (drop 32 frame) items
accepted_whole opcode frame items fits cut command unbroken read no_flaw =
    let w = whole frame cut in
    let long = long_enough opcode frame unbroken in
    let r = laws.items_read (kinds_of opcode (flags_word frame)) (items_at opcode) (drop (items_at opcode) frame) items (IsBytes-drop (items_at opcode) frame fits) read in
    let own = own_words opcode (drop 32 frame) in
    let high : length frame ≤ 131072 = w.high in
    let count : length own ≡ word_count opcode = length_words_from (word_count opcode) 0 (drop 32 frame) in
    let tail : length (drop (items_at opcode) frame) ≡ length (spelled items) = ap length r.parts in
    record {
      form = parts.parts_fit opcode (flags_word frame) own items r.taken (sized opcode frame items unbroken r.parts) (parts.flawless opcode (flags_word frame) own items no_flaw);
      parts = frame_back opcode frame items fits w.size long r.parts ∙ ap (λ n. layout n (caller_word frame) (flags_word frame) own items) command;
      size = omega (arith, count, tail, length-drop (items_at opcode) frame, long);
      standing = r.standing;
      values = no_flaw;
    }

pub accepted : (opcode : Opcode) (frame : List ℕ) (items : List WireItem) (kinds : List ℕ) (start flags : ℕ) (tail own : List ℕ) → IsBytes frame → cut_of frame ≡ Frame (length frame) → command_word frame ≡ opcode_number opcode
    → has_broken_words opcode frame ≡ false → flags ≡ flags_word frame → start ≡ items_at opcode → kinds ≡ kinds_of opcode flags → tail ≡ drop start frame → own ≡ drop 32 frame
    → items_in kinds start tail ≡ Ok items → flaw_of opcode flags (own_words opcode own) items ≡ None → Accepted opcode frame flags own items
accepted opcode frame items kinds start flags tail own fits cut command unbroken flags-is start-is kinds-is tail-is own-is read no_flaw =
    let kinds-are : kinds ≡ kinds_of opcode (flags_word frame) = kinds-is ∙ ap (kinds_of opcode) flags-is in
    let tail-at : tail ≡ drop (items_at opcode) frame = tail-is ∙ ap (λ n. drop n frame) start-is in
    let reading : items_in kinds start tail ≡ items_in (kinds_of opcode (flags_word frame)) (items_at opcode) (drop (items_at opcode) frame) =
    ap (λ k. items_in k start tail) kinds-are ∙ ap (λ n. items_in (kinds_of opcode (flags_word frame)) n tail) start-is ∙ ap (items_in (kinds_of opcode (flags_word frame)) (items_at opcode)) tail-at in
    let judged : flaw_of opcode flags (own_words opcode own) items ≡ flaw_of opcode (flags_word frame) (own_words opcode (drop 32 frame)) items =
    ap (λ n. flaw_of opcode n (own_words opcode own) items) flags-is ∙ ap (λ (l : List ℕ). flaw_of opcode (flags_word frame) (own_words opcode l) items) own-is in
    let all = accepted_whole opcode frame items fits cut command unbroken (sym reading ∙ read) (sym judged ∙ no_flaw) in
    subst (λ n. Accepted opcode frame n own items) (sym flags-is) (subst (λ (l : List ℕ). Accepted opcode frame (flags_word frame) l items) (sym own-is) all)

-- a command of these parts
pub record Is (opcode : Opcode) (flags : ℕ) (own : List ℕ) (items : List WireItem) (command : Command) : Type 0 where
  pub opcode_is : opcode_in command ≡ opcode
  pub flags_is : flags_of command ≡ flags
  pub words_is : command_words command ≡ own
  pub items_is : items_of command ≡ items

pub well_formed : (opcode : Opcode) (frame : List ℕ) (flags : ℕ) (own : List ℕ) (items : List WireItem) (command : Command) → Accepted opcode frame flags own items → Is opcode flags (own_words opcode own) items command → IsWellFormed command
well_formed opcode frame flags own items command a is =
    record {
      size = rw (is.words_is, is.items_is) a.size;
      items = rw (is.opcode_is, is.flags_is, is.items_is) a.standing;
      values = rw (is.opcode_is, is.flags_is, is.words_is, is.items_is) a.values;
    }

pub spelled_so : (opcode : Opcode) (frame : List ℕ) (caller flags : ℕ) (own : List ℕ) (items : List WireItem) (command : Command) → caller ≡ caller_word frame → Accepted opcode frame flags own items → Is opcode flags (own_words opcode own) items command → frame ≡ frame_of caller command
spelled_so opcode frame caller flags own items command caller-is a is =
    let e : frame_of (caller_word frame) command ≡ layout (opcode_number opcode) (caller_word frame) flags (own_words opcode own) items = rw (is.opcode_is, is.flags_is, is.words_is, is.items_is) refl in
    a.parts ∙ sym e ∙ ap (λ n. frame_of n command) (sym caller-is)

-- ---- which command a frame names

pub no_opcode : (port : Port) (frame : List ℕ) → None ≡ opcode_of (command_word frame) → refusal_of port frame ≡ Some (Unsupported (command_word frame))
unfolding refusal_of
no_opcode port frame none = ap (λ (o : Option Opcode). refusal_by o port frame) (sym none)

pub opcode_not_taken : (port : Port) (opcode : Opcode) (frame : List ℕ) → Some opcode ≡ opcode_of (command_word frame) → takes_opcode port opcode ≡ false → refusal_of port frame ≡ Some (Unsupported (command_word frame))
unfolding refusal_of
opcode_not_taken port opcode frame some e = ap (λ (o : Option Opcode). refusal_by o port frame) (sym some) ∙ ap (λ (b : Bool). cond b (refusal_in port opcode frame) (Some (Unsupported (command_word frame)))) e

pub opcode_taken : (port : Port) (opcode : Opcode) (frame : List ℕ) → Some opcode ≡ opcode_of (command_word frame) → takes_opcode port opcode ≡ true → refusal_of port frame ≡ refusal_in port opcode frame
unfolding refusal_of
opcode_taken port opcode frame some e = ap (λ (o : Option Opcode). refusal_by o port frame) (sym some) ∙ ap (λ (b : Bool). cond b (refusal_in port opcode frame) (Some (Unsupported (command_word frame)))) e
