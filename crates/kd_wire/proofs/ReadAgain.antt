-- What is written is read again.
use Rattle.std.proofs.Common.{◌≡◌, ℕ, zero, suc, ◌+◌, ◌*◌, ◌-◌, ◌^◌, ◌<◌, ◌≤◌, Bool, true, false, cond, ◌&&◌, eqb, ltb, leb, List, [], ◌∷◌, ◌++◌, length, map, drop, eq-eqb, Some, None, Result, Ok, refl, sym, ap, ◌∙◌, append_assoc, length-append, arith}
use Rattle.std.specs.Str.{is_utf8}
use Rattle.std.specs.List.{AllByRecursion}
use Rattle.std.specs.Int.{w64, cast_signed}
use Rattle.std.proofs.lemmas.Int.{to_z-of_z}
use Rattle.std.proofs.lemmas.Bool.{le-ltb}
use Rattle.std.proofs.lemmas.List.{append-nil, drop_at, drop-drop, nil_from_length}
use Rattle.std.proofs.lemmas.List.Folds.{flat_map-map}
use Rattle.kd_model.proofs.Truth.{both_true}
use Rattle.kd_item.specs.Spelling.{Entry, AreItems, word, words, number, spelling, spellings}
use Rattle.kd_item.specs.Reading.{split, placed}
use Rattle.kd_item.proofs.Words.{length-word, word_again, length-words}
use Rattle.kd_item.proofs.Splits.{split_again}
use Rattle.kd_item.proofs.Sizes.{length-body}
use Rattle.kd_types.specs.declared.refusal.Refusal.{Refusal}
use Rattle.kd_wire.specs.declared.port.Port.{Port}
use Rattle.kd_wire.specs.declared.opcode.Opcode.{Opcode}
use Rattle.kd_wire.specs.declared.opcode.Opcode.TheVariants as opcodes
use Rattle.kd_wire.specs.declared.item.WireItem.{WireItem}
use Rattle.kd_wire.specs.declared.item.WireItem.TheVariants.{Payload, Sealed, DstName, Filter, Mask, Name, Access, Bus, Endpoint, Description, Id, IdAdd, IdRemove, NameAdd, NameRemove, NameChange}
use Rattle.kd_wire.specs.declared.command.Command.{Command}
use Rattle.kd_wire.specs.declared.command.Command.TheVariants as commands
use Rattle.kd_wire.specs.Ports.{takes_caller, takes_opcode}
use Rattle.kd_wire.specs.Opcodes.{opcode_number, opcode_of, word_count}
use Rattle.kd_wire.specs.Items.{kind_of, words_in, bytes_in, body_of, wire_entry, spelled, wire_length}
use Rattle.kd_wire.specs.Commands.{bit, opcode_in, flags_of, command_words, items_of}
use Rattle.kd_wire.specs.Frames.{layout, frame_of, frame_length, command_word, caller_word, flags_word}
use Rattle.kd_wire.specs.Kinds.{kinds_of, nth}
use Rattle.kd_wire.specs.Reading.{item_in, has_form, item_may_follow, stand, item_behind, items_behind, if_ended, items_in}
use Rattle.kd_wire.specs.Refusals.{words_from, own_words, items_at, has_broken_words, flaw_of, refusal_in, refusal_of, IsWellFormed}
use Rattle.kd_wire.specs.Typed.{AreWords, HasSigned, IsTyped}
use Rattle.kd_wire.proofs.Lengths.{length_item}
use Rattle.kd_wire.proofs.ItemsRead.{behind_some, behind_end, is_ended}
use Rattle.kd_wire.proofs.Accepted.{opcode_taken}

-- ---- words

shifted : (n at : ℕ) (bytes : List ℕ) → words_from n (at + 8) bytes ≡ words_from n at (drop 8 bytes)
shifted zero at bytes = refl
shifted (suc n) at bytes =
    let place : 8 + at ≡ at + 8 = omega arith in
    let first : drop (at + 8) bytes ≡ drop at (drop 8 bytes) = ap (λ k. drop k bytes) (sym place) ∙ sym (drop-drop at 8 bytes) in
    ap (λ (l : List ℕ). number l ∷ words_from n (at + 8 + 8) bytes) first ∙ ap (λ (l : List ℕ). number (drop at (drop 8 bytes)) ∷ l) (shifted n (at + 8) bytes)

pub words_again : (ws rest : List ℕ) → AreWords ws → words_from (length ws) 0 (words ws ++ rest) ≡ ws
words_again [] rest fits = refl
words_again (w ∷ ws) rest fits =
    let more = words ws ++ rest in
    let n = length ws in
    let parts : words (w ∷ ws) ++ rest ≡ word w ++ more = append_assoc (word w) (words ws) rest in
    let behind : drop 8 (word w ++ more) ≡ more = drop_at (word w) more 8 (length-word w) in
    let first : number (word w ++ more) ≡ w = word_again w more fits.0 in
    let others : words_from n 8 (word w ++ more) ≡ ws = shifted n 0 (word w ++ more) ∙ ap (words_from n 0) behind ∙ words_again ws rest fits.1 in
    ap (words_from (suc n) 0) parts ∙ ap (λ k. k ∷ words_from n 8 (word w ++ more)) first ∙ ap (λ (l : List ℕ). w ∷ l) others

-- the words at the front of bytes that begin with them, and what follows
pub words_here : (ws rest bytes : List ℕ) → AreWords ws → bytes ≡ words ws ++ rest → words_from (length ws) 0 bytes ≡ ws
words_here ws rest bytes fits e = ap (words_from (length ws) 0) e ∙ words_again ws rest fits

pub behind_words : (ws rest bytes : List ℕ) (n : ℕ) → n ≡ 8 * length ws → bytes ≡ words ws ++ rest → drop n bytes ≡ rest
behind_words ws rest bytes n count e = ap (drop n) e ∙ drop_at (words ws) rest n (length-words ws ∙ sym count)

-- ---- one item

sealed_again : (body : List ℕ) (x y z : ℕ) → length body ≡ 24 → words_from 3 0 body ≡ x ∷ y ∷ z ∷ [] → item_in 2 body ≡ Some (Sealed x y z)
unfolding item_in
sealed_again body x y z len e =
    let a : number body ≡ x = ap (λ l. nth l 0) e in
    let b : number (drop 8 body) ≡ y = ap (λ l. nth l 1) e in
    let c : number (drop 16 body) ≡ z = ap (λ l. nth l 2) e in
    rw (len, a, b, c) refl

access_again : (body : List ℕ) (x y z : ℕ) → length body ≡ 24 → words_from 3 0 body ≡ x ∷ y ∷ z ∷ [] → item_in 7 body ≡ Some (Access x y z)
unfolding item_in
access_again body x y z len e =
    let a : number body ≡ x = ap (λ l. nth l 0) e in
    let b : number (drop 8 body) ≡ y = ap (λ l. nth l 1) e in
    let c : number (drop 16 body) ≡ z = ap (λ l. nth l 2) e in
    rw (len, a, b, c) refl

filter_again : (body bits : List ℕ) (x : ℕ) → 8 ≤ length body → words_from 1 0 body ≡ x ∷ [] → drop 8 body ≡ bits → item_in 4 body ≡ Some (Filter x bits)
unfolding item_in
filter_again body bits x long e behind =
    let short : ltb (length body) 8 ≡ false = le-ltb _ _ long in
    let a : number body ≡ x = ap (λ l. nth l 0) e in
    rw (short, a, behind) refl

id_again : (body : List ℕ) (x : ℕ) → length body ≡ 8 → words_from 1 0 body ≡ x ∷ [] → (item_in 11 body ≡ Some (Id x)) × (item_in 12 body ≡ Some (IdAdd x)) × (item_in 13 body ≡ Some (IdRemove x))
unfolding item_in
id_again body x len e =
    let a : number body ≡ x = ap (λ l. nth l 0) e in
    (rw (len, a) refl, rw (len, a) refl, rw (len, a) refl)

change_again : (body name : List ℕ) (x y : ℕ) → 16 ≤ length body → words_from 2 0 body ≡ x ∷ y ∷ [] → drop 16 body ≡ name → is_utf8 name ≡ true
    → (item_in 14 body ≡ Some (NameAdd x y name)) × (item_in 15 body ≡ Some (NameRemove x y name)) × (item_in 16 body ≡ Some (NameChange x y name))
unfolding item_in
change_again body name x y long e behind utf8 =
    let short : ltb (length body) 16 ≡ false = le-ltb _ _ long in
    let a : number body ≡ x = ap (λ l. nth l 0) e in
    let b : number (drop 8 body) ≡ y = ap (λ l. nth l 1) e in
    (rw (short, a, b, behind, utf8) refl, rw (short, a, b, behind, utf8) refl, rw (short, a, b, behind, utf8) refl)

-- what an item is spelled as says it again
item_said_again : (item : WireItem) → AreWords (words_in item) → has_form item ≡ true → item_in (kind_of item) (body_of item) ≡ Some item
unfolding item_in
item_said_again (Payload bytes) fits form = refl
item_said_again (Mask bits) fits form = refl
item_said_again (DstName text) fits form = rw form refl
item_said_again (Name text) fits form = rw form refl
item_said_again (Bus text) fits form = rw form refl
item_said_again (Endpoint text) fits form = rw form refl
item_said_again (Description text) fits form = let b = both_true (is_utf8 text) (leb (length text) 255) form in rw (b.0, b.1) refl
item_said_again (Sealed x y z) fits form = let ws = x ∷ y ∷ z ∷ [] in sealed_again (words ws ++ []) x y z (length-body ws []) (words_again ws [] fits)
item_said_again (Access x y z) fits form = let ws = x ∷ y ∷ z ∷ [] in access_again (words ws ++ []) x y z (length-body ws []) (words_again ws [] fits)
item_said_again (Filter x bits) fits form =
    let ws = x ∷ [] in
    filter_again (words ws ++ bits) bits x (omega (arith, length-body ws bits)) (words_again ws bits fits) (behind_words ws bits (words ws ++ bits) 8 refl refl)
item_said_again (Id x) fits form = let ws = x ∷ [] in (id_again (words ws ++ []) x (length-body ws []) (words_again ws [] fits)).0
item_said_again (IdAdd x) fits form = let ws = x ∷ [] in (id_again (words ws ++ []) x (length-body ws []) (words_again ws [] fits)).1
item_said_again (IdRemove x) fits form = let ws = x ∷ [] in (id_again (words ws ++ []) x (length-body ws []) (words_again ws [] fits)).2
item_said_again (NameAdd x y text) fits form =
    let ws = x ∷ y ∷ [] in
    (change_again (words ws ++ text) text x y (omega (arith, length-body ws text)) (words_again ws text fits) (behind_words ws text (words ws ++ text) 16 refl refl) form).0
item_said_again (NameRemove x y text) fits form =
    let ws = x ∷ y ∷ [] in
    (change_again (words ws ++ text) text x y (omega (arith, length-body ws text)) (words_again ws text fits) (behind_words ws text (words ws ++ text) 16 refl refl) form).1
item_said_again (NameChange x y text) fits form =
    let ws = x ∷ y ∷ [] in
    (change_again (words ws ++ text) text x y (omega (arith, length-body ws text)) (words_again ws text fits) (behind_words ws text (words ws ++ text) 16 refl refl) form).2

-- ---- items

abbrev AreTyped : List WireItem → Type 0
AreTyped items = AllByRecursion (λ (item : WireItem). AreWords (words_in item)) items

items_behind_again : (kinds : List ℕ) (at : ℕ) (items before : List WireItem) → AreTyped items → stand kinds before items ≡ true → items_behind kinds before (placed at (map wire_entry items)) ≡ Ok (before ++ items)
items_behind_again kinds at [] before fits stands = behind_end kinds before ∙ ap (λ (l : List WireItem). Ok l) (sym (append-nil before))
items_behind_again kinds at (item ∷ items) before fits stands =
    let a = both_true (item_may_follow kinds before (kind_of item) && has_form item) (stand kinds (before ++ item ∷ []) items) stands in
    let b = both_true (item_may_follow kinds before (kind_of item)) (has_form item) a.0 in
    let here : item_behind kinds before (wire_entry item) ≡ Some item = ap (λ (t : Bool). cond t (item_in (kind_of item) (body_of item)) None) b.0 ∙ item_said_again item fits.0 b.1 in
    let next = at + length (spelling (wire_entry item)) in
    behind_some kinds before (wire_entry item) at (placed next (map wire_entry items)) item here
    ∙ items_behind_again kinds next items (before ++ item ∷ []) fits.1 a.1
    ∙ ap (λ (l : List WireItem). Ok l) (append_assoc before (item ∷ []) items)

kind_fits : (item : WireItem) → kind_of item < 2 ^ 64
kind_fits (Payload bytes) = omega arith
kind_fits (Sealed x y z) = omega arith
kind_fits (DstName text) = omega arith
kind_fits (Filter x bits) = omega arith
kind_fits (Mask bits) = omega arith
kind_fits (Name text) = omega arith
kind_fits (Access x y z) = omega arith
kind_fits (Bus text) = omega arith
kind_fits (Endpoint text) = omega arith
kind_fits (Description text) = omega arith
kind_fits (Id x) = omega arith
kind_fits (IdAdd x) = omega arith
kind_fits (IdRemove x) = omega arith
kind_fits (NameAdd x y text) = omega arith
kind_fits (NameRemove x y text) = omega arith
kind_fits (NameChange x y text) = omega arith

items_fit : (items : List WireItem) → length (spelled items) < 2 ^ 63 → AreItems (map wire_entry items)
items_fit [] few = tt
items_fit (item ∷ items) few =
    let len = length-append (spelling (wire_entry item)) (spelled items) in
    let one : length (spelling (wire_entry item)) ≡ wire_length item = length_item item in
    let body : length (body_of item) ≡ 8 * length (words_in item) + length (bytes_in item) = length-body (words_in item) (bytes_in item) in
    (record { kind = kind_fits item; size = omega (arith, len, one, body) }, items_fit items (omega (arith, len)))

pub items_again : (kinds : List ℕ) (at : ℕ) (items : List WireItem) → AreTyped items → length (spelled items) < 2 ^ 63 → stand kinds [] items ≡ true → items_in kinds at (spelled items) ≡ Ok items
unfolding items_in
items_again kinds at items fits few stands =
    let es = map wire_entry items in
    let e : spelled items ≡ spellings es = sym (flat_map-map spelling wire_entry items) in
    let apart : split (spelled items) ≡ (es, []) = ap split e ∙ split_again es (items_fit items few) in
    let nothing : (split (spelled items)).1 ≡ [] = ap (λ (p : List Entry × List ℕ). p.1) apart in
    let read : items_behind kinds [] (placed at (split (spelled items)).0) ≡ Ok items = ap (λ (p : List Entry × List ℕ). items_behind kinds [] (placed at p.0)) apart ∙ items_behind_again kinds at items [] fits stands in
    ap (if_ended (at + length (spelled items)) (split (spelled items)).1) read ∙ is_ended (at + length (spelled items)) (split (spelled items)).1 items (ap length nothing)

-- ---- a frame

-- what stands in a frame at each place
pub record Laid (bytes : List ℕ) (command caller flags : ℕ) (own : List ℕ) (items : List WireItem) : Type 0 where
  pub size_is : number bytes ≡ 32 + 8 * length own + length (spelled items)
  pub long_is : length bytes ≡ 32 + 8 * length own + length (spelled items)
  pub command_is : command_word bytes ≡ command
  pub caller_is : caller_word bytes ≡ caller
  pub flags_is : flags_word bytes ≡ flags
  pub own_is : words_from (length own) 0 (drop 32 bytes) ≡ own
  pub items_are : drop (32 + 8 * length own) bytes ≡ spelled items

pub laid : (bytes : List ℕ) (command caller flags : ℕ) (own : List ℕ) (items : List WireItem) → 32 + 8 * length own + length (spelled items) < 2 ^ 64 → command < 2 ^ 64 → caller < 2 ^ 64 → flags < 2 ^ 64 → AreWords own
    → bytes ≡ layout command caller flags own items → Laid bytes command caller flags own items
laid bytes command caller flags own items size-fits command-fits caller-fits flags-fits own-fits e =
    let size = 32 + 8 * length own + length (spelled items) in
    let head = size ∷ command ∷ caller ∷ flags ∷ [] in
    let rest = words own ++ spelled items in
    let parts : bytes ≡ words head ++ rest = e ∙ append_assoc (words head) (words own) (spelled items) in
    let front : words_from 4 0 bytes ≡ head = words_here head rest bytes (size-fits, (command-fits, (caller-fits, (flags-fits, tt)))) parts in
    let behind : drop 32 bytes ≡ rest = behind_words head rest bytes 32 refl parts in
    let last : drop (8 * length own) (drop 32 bytes) ≡ spelled items = behind_words own (spelled items) (drop 32 bytes) (8 * length own) refl behind in
    record {
      size_is = ap (λ l. nth l 0) front;
      long_is = omega (arith, ap length parts, length-append (words head) rest, length-words head, length-append (words own) (spelled items), length-words own);
      command_is = ap (λ l. nth l 1) front;
      caller_is = ap (λ l. nth l 2) front;
      flags_is = ap (λ l. nth l 3) front;
      own_is = words_here own (spelled items) (drop 32 bytes) own-fits behind;
      items_are = sym (drop-drop (8 * length own) 32 bytes) ∙ last;
    }

-- ---- commands

pub count_is : (command : Command) → length (command_words command) ≡ word_count (opcode_in command)
count_is (commands.Hello flags pool send receive items) = refl
count_is (commands.Send flags priority dst source payload_type cookie last items) = refl
count_is (commands.Recv flags limit) = refl
count_is (commands.Read sealed number) = refl
count_is (commands.Free number) = refl
count_is commands.Byebye = refl
count_is commands.Close = refl
count_is (commands.NameAcquire flags name) = refl
count_is (commands.NameRelease name) = refl
count_is (commands.NameList flags) = refl
count_is (commands.MatchAdd replace cookie items) = refl
count_is (commands.MatchRemove cookie) = refl
count_is (commands.PolicySet items) = refl
count_is (commands.EndpointMake items) = refl
count_is (commands.MakeBus size hashes bus) = refl
count_is (commands.Tick moment) = refl
count_is (commands.Seal payload) = refl
count_is (commands.Unseal number) = refl
count_is (commands.Enter creds) = refl

pub named_again : (opcode : Opcode) → opcode_of (opcode_number opcode) ≡ Some opcode
named_again opcodes.Hello = refl
named_again opcodes.Send = refl
named_again opcodes.Recv = refl
named_again opcodes.Read = refl
named_again opcodes.Free = refl
named_again opcodes.Byebye = refl
named_again opcodes.Close = refl
named_again opcodes.NameAcquire = refl
named_again opcodes.NameRelease = refl
named_again opcodes.NameList = refl
named_again opcodes.MatchAdd = refl
named_again opcodes.MatchRemove = refl
named_again opcodes.PolicySet = refl
named_again opcodes.EndpointMake = refl
named_again opcodes.MakeBus = refl
named_again opcodes.Tick = refl
named_again opcodes.Seal = refl
named_again opcodes.Unseal = refl
named_again opcodes.Enter = refl

number_fits : (opcode : Opcode) → opcode_number opcode < 2 ^ 64
number_fits opcodes.Hello = omega arith
number_fits opcodes.Send = omega arith
number_fits opcodes.Recv = omega arith
number_fits opcodes.Read = omega arith
number_fits opcodes.Free = omega arith
number_fits opcodes.Byebye = omega arith
number_fits opcodes.Close = omega arith
number_fits opcodes.NameAcquire = omega arith
number_fits opcodes.NameRelease = omega arith
number_fits opcodes.NameList = omega arith
number_fits opcodes.MatchAdd = omega arith
number_fits opcodes.MatchRemove = omega arith
number_fits opcodes.PolicySet = omega arith
number_fits opcodes.EndpointMake = omega arith
number_fits opcodes.MakeBus = omega arith
number_fits opcodes.Tick = omega arith
number_fits opcodes.Seal = omega arith
number_fits opcodes.Unseal = omega arith
number_fits opcodes.Enter = omega arith

-- the first word of a message's frame is the size of what follows the head
abbrev IsSizedFrame : Opcode → List ℕ → Type 0
IsSizedFrame opcodes.Send frame = number (drop 32 frame) ≡ length frame - 32
IsSizedFrame opcode frame = Unit {0}

unbroken : (opcode : Opcode) (frame : List ℕ) → items_at opcode ≤ length frame → IsSizedFrame opcode frame → has_broken_words opcode frame ≡ false
unbroken opcodes.Send frame long sized =
    let a : ltb (length frame) 96 ≡ false = le-ltb _ _ long in
    let b : eqb (number (drop 32 frame)) (length frame - 32) ≡ true = eq-eqb _ _ sized in
    rw (a, b) refl
unbroken opcodes.Hello frame long sized = le-ltb _ _ long
unbroken opcodes.Recv frame long sized = le-ltb _ _ long
unbroken opcodes.Read frame long sized = le-ltb _ _ long
unbroken opcodes.Free frame long sized = le-ltb _ _ long
unbroken opcodes.Byebye frame long sized = le-ltb _ _ long
unbroken opcodes.Close frame long sized = le-ltb _ _ long
unbroken opcodes.NameAcquire frame long sized = le-ltb _ _ long
unbroken opcodes.NameRelease frame long sized = le-ltb _ _ long
unbroken opcodes.NameList frame long sized = le-ltb _ _ long
unbroken opcodes.MatchAdd frame long sized = le-ltb _ _ long
unbroken opcodes.MatchRemove frame long sized = le-ltb _ _ long
unbroken opcodes.PolicySet frame long sized = le-ltb _ _ long
unbroken opcodes.EndpointMake frame long sized = le-ltb _ _ long
unbroken opcodes.MakeBus frame long sized = le-ltb _ _ long
unbroken opcodes.Tick frame long sized = le-ltb _ _ long
unbroken opcodes.Seal frame long sized = le-ltb _ _ long
unbroken opcodes.Unseal frame long sized = le-ltb _ _ long
unbroken opcodes.Enter frame long sized = le-ltb _ _ long

sized_frame : (command : Command) (frame : List ℕ) → length frame ≡ frame_length command → words_from (length (command_words command)) 0 (drop 32 frame) ≡ command_words command → IsSizedFrame (opcode_in command) frame
sized_frame (commands.Send flags priority dst source payload_type cookie last items) frame len own =
    let first : number (drop 32 frame) ≡ 64 + length (spelled items) = ap (λ l. nth l 0) own in
    omega (arith, first, len)
sized_frame (commands.Hello flags pool send receive items) frame len own = tt
sized_frame (commands.Recv flags limit) frame len own = tt
sized_frame (commands.Read sealed number) frame len own = tt
sized_frame (commands.Free number) frame len own = tt
sized_frame commands.Byebye frame len own = tt
sized_frame commands.Close frame len own = tt
sized_frame (commands.NameAcquire flags name) frame len own = tt
sized_frame (commands.NameRelease name) frame len own = tt
sized_frame (commands.NameList flags) frame len own = tt
sized_frame (commands.MatchAdd replace cookie items) frame len own = tt
sized_frame (commands.MatchRemove cookie) frame len own = tt
sized_frame (commands.PolicySet items) frame len own = tt
sized_frame (commands.EndpointMake items) frame len own = tt
sized_frame (commands.MakeBus size hashes bus) frame len own = tt
sized_frame (commands.Tick moment) frame len own = tt
sized_frame (commands.Seal payload) frame len own = tt
sized_frame (commands.Unseal number) frame len own = tt
sized_frame (commands.Enter creds) frame len own = tt

pub laid_frame : (bytes : List ℕ) (caller : ℕ) (command : Command) → IsTyped command → caller < 2 ^ 64 → IsWellFormed command → bytes ≡ frame_of caller command
    → Laid bytes (opcode_number (opcode_in command)) caller (flags_of command) (command_words command) (items_of command)
laid_frame bytes caller command typed fits formed e =
    let size : frame_length command ≤ 131072 = formed.size in
    laid bytes (opcode_number (opcode_in command)) caller (flags_of command) (command_words command) (items_of command) (omega (arith, size)) (number_fits (opcode_in command)) fits typed.flags typed.words e

-- the items of a frame are read again
pub frame_items : (bytes : List ℕ) (caller : ℕ) (command : Command) → IsTyped command → caller < 2 ^ 64 → IsWellFormed command → bytes ≡ frame_of caller command
    → items_in (kinds_of (opcode_in command) (flags_word bytes)) (items_at (opcode_in command)) (drop (items_at (opcode_in command)) bytes) ≡ Ok (items_of command)
frame_items bytes caller command typed fits formed e =
    let l = laid_frame bytes caller command typed fits formed e in
    let opcode = opcode_in command in
    let size : frame_length command ≤ 131072 = formed.size in
    let tail : drop (items_at opcode) bytes ≡ spelled (items_of command) = ap (λ n. drop (32 + 8 * n) bytes) (sym (count_is command)) ∙ l.items_are in
    ap (λ n. items_in (kinds_of opcode n) (items_at opcode) (drop (items_at opcode) bytes)) l.flags_is
    ∙ ap (items_in (kinds_of opcode (flags_of command)) (items_at opcode)) tail
    ∙ items_again (kinds_of opcode (flags_of command)) (items_at opcode) (items_of command) typed.items (omega (arith, size)) formed.items

-- the words of a frame are read again
pub frame_words : (bytes : List ℕ) (caller : ℕ) (command : Command) → IsTyped command → caller < 2 ^ 64 → IsWellFormed command → bytes ≡ frame_of caller command
    → own_words (opcode_in command) (drop 32 bytes) ≡ command_words command
frame_words bytes caller command typed fits formed e =
    let l = laid_frame bytes caller command typed fits formed e in
    ap (λ n. words_from n 0 (drop 32 bytes)) (sym (count_is command)) ∙ l.own_is

no_refusal : (port : Port) (opcode : Opcode) (frame : List ℕ) (items : List WireItem) → takes_caller port (caller_word frame) ≡ true → has_broken_words opcode frame ≡ false → items_in (kinds_of opcode (flags_word frame)) (items_at opcode) (drop (items_at opcode) frame) ≡ Ok items
    → flaw_of opcode (flags_word frame) (own_words opcode (drop 32 frame)) items ≡ None → refusal_in port opcode frame ≡ None
no_refusal port opcode frame items admitted whole read flawless = rw (admitted, whole, read) flawless

pub not_refused : (port : Port) (bytes : List ℕ) (caller : ℕ) (command : Command) → IsTyped command → caller < 2 ^ 64 → takes_caller port caller ≡ true → takes_opcode port (opcode_in command) ≡ true → IsWellFormed command → bytes ≡ frame_of caller command → refusal_of port bytes ≡ None
not_refused port bytes caller command typed fits admitted running formed e =
    let l = laid_frame bytes caller command typed fits formed e in
    let opcode = opcode_in command in
    let items = items_of command in
    let own = frame_words bytes caller command typed fits formed e in
    let named : opcode_of (command_word bytes) ≡ Some opcode = ap opcode_of l.command_is ∙ named_again opcode in
    let long : length bytes ≡ 32 + 8 * length (command_words command) + length (spelled items) = l.long_is in
    let whole : has_broken_words opcode bytes ≡ false = unbroken opcode bytes (omega (arith, long, count_is command)) (sized_frame command bytes long l.own_is) in
    let flawless : flaw_of opcode (flags_word bytes) (own_words opcode (drop 32 bytes)) items ≡ None = ap (λ n. flaw_of opcode n (own_words opcode (drop 32 bytes)) items) l.flags_is ∙ ap (λ ws. flaw_of opcode (flags_of command) ws items) own ∙ formed.values in
    opcode_taken port opcode bytes (sym named) running ∙ no_refusal port opcode bytes items (ap (takes_caller port) l.caller_is ∙ admitted) whole (frame_items bytes caller command typed fits formed e) flawless

-- ---- one value for a frame

text_in : List WireItem → List ℕ
text_in [] = []
text_in (item ∷ items) = bytes_in item

-- the command of these parts
command_with : Opcode → ℕ → List ℕ → List WireItem → Command
command_with opcodes.Hello flags ws items = commands.Hello (record { 0 = flags }) (nth ws 0) (nth ws 1) (nth ws 2) items
command_with opcodes.Send flags ws items = commands.Send (record { 0 = nth ws 1 }) (cast_signed w64 (nth ws 2)) (nth ws 3) (nth ws 4) (nth ws 5) (nth ws 6) (nth ws 7) items
command_with opcodes.Recv flags ws items = commands.Recv (record { 0 = flags }) (cast_signed w64 (nth ws 0))
command_with opcodes.Read flags ws items = commands.Read (eqb flags 1) (nth ws 0)
command_with opcodes.Free flags ws items = commands.Free (nth ws 0)
command_with opcodes.Byebye flags ws items = commands.Byebye
command_with opcodes.Close flags ws items = commands.Close
command_with opcodes.NameAcquire flags ws items = commands.NameAcquire (record { 0 = flags }) (text_in items)
command_with opcodes.NameRelease flags ws items = commands.NameRelease (text_in items)
command_with opcodes.NameList flags ws items = commands.NameList (record { 0 = flags })
command_with opcodes.MatchAdd flags ws items = commands.MatchAdd (eqb flags 1) (nth ws 0) items
command_with opcodes.MatchRemove flags ws items = commands.MatchRemove (nth ws 0)
command_with opcodes.PolicySet flags ws items = commands.PolicySet items
command_with opcodes.EndpointMake flags ws items = commands.EndpointMake items
command_with opcodes.MakeBus flags ws items = commands.MakeBus (nth ws 0) (nth ws 1) (text_in items)
command_with opcodes.Tick flags ws items = commands.Tick (nth ws 0)
command_with opcodes.Seal flags ws items = commands.Seal (text_in items)
command_with opcodes.Unseal flags ws items = commands.Unseal (nth ws 0)
command_with opcodes.Enter flags ws items = commands.Enter (record { uid = nth ws 0; gid = nth ws 1; privileged = eqb (nth ws 2) 1 })

bit_again : (b : Bool) → eqb (bit b) 1 ≡ b
bit_again true = refl
bit_again false = refl

with_again : (command : Command) → HasSigned command → command_with (opcode_in command) (flags_of command) (command_words command) (items_of command) ≡ command
unfolding command_with text_in
with_again (commands.Hello flags pool send receive items) signed = refl
with_again (commands.Send flags priority dst source payload_type cookie last items) signed = ap (λ z. commands.Send flags z dst source payload_type cookie last items) (to_z-of_z w64 priority signed)
with_again (commands.Recv flags limit) signed = ap (λ z. commands.Recv flags z) (to_z-of_z w64 limit signed)
with_again (commands.Read sealed number) signed = ap (λ b. commands.Read b number) (bit_again sealed)
with_again (commands.Free number) signed = refl
with_again commands.Byebye signed = refl
with_again commands.Close signed = refl
with_again (commands.NameAcquire flags name) signed = refl
with_again (commands.NameRelease name) signed = refl
with_again (commands.NameList flags) signed = refl
with_again (commands.MatchAdd replace cookie items) signed = ap (λ b. commands.MatchAdd b cookie items) (bit_again replace)
with_again (commands.MatchRemove cookie) signed = refl
with_again (commands.PolicySet items) signed = refl
with_again (commands.EndpointMake items) signed = refl
with_again (commands.MakeBus size hashes bus) signed = refl
with_again (commands.Tick moment) signed = refl
with_again (commands.Seal payload) signed = refl
with_again (commands.Unseal number) signed = refl
with_again (commands.Enter creds) signed = ap (λ b. commands.Enter (record { uid = creds.uid; gid = creds.gid; privileged = b })) (bit_again creds.privileged)

abbrev the_ok : List WireItem → Result (List WireItem) Refusal
the_ok items = Ok items

ok_is : (x y : List WireItem) → the_ok x ≡ the_ok y → x ≡ y
ok_is x y e = cc

opcode_ok : (x y : Opcode) → Some x ≡ Some y → x ≡ y
opcode_ok x y e = cc

-- bytes are the frame of one caller and one command
pub one_value : (bytes : List ℕ) (caller other : ℕ) (command second : Command) → IsTyped command → IsTyped second → caller < 2 ^ 64 → other < 2 ^ 64 → IsWellFormed command → IsWellFormed second → bytes ≡ frame_of caller command → bytes ≡ frame_of other second → (caller ≡ other) × (command ≡ second)
one_value bytes caller other command second typed typed2 fits fits2 formed formed2 e e2 =
    let l = laid_frame bytes caller command typed fits formed e in
    let l2 = laid_frame bytes other second typed2 fits2 formed2 e2 in
    let o = opcode_in command in
    let o2 = opcode_in second in
    let opcode : o ≡ o2 = opcode_ok o o2 (sym (named_again o) ∙ ap opcode_of (sym l.command_is ∙ l2.command_is) ∙ named_again o2) in
    let flags : flags_of command ≡ flags_of second = sym l.flags_is ∙ l2.flags_is in
    let own : command_words command ≡ command_words second = sym (frame_words bytes caller command typed fits formed e) ∙ ap (λ x. own_words x (drop 32 bytes)) opcode ∙ frame_words bytes other second typed2 fits2 formed2 e2 in
    let read = frame_items bytes caller command typed fits formed e in
    let read2 = frame_items bytes other second typed2 fits2 formed2 e2 in
    let items : items_of command ≡ items_of second = ok_is (items_of command) (items_of second) (sym read ∙ ap (λ x. items_in (kinds_of x (flags_word bytes)) (items_at x) (drop (items_at x) bytes)) opcode ∙ read2) in
    let same : command_with o (flags_of command) (command_words command) (items_of command) ≡ command_with o2 (flags_of second) (command_words second) (items_of second) = rw (opcode, flags, own, items) refl in
    (sym l.caller_is ∙ l2.caller_is, sym (with_again command typed.signed) ∙ same ∙ with_again second typed2.signed)

-- no frame is the beginning of another
pub not_beginning : (caller other : ℕ) (command second : Command) (rest : List ℕ) → IsTyped command → IsTyped second → caller < 2 ^ 64 → other < 2 ^ 64 → IsWellFormed command → IsWellFormed second → frame_of caller command ++ rest ≡ frame_of other second → rest ≡ []
not_beginning caller other command second rest typed typed2 fits fits2 formed formed2 e =
    let bytes = frame_of caller command in
    let l = laid_frame bytes caller command typed fits formed refl in
    let l2 = laid_frame (frame_of other second) other second typed2 fits2 formed2 refl in
    let size = frame_length command in
    let small : size ≤ 131072 = formed.size in
    let head = size ∷ opcode_number (opcode_in command) ∷ caller ∷ flags_of command ∷ [] in
    let more = words (command_words command) ++ spelled (items_of command) ++ rest in
    let parts : bytes ++ rest ≡ words head ++ more = simp append_assoc in
    let front : words_from 4 0 (bytes ++ rest) ≡ head = words_here head more (bytes ++ rest) (omega arith, (number_fits (opcode_in command), (fits, (typed.flags, tt)))) parts in
    let first : number (bytes ++ rest) ≡ size = ap (λ ws. nth ws 0) front in
    let same : number (bytes ++ rest) ≡ number (frame_of other second) = ap number e in
    nil_from_length rest (omega (arith, first, same, l.long_is, l2.size_is, l2.long_is, ap length e, length-append bytes rest))
