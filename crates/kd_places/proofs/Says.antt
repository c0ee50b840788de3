-- What numbers of commands and of refusals say.
use Rattle.std.proofs.Common.{◌≡◌, ℕ, zero, suc, ◌+◌, ◌<◌, ◌≤◌, ◌-◌, Bool, true, false, cond, eqb, List, [], ◌∷◌, Option, Some, None, refl, sym, ap, ◌∙◌, arith, get_or, map, length, replicate}
use Rattle.std.specs.Prelude.{◌≢◌}
use Rattle.std.specs.List.{range_with_len}
use Rattle.std.proofs.lemmas.Bool.{eqb-true}
use Rattle.std.proofs.lemmas.List.{get_or-map}
use Rattle.std.proofs.lemmas.List.FromFn.{get_or-range_with_len}
use Rattle.kd_model.proofs.Truth.{same_some}
use Rattle.kd_types.specs.declared.refusal.Refusal.{Refusal}
use Rattle.kd_types.specs.declared.refusal.Refusal.TheVariants.{Malformed, Unsupported, BadFlags, MissingItem, DoubledItem, BadName, NotPermitted, NoSuchName, NoSuchConnection, NameMoved, NameTaken, AlreadyOwned, NotOwner, TooMany, PoolFull, Quota, NotStarted, NoMessage, NoSuchPriority, NoSuchSlice, NotReceived, Busy, BloomSize, TooLong, BroadcastMisuse, NoSuchBus, BusExists, WrongPrefix, NoSuchEndpoint, EndpointExists, WrongState, MessagesQueued, NoSuchMatch, NoSuchSeal, BadCookie, SlicesSpent, TurnsSpent, OutOfMemory}
use Rattle.kd_types.specs.Refusal.{refusal_number, refusal_value}
use Rattle.kd_wire.specs.declared.opcode.Opcode.{Opcode}
use Rattle.kd_wire.specs.declared.opcode.Opcode.TheVariants as opcodes
use Rattle.kd_wire.specs.Opcodes.{opcode_number, opcode_of}
use Rattle.kd_wire.specs.ReplyReading.{bare_refusal, refusal_from}

-- ---- refusals by their numbers

all_refusals : List Refusal
all_refusals =
    Malformed 0 ∷ Unsupported 0 ∷ BadFlags ∷ MissingItem ∷ DoubledItem ∷ BadName ∷ NotPermitted ∷ NoSuchName ∷ NoSuchConnection ∷ NameMoved 0 ∷
    NameTaken ∷ AlreadyOwned ∷ NotOwner ∷ TooMany 0 ∷ PoolFull ∷ Quota ∷ NotStarted ∷ NoMessage 0 ∷ NoSuchPriority ∷ NoSuchSlice ∷ NotReceived ∷
    Busy 0 ∷ BloomSize ∷ TooLong ∷ BroadcastMisuse ∷ NoSuchBus 0 ∷ BusExists ∷ WrongPrefix ∷ NoSuchEndpoint ∷ EndpointExists ∷ WrongState ∷
    MessagesQueued ∷ NoSuchMatch ∷ NoSuchSeal ∷ BadCookie ∷ SlicesSpent ∷ TurnsSpent ∷ []

all_numbers : map refusal_number all_refusals ≡ range_with_len 1 37
unfolding all_refusals
all_numbers = refl

all_long : length all_refusals ≡ 37
unfolding all_refusals
all_long = refl

all_values : map refusal_value all_refusals ≡ replicate 37 0
unfolding all_refusals
all_values = refl

zeros_only : (m k : ℕ) → ◌≡◌ {A = ℕ} (get_or (replicate m 0) k 0) 0
zeros_only zero k = refl
zeros_only (suc m) zero = refl
zeros_only (suc m) (suc k) = zeros_only m k

pub some_number : (r : Refusal) → (refusal_number r ≡ 0 → ⊥) → r ≢ OutOfMemory
some_number r some e = some (ap refusal_number e)

-- there is one of each number from 1 to 37
pub numbered : (code : ℕ) → (code ≡ 0 → ⊥) → code ≤ 37 → (r : Refusal) × (refusal_number r ≡ code) × (r ≢ OutOfMemory) × (refusal_value r ≡ 0)
numbered code some few =
    let r : Refusal = get_or all_refusals (code - 1) BadFlags in
    let low : code - 1 < 37 = omega (arith, few, λ (e : code ≡ 0). some e) in
    let is : refusal_number r ≡ code =
    sym (get_or-map refusal_number all_refusals (code - 1) BadFlags 0 (let l = all_long in omega (arith, l, low)))
    ∙ ap (λ (l : List ℕ). get_or l (code - 1) 0) all_numbers
    ∙ get_or-range_with_len 1 37 (code - 1) 0 low
    ∙ above code some in
    let value : refusal_value r ≡ 0 =
    sym (get_or-map refusal_value all_refusals (code - 1) BadFlags 0 (let l = all_long in omega (arith, l, low)))
    ∙ ap (λ (l : List ℕ). get_or l (code - 1) 0) all_values
    ∙ zeros_only 37 (code - 1) in
    (r, is, some_number r (λ z. some (sym is ∙ z)), value)
  where
    above : (n : ℕ) → (n ≡ 0 → ⊥) → 1 + (n - 1) ≡ n
    above zero some = absurd (some refl)
    above (suc n) some = omega arith

-- ---- what was found by number and value has them

abbrev pub Says : ℕ → ℕ → Option Refusal → Type 0
Says code value o = (r : Refusal) → o ≡ Some r → (refusal_number r ≡ code) × (refusal_value r ≡ value)

either : (code value : ℕ) (made : Refusal) (more : Option Refusal) (b : Bool) → (b ≡ true → refusal_number made ≡ code) → refusal_value made ≡ value → Says code value more → Says code value (cond b (Some made) more)
either code value made more true is field others = λ r e. (ap refusal_number (sym (same_some made r e)) ∙ is refl, ap refusal_value (sym (same_some made r e)) ∙ field)
either code value made more false is field others = others

case : (code value k : ℕ) (made : Refusal) (more : Option Refusal) → refusal_number made ≡ k → refusal_value made ≡ value → Says code value more → Says code value (cond (eqb code k) (Some made) more)
case code value k made more is field others = either code value made more (eqb code k) (λ e. is ∙ sym (eqb-true code k e)) field others

none : (code value : ℕ) → Says code value None
none code value = λ r e. absurd cc

bare_says : (code : ℕ) → Says code 0 (bare_refusal code)
bare_says code =
    case code 0 3 BadFlags _ refl refl (
    case code 0 4 MissingItem _ refl refl (
    case code 0 5 DoubledItem _ refl refl (
    case code 0 6 BadName _ refl refl (
    case code 0 7 NotPermitted _ refl refl (
    case code 0 8 NoSuchName _ refl refl (
    case code 0 9 NoSuchConnection _ refl refl (
    case code 0 11 NameTaken _ refl refl (
    case code 0 12 AlreadyOwned _ refl refl (
    case code 0 13 NotOwner _ refl refl (
    case code 0 15 PoolFull _ refl refl (
    case code 0 16 Quota _ refl refl (
    case code 0 17 NotStarted _ refl refl (
    case code 0 19 NoSuchPriority _ refl refl (
    case code 0 20 NoSuchSlice _ refl refl (
    case code 0 21 NotReceived _ refl refl (
    case code 0 23 BloomSize _ refl refl (
    case code 0 24 TooLong _ refl refl (
    case code 0 25 BroadcastMisuse _ refl refl (
    case code 0 27 BusExists _ refl refl (
    case code 0 28 WrongPrefix _ refl refl (
    case code 0 29 NoSuchEndpoint _ refl refl (
    case code 0 30 EndpointExists _ refl refl (
    case code 0 31 WrongState _ refl refl (
    case code 0 32 MessagesQueued _ refl refl (
    case code 0 33 NoSuchMatch _ refl refl (
    case code 0 34 NoSuchSeal _ refl refl (
    case code 0 35 BadCookie _ refl refl (
    case code 0 36 SlicesSpent _ refl refl (
    case code 0 37 TurnsSpent _ refl refl (
    none code 0))))))))))))))))))))))))))))))

without_field : (code value : ℕ) (b : Bool) → (b ≡ true → value ≡ 0) → Says code value (cond b (bare_refusal code) None)
without_field code value true is_zero = λ r e. let s = bare_says code r e in (s.0, s.1 ∙ sym (is_zero refl))
without_field code value false is_zero = none code value

pub refusal_says : (code value : ℕ) → Says code value (refusal_from code value)
refusal_says code value =
    case code value 1 (Malformed value) _ refl refl (
    case code value 2 (Unsupported value) _ refl refl (
    case code value 10 (NameMoved value) _ refl refl (
    case code value 14 (TooMany value) _ refl refl (
    case code value 18 (NoMessage value) _ refl refl (
    case code value 22 (Busy value) _ refl refl (
    case code value 26 (NoSuchBus value) _ refl refl (
    without_field code value (eqb value 0) (λ e. eqb-true value 0 e))))))))

-- and a refusal is found by them
pub found_by : (r : Refusal) → r ≢ OutOfMemory → refusal_from (refusal_number r) (refusal_value r) ≡ Some r
found_by (Malformed x) named = refl
found_by (Unsupported x) named = refl
found_by BadFlags named = refl
found_by MissingItem named = refl
found_by DoubledItem named = refl
found_by BadName named = refl
found_by NotPermitted named = refl
found_by NoSuchName named = refl
found_by NoSuchConnection named = refl
found_by (NameMoved x) named = refl
found_by NameTaken named = refl
found_by AlreadyOwned named = refl
found_by NotOwner named = refl
found_by (TooMany x) named = refl
found_by PoolFull named = refl
found_by Quota named = refl
found_by NotStarted named = refl
found_by (NoMessage x) named = refl
found_by NoSuchPriority named = refl
found_by NoSuchSlice named = refl
found_by NotReceived named = refl
found_by (Busy x) named = refl
found_by BloomSize named = refl
found_by TooLong named = refl
found_by BroadcastMisuse named = refl
found_by (NoSuchBus x) named = refl
found_by BusExists named = refl
found_by WrongPrefix named = refl
found_by NoSuchEndpoint named = refl
found_by EndpointExists named = refl
found_by WrongState named = refl
found_by MessagesQueued named = refl
found_by NoSuchMatch named = refl
found_by NoSuchSeal named = refl
found_by BadCookie named = refl
found_by SlicesSpent named = refl
found_by TurnsSpent named = refl
found_by OutOfMemory named = absurd (named refl)

-- its number is one from 1 to 37
pub known_number : (r : Refusal) → r ≢ OutOfMemory → (refusal_number r ≡ 0 → ⊥) × (refusal_number r ≤ 37)
known_number (Malformed x) named = (λ e. omega (arith, e), omega arith)
known_number (Unsupported x) named = (λ e. omega (arith, e), omega arith)
known_number BadFlags named = (λ e. omega (arith, e), omega arith)
known_number MissingItem named = (λ e. omega (arith, e), omega arith)
known_number DoubledItem named = (λ e. omega (arith, e), omega arith)
known_number BadName named = (λ e. omega (arith, e), omega arith)
known_number NotPermitted named = (λ e. omega (arith, e), omega arith)
known_number NoSuchName named = (λ e. omega (arith, e), omega arith)
known_number NoSuchConnection named = (λ e. omega (arith, e), omega arith)
known_number (NameMoved x) named = (λ e. omega (arith, e), omega arith)
known_number NameTaken named = (λ e. omega (arith, e), omega arith)
known_number AlreadyOwned named = (λ e. omega (arith, e), omega arith)
known_number NotOwner named = (λ e. omega (arith, e), omega arith)
known_number (TooMany x) named = (λ e. omega (arith, e), omega arith)
known_number PoolFull named = (λ e. omega (arith, e), omega arith)
known_number Quota named = (λ e. omega (arith, e), omega arith)
known_number NotStarted named = (λ e. omega (arith, e), omega arith)
known_number (NoMessage x) named = (λ e. omega (arith, e), omega arith)
known_number NoSuchPriority named = (λ e. omega (arith, e), omega arith)
known_number NoSuchSlice named = (λ e. omega (arith, e), omega arith)
known_number NotReceived named = (λ e. omega (arith, e), omega arith)
known_number (Busy x) named = (λ e. omega (arith, e), omega arith)
known_number BloomSize named = (λ e. omega (arith, e), omega arith)
known_number TooLong named = (λ e. omega (arith, e), omega arith)
known_number BroadcastMisuse named = (λ e. omega (arith, e), omega arith)
known_number (NoSuchBus x) named = (λ e. omega (arith, e), omega arith)
known_number BusExists named = (λ e. omega (arith, e), omega arith)
known_number WrongPrefix named = (λ e. omega (arith, e), omega arith)
known_number NoSuchEndpoint named = (λ e. omega (arith, e), omega arith)
known_number EndpointExists named = (λ e. omega (arith, e), omega arith)
known_number WrongState named = (λ e. omega (arith, e), omega arith)
known_number MessagesQueued named = (λ e. omega (arith, e), omega arith)
known_number NoSuchMatch named = (λ e. omega (arith, e), omega arith)
known_number NoSuchSeal named = (λ e. omega (arith, e), omega arith)
known_number BadCookie named = (λ e. omega (arith, e), omega arith)
known_number SlicesSpent named = (λ e. omega (arith, e), omega arith)
known_number TurnsSpent named = (λ e. omega (arith, e), omega arith)
known_number OutOfMemory named = absurd (named refl)

-- ---- commands

abbrev IsNamed : ℕ → Option Opcode → Type 0
IsNamed n o = (opcode : Opcode) → o ≡ Some opcode → opcode_number opcode ≡ n

opcode_either : (n : ℕ) (made : Opcode) (more : Option Opcode) (b : Bool) → (b ≡ true → opcode_number made ≡ n) → IsNamed n more → IsNamed n (cond b (Some made) more)
opcode_either n made more true is others = λ opcode e. ap opcode_number (sym (same_some made opcode e)) ∙ is refl
opcode_either n made more false is others = others

opcode_case : (n k : ℕ) (made : Opcode) (more : Option Opcode) → opcode_number made ≡ k → IsNamed n more → IsNamed n (cond (eqb n k) (Some made) more)
opcode_case n k made more is others = opcode_either n made more (eqb n k) (λ e. is ∙ sym (eqb-true n k e)) others

opcode_none : (n : ℕ) → IsNamed n None
opcode_none n = λ opcode e. absurd cc

pub opcode_says : (n : ℕ) (opcode : Opcode) → opcode_of n ≡ Some opcode → opcode_number opcode ≡ n
opcode_says n =
    opcode_case n 1 opcodes.Hello _ refl (
    opcode_case n 2 opcodes.Send _ refl (
    opcode_case n 3 opcodes.Recv _ refl (
    opcode_case n 4 opcodes.Read _ refl (
    opcode_case n 5 opcodes.Free _ refl (
    opcode_case n 6 opcodes.Byebye _ refl (
    opcode_case n 7 opcodes.Close _ refl (
    opcode_case n 8 opcodes.NameAcquire _ refl (
    opcode_case n 9 opcodes.NameRelease _ refl (
    opcode_case n 10 opcodes.NameList _ refl (
    opcode_case n 11 opcodes.MatchAdd _ refl (
    opcode_case n 12 opcodes.MatchRemove _ refl (
    opcode_case n 13 opcodes.PolicySet _ refl (
    opcode_case n 14 opcodes.EndpointMake _ refl (
    opcode_case n 15 opcodes.MakeBus _ refl (
    opcode_case n 16 opcodes.Tick _ refl (
    opcode_case n 17 opcodes.Seal _ refl (
    opcode_case n 18 opcodes.Unseal _ refl (
    opcode_case n 19 opcodes.Enter _ refl (
    opcode_none n)))))))))))))))))))
