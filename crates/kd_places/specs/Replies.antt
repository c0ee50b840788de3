-- Where bytes break the format of replies: behind the longest beginning of them that can still
-- become a whole reply.
use Rattle.std.specs.Prelude.{◌≡◌, ◌⊎◌, ◌≤◌, ◌<◌, ◌^◌, ℕ, ◌+◌, List, [], ◌∷◌, ◌++◌, get_or, length, map, take, Err, replicate}
use Rattle.std.specs.List.{flat_map}
use Rattle.kd_item.specs.Spelling.{padding, spelling, word}
use Rattle.kd_types.specs.declared.reply_error.ReplyError.TheVariants.{Bad}
use Rattle.kd_wire.specs.declared.reply.ListedItem.{ListedItem}
use Rattle.kd_wire.specs.declared.reply.Reply.{Reply}
use Rattle.kd_wire.specs.declared.reply.Reply.TheVariants.{NameList, Read}
use Rattle.kd_wire.specs.Replies.{IsReplyTo, code_of, listed_entry, reply_frame, reply_length, reply_words}
use Rattle.kd_wire.specs.ReplyReading.{reply_in}
use Rattle.kd_wire.specs.Typed.{IsTypedReply}

-- ---- a reply by its units

-- of a READ the run of bytes with its zeros, of a NAME_LIST line by line
abbrev pub tail_units : Reply → List (List ℕ)
tail_units (Read bytes) = (bytes ++ replicate (padding (length bytes)) 0) ∷ []
tail_units (NameList listed) = map (λ (line : ListedItem). spelling (listed_entry line)) listed
tail_units reply = []

-- behind the size word: each word is a unit, and so is each of these
abbrev pub reply_units : ℕ → ℕ → Reply → List (List ℕ)
reply_units command caller reply =
    map word (command ∷ caller ∷ code_of reply ∷ reply_words reply) ++ tail_units reply

abbrev pub joined : List (List ℕ) → List ℕ
joined units = flat_map (λ (unit : List ℕ). unit) units

-- the size word and the units are the whole reply
abbrev pub UnitsMakeReplies : Type 0
UnitsMakeReplies =
    (command caller : ℕ) (reply : Reply)
    → reply_frame command caller reply
    ≡ word (reply_length reply) ++ joined (reply_units command caller reply)

-- ---- beginnings

-- its numbers are of their types, and it is a reply to this command
pub record CanBeSaid (command caller : ℕ) (reply : Reply) : Type 0 where
  pub command_fits : command < 2 ^ 64
  pub caller_fits : caller < 2 ^ 64
  pub typed : IsTypedReply reply
  pub answers : IsReplyTo command reply

-- the first n units of a reply
abbrev pub front : ℕ → ℕ → ℕ → Reply → List ℕ
front n command caller reply = joined (take n (reply_units command caller reply))

-- the bytes say their length, and up to this place they have n whole units that some reply begins
-- with; how long that reply would be isn't asked
pub record BeginReply (bytes : List ℕ) (n place : ℕ) : Type 0 where
  pub command : ℕ
  pub caller : ℕ
  pub reply : Reply
  pub said : CanBeSaid command caller reply
  pub rest : List ℕ
  pub spelled : bytes ≡ word (length bytes) ++ (front n command caller reply ++ rest)
  pub ends : place ≡ 8 + length (front n command caller reply)

-- what stands before the place can still become a whole reply, and no further unit that does stands
-- behind it
pub record BreakReplyAt (bytes : List ℕ) (at : ℕ) : Type 0 where
  pub before : (n : ℕ) × BeginReply bytes n at
  pub here : (n place : ℕ) → BeginReply bytes n place → place ≤ at

-- the size word isn't their length
abbrev pub MisstateLength : List ℕ → Type 0
MisstateLength bytes = (rest : List ℕ) → bytes ≡ word (length bytes) ++ rest → ⊥

-- the first place that breaks the format
abbrev pub IsReplyPlace : List ℕ → ℕ → Type 0
IsReplyPlace bytes at = ((at ≡ 0) × MisstateLength bytes) ⊎ BreakReplyAt bytes at

-- ---- the laws

-- each is a byte
abbrev pub AreBytes : List ℕ → Type 0
AreBytes bytes = (i : ℕ) → get_or bytes i 0 < 256

-- the place that a reader of replies answers is that one
abbrev pub ReplyPlacesAreTrue : Type 0
ReplyPlacesAreTrue =
    (bytes : List ℕ) (at : ℕ) → AreBytes bytes → length bytes < 2 ^ 64
    → reply_in bytes ≡ Err (Bad at) → IsReplyPlace bytes at

-- and there is no other
abbrev pub ReplyPlacesAreOne : Type 0
ReplyPlacesAreOne =
    (bytes : List ℕ) (at other : ℕ) → IsReplyPlace bytes at → IsReplyPlace bytes other → at ≡ other
