-- Values whose numbers are of their types. A value of the program always is; a law over all values
-- has to say so.
use Rattle.std.specs.Prelude.{ℕ, ◌^◌, ◌<◌, List, [], ◌∷◌, ◌≡◌, true, ⊤}
use Rattle.std.specs.List.{AllByRecursion}
use Rattle.std.specs.Str.{is_utf8}
use Rattle.std.specs.Int.{w64}
use Rattle.std.specs.Int.RustNames.{FitsSigned}
use Rattle.kd_wire.specs.declared.item.WireItem.{WireItem}
use Rattle.kd_wire.specs.declared.command.Command.{Command}
use Rattle.kd_wire.specs.declared.command.Command.TheVariants.{Send, Recv}
use Rattle.kd_wire.specs.declared.reply.ListedItem.{ListedItem}
use Rattle.kd_wire.specs.declared.reply.Reply.{Reply}
use Rattle.kd_wire.specs.declared.reply.Reply.TheVariants.{NameList}
use Rattle.kd_wire.specs.Replies as replies
use Rattle.kd_wire.specs.Items.{words_in}
use Rattle.kd_wire.specs.Commands.{flags_of, command_words, items_of}

-- numbers of 64 bits
abbrev pub AreWords : List ℕ → Type 0
AreWords ns = AllByRecursion (λ (n : ℕ). n < 2 ^ 64) ns

-- a priority is a signed number of 64 bits
abbrev pub HasSigned : Command → Type 0
HasSigned (Send flags priority dst source payload_type cookie last items) = FitsSigned w64 priority
HasSigned (Recv flags limit) = FitsSigned w64 limit
HasSigned command = ⊤

-- a command whose numbers are of their types
pub record IsTyped (command : Command) : Type 0 where
  pub flags : flags_of command < 2 ^ 64
  pub words : AreWords (command_words command)
  pub items : AllByRecursion (λ (item : WireItem). AreWords (words_in item)) (items_of command)
  pub signed : HasSigned command

-- a line whose numbers are of their types, and whose name is a text
pub record IsTypedLine (line : ListedItem) : Type 0 where
  pub words : AreWords (line.id ∷ line.standing ∷ [])
  pub text : is_utf8 line.name ≡ true

-- the lines of a listing
abbrev pub lines_of : Reply → List ListedItem
lines_of (NameList lines) = lines
lines_of reply = []

-- a reply whose numbers are of their types, and whose names are texts
pub record IsTypedReply (reply : Reply) : Type 0 where
  pub words : AreWords (replies.reply_words reply)
  pub lines : AllByRecursion IsTypedLine (lines_of reply)
