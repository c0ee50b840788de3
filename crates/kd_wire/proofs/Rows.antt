-- Worked frames, as they are written down by hand: the definitions compute them.
use Rattle.std.specs.Prelude.{◌≡◌, pos, [], ◌∷◌, Some, None, refl}
use Rattle.kd_item.specs.Spelling.{word, words, number}
use Rattle.kd_item.specs.Reading.{item_at, split_within, split}
use Rattle.kd_types.specs.declared.refusal.Refusal.TheVariants.{Malformed, Unsupported, DoubledItem, NoMessage}
use Rattle.kd_wire.specs.declared.port.Port.TheVariants.{Replay, Session}
use Rattle.kd_wire.specs.declared.item.WireItem.TheVariants.{Payload}
use Rattle.kd_wire.specs.declared.command.Command.TheVariants.{Hello, Send}
use Rattle.kd_wire.specs.declared.reply.Reply.TheVariants.{Recv, Refused}
use Rattle.kd_wire.specs.Frames.{frame_of}
use Rattle.kd_wire.specs.Replies.{reply_frame}
use Rattle.kd_wire.specs.Reading.{item_in, items_behind, items_in}
use Rattle.kd_wire.specs.Refusals.{flaw_of, refusal_of}

-- a connection with a pool of 4,096 bytes
hello : frame_of 1 (Hello (record { 0 = 0 }) 4096 0 0 []) ≡ words (56 ∷ 1 ∷ 1 ∷ 0 ∷ 4096 ∷ 0 ∷ 0 ∷ [])
unfolding word
hello = refl

-- a message of the bytes `hi` to the connection 1
send : frame_of 1 (Send (record { 0 = 0 }) (pos 0) 1 0 0 0 0 (Payload (104 ∷ 105 ∷ []) ∷ [])) ≡ words (120 ∷ 2 ∷ 1 ∷ 0 ∷ 88 ∷ 0 ∷ 0 ∷ 1 ∷ 0 ∷ 0 ∷ 0 ∷ 0 ∷ 18 ∷ 1 ∷ 26984 ∷ [])
unfolding word
send = refl

-- a received slice, and that there is none
received : reply_frame 3 1 (Recv 0 0 104 0) ≡ words (64 ∷ 3 ∷ 1 ∷ 0 ∷ 0 ∷ 0 ∷ 104 ∷ 0 ∷ [])
unfolding word
received = refl

nothing : reply_frame 3 1 (Refused (NoMessage 5)) ≡ words (40 ∷ 3 ∷ 1 ∷ 18 ∷ 5 ∷ [])
unfolding word
nothing = refl

-- the message is taken; with an item of size 15, or with padding other than zero, it is broken at
-- the item
taken : refusal_of Replay (words (120 ∷ 2 ∷ 1 ∷ 0 ∷ 88 ∷ 0 ∷ 0 ∷ 1 ∷ 0 ∷ 0 ∷ 0 ∷ 0 ∷ 18 ∷ 1 ∷ 26984 ∷ [])) ≡ None
unfolding word number item_at split_within split item_in items_behind items_in flaw_of refusal_of
taken = refl

short_item : refusal_of Replay (words (120 ∷ 2 ∷ 1 ∷ 0 ∷ 88 ∷ 0 ∷ 0 ∷ 1 ∷ 0 ∷ 0 ∷ 0 ∷ 0 ∷ 15 ∷ 1 ∷ 26984 ∷ [])) ≡ Some (Malformed 96)
unfolding word number item_at split_within split item_in items_behind items_in flaw_of refusal_of
short_item = refl

loose_padding : refusal_of Replay (words (120 ∷ 2 ∷ 1 ∷ 0 ∷ 88 ∷ 0 ∷ 0 ∷ 1 ∷ 0 ∷ 0 ∷ 0 ∷ 0 ∷ 18 ∷ 1 ∷ 92520 ∷ [])) ≡ Some (Malformed 96)
unfolding word number item_at split_within split item_in items_behind items_in flaw_of refusal_of
loose_padding = refl

-- an unknown command; one that is not of this place; two payloads of a seal
unknown : refusal_of Replay (words (32 ∷ 99 ∷ 0 ∷ 0 ∷ [])) ≡ Some (Unsupported 99)
unfolding word number item_at split_within split item_in items_behind items_in flaw_of refusal_of
unknown = refl

enter_in_session : refusal_of Session (words (56 ∷ 19 ∷ 0 ∷ 0 ∷ 1 ∷ 1 ∷ 0 ∷ [])) ≡ Some (Unsupported 19)
unfolding word number item_at split_within split item_in items_behind items_in flaw_of refusal_of
enter_in_session = refl

doubled : refusal_of Replay (words (64 ∷ 17 ∷ 1 ∷ 0 ∷ 16 ∷ 1 ∷ 16 ∷ 1 ∷ [])) ≡ Some DoubledItem
unfolding word number item_at split_within split item_in items_behind items_in flaw_of refusal_of
doubled = refl
