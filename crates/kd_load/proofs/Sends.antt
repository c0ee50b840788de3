-- A message of the load at its desk: it isn't refused, and leaves the desk as it was.
use Rattle.std.proofs.Common.{◌≡◌, ◌==◌, ◌≤◌, ℕ, zero, suc, ◌+◌, Bool, true, false, List, [], ◌∷◌, map, length, refl, ap, arith}
use Rattle.std.specs.Prelude.{◌&&◌, pos, Ok, Some, None}
use Rattle.std.specs.List.{range_with_len}
use Rattle.byteorder.specs.Endian.{little_bytes}
use Rattle.kd_wire.specs.declared.command.Command.TheVariants as cmd
use Rattle.kd_wire.specs.declared.item.WireItem.{WireItem}
use Rattle.kd_wire.specs.declared.item.WireItem.TheVariants as item
use Rattle.kd_wire.specs.declared.reply.Reply.TheVariants as reply
use Rattle.kd_item.specs.Spelling.{word}
use Rattle.kd_image.specs.Images.{any, front_length, image_length}
use Rattle.kd_commands.specs.declared.conn.Conn.{Conn}
use Rattle.kd_commands.specs.declared.sent.Sent.{Sent}
use Rattle.kd_commands.specs.State.{Desk, conn_of, has_id, is_monitor, is_ordinary}
use Rattle.kd_commands.specs.Rights.{may_see, may_talk}
use Rattle.kd_model.specs.Words.{first_that_holds, those}
use Rattle.kd_commands.specs.Plans.{itself, unless}
use Rattle.kd_commands.specs.Messages.{plain_length}
use Rattle.kd_commands.specs.Send.{broadcast_parts, is_misuse, is_reply, live_ordinary, offered_to, requests_after, send, send_parts, send_refusals}
use Rattle.kd_commands.specs.Step.{plan}
use Rattle.kd_load.specs.Bus.{conn_at, loaded_desk, sender_at}
use Rattle.kd_load.proofs.Ranges.{first_in_range, other_number, same_number}

-- what a sender hands in
abbrev pub sent_all : WireItem → List ℕ → Sent
sent_all payload bits = record { flags = record { 0 = 0 }; priority = pos 0; dst = any; payload_type = 0; cookie = 0; last = 0; items = payload ∷ item.Filter 0 bits ∷ [] }

abbrev pub sent_one : WireItem → ℕ → Sent
sent_one payload id = record { flags = record { 0 = 0 }; priority = pos 0; dst = id; payload_type = 0; cookie = 0; last = 0; items = payload ∷ [] }

short_all : (k : ℕ) (bits : List ℕ) → plain_length (sent_all (item.Payload (little_bytes 8 k)) bits) ≡ 104
unfolding image_length front_length word
short_all k bits = refl

short_one : (k id : ℕ) → plain_length (sent_one (item.Payload (little_bytes 8 k)) id) ≡ 104
unfolding image_length front_length word
short_one k id = refl

module _ (filters : List (List ℕ)) (n : ℕ) where
  abbrev pub D : Desk
  D = loaded_desk filters n

  pub found : (i : ℕ) → 1 ≤ i → i ≤ n → conn_of D i ≡ Some (conn_at i)
  unfolding loaded_desk
  found i some low = first_in_range conn_at (has_id i) i (same_number i) (λ j ne _. other_number j i ne) 1 n (omega arith) some (omega arith)

  send_all : (i k : ℕ) (bits : List ℕ) → length bits ≡ 64 → plain_length (sent_all (item.Payload (little_bytes 8 k)) bits) ≡ 104
      → send D (conn_at i) (sent_all (item.Payload (little_bytes 8 k)) bits)
      ≡ Ok (record { parts = broadcast_parts D (conn_at i) (sent_all (item.Payload (little_bytes 8 k)) bits); reply = reply.Send; next = D; becomes = itself (conn_at i) })
  unfolding send send_refusals send_parts requests_after is_reply loaded_desk
  send_all i k bits long short = rw (long, short) refl

  -- one to all is offered to its audience
  pub all_planned : (i k : ℕ) (bits : List ℕ) → 1 ≤ i → i ≤ n → length bits ≡ 64
      → plan D (sender_at i) (cmd.Send (record { 0 = 0 }) (pos 0) any 0 0 0 0 (item.Payload (little_bytes 8 k) ∷ item.Filter 0 bits ∷ []))
      ≡ Ok (record { parts = broadcast_parts D (conn_at i) (sent_all (item.Payload (little_bytes 8 k)) bits); reply = reply.Send; next = D; becomes = itself (conn_at i) })
  unfolding plan
  all_planned i k bits some low long = rw (found i some low, plan) (send_all i k bits long (short_all k bits))

  -- the destination of one to an id
  reached : (id : ℕ) → 1 ≤ id → id ≤ n → live_ordinary D id ≡ Some (conn_at id)
  unfolding loaded_desk
  reached id some low = first_in_range conn_at (λ c. has_id id c && is_ordinary c.kind) id (ap (λ (b : Bool). b && true) (same_number id)) (λ j ne _. ap (λ (b : Bool). b && true) (other_number j id ne)) 1 n (omega arith) some (omega arith)

  -- whoever has the default endpoint sees all, and those of one user may talk to each other
  pub may_always : (i j : ℕ) → may_talk D (conn_at i) (conn_at j) ≡ true
  unfolding may_talk loaded_desk
  may_always i j = refl

  no_monitors : (a m : ℕ) → those (λ (c : Conn). is_monitor c.kind) (map conn_at (range_with_len a m)) ≡ []
  no_monitors a zero = refl
  no_monitors a (suc m) = no_monitors (a + 1) m

  module _ (i k id : ℕ) (there : live_ordinary D id ≡ Some (conn_at id)) (other : (id == any) ≡ false) (talks : may_talk D (conn_at i) (conn_at id) ≡ true) (sees : may_see D (conn_at i) id ≡ true) where
    abbrev message : Sent
    message = sent_one (item.Payload (little_bytes 8 k)) id

    one_refused : plain_length message ≡ 104 → first_that_holds (send_refusals D (conn_at i) message) ≡ None
    unfolding send_refusals
    one_refused short = rw (other, is_misuse, there, talks, sees, short) refl

    one_part : those (λ (c : Conn). is_monitor c.kind) (map conn_at (range_with_len 1 n)) ≡ [] → send_parts D (conn_at i) message ≡ offered_to D (conn_at i) message id true (conn_at id) ∷ []
    unfolding send_parts loaded_desk
    one_part none = rw (other, send_parts, there, none) refl

    same_requests : requests_after D (conn_at i) message ≡ []
    unfolding requests_after is_reply loaded_desk
    same_requests = rw (other, requests_after, is_reply) refl

    send_one : plain_length message ≡ 104 → those (λ (c : Conn). is_monitor c.kind) (map conn_at (range_with_len 1 n)) ≡ []
        → send D (conn_at i) message
        ≡ Ok (record { parts = offered_to D (conn_at i) message id true (conn_at id) ∷ []; reply = reply.Send; next = D; becomes = itself (conn_at i) })
    unfolding send loaded_desk
    send_one short none = rw (unless, one_refused short, one_part none, same_requests) refl

  sees_all : (i id : ℕ) → may_see D (conn_at i) id ≡ true
  unfolding may_see
  sees_all i id = refl

  -- one to an id is offered there
  pub one_planned : (i k id : ℕ) → 1 ≤ i → i ≤ n → 1 ≤ id → id ≤ n → n ≤ 16
      → plan D (sender_at i) (cmd.Send (record { 0 = 0 }) (pos 0) id 0 0 0 0 (item.Payload (little_bytes 8 k) ∷ []))
      ≡ Ok (record { parts = offered_to D (conn_at i) (sent_one (item.Payload (little_bytes 8 k)) id) id true (conn_at id) ∷ []; reply = reply.Send; next = D; becomes = itself (conn_at i) })
  unfolding plan
  one_planned i k id some low first last few = rw (found i some low, plan)
      (send_one i k id (reached id first last) (other_number id any (λ z. omega arith)) (may_always i id) (sees_all i id) (short_one k id) (no_monitors 1 n))
