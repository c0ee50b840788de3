-- A message as it is handed in, and its image for each receiver.
use Rattle.std.specs.Prelude.{ℕ, Bool, true, false, ◌&&◌, List, [], Option, Some, None, ◌==◌, option_map, option_and_then}
use Rattle.kd_types.specs.Flags.{has_bits}
use Rattle.kd_model.specs.Words.{those}
use Rattle.kd_registry.specs.Changes.{names_of}
use Rattle.kd_seal.specs.Book.{shared}
use Rattle.kd_image.specs.declared.message.Message.{Message}
use Rattle.kd_image.specs.declared.attached.Attached.{Attached}
use Rattle.kd_image.specs.Images.{any, image, image_length}
use Rattle.kd_image.specs.Said.{nothing_attached}
use Rattle.kd_acts.specs.State.{Content}
use Rattle.kd_commands.specs.declared.conn.Conn.{Conn}
use Rattle.kd_commands.specs.declared.sent.Sent.{Sent}
use Rattle.kd_commands.specs.State.{Desk}
use Rattle.kd_commands.specs.Items.{destination_name, payloads, Named, sealed_among}
use Rattle.kd_commands.specs.Rights.{may_see_name}

-- the sender waits for a reply
abbrev pub expects : Sent → Bool
expects m = has_bits m.flags.0 1

-- it is for all that may and want to have it
abbrev pub is_broadcast : Sent → Bool
is_broadcast m = m.dst == any

-- what its image says
abbrev pub message_of : Sent → Message
message_of m = record {
  flags = m.flags;
  priority = m.priority;
  payload_type = m.payload_type;
  cookie = m.cookie;
  last = m.last;
  dst_name = destination_name m.items;
  payloads = payloads m.items;
  sealed = option_map (λ (n : Named). n.range) (sealed_among m.items);
}

-- both ends asked for this kind of metadata
abbrev pub is_attached : Conn → Conn → ℕ → Bool
is_attached s r kind = has_bits s.send_mask kind && has_bits r.receive_mask kind

-- what there is, where it is asked for
abbrev pub when : {X : Type 0} → Bool → Option X → Option X
when b x = elim b [ true ↦ x | false ↦ None ]

-- what a receiver is told of a sender; of its names those that it may see
unfoldable pub attached : Desk → Conn → Conn → Attached
attached d s r = record {
  creds = when (is_attached s r 1) (Some s.creds);
  names =
      elim (is_attached s r 2) [
        | true ↦ those (may_see_name d r) (names_of d.registry s.id)
        | false ↦ []
      ];
  description = when (is_attached s r 4) s.description;
  moment = when (is_attached s r 8) (Some d.moment);
}

-- the image in the slice of one receiver
abbrev pub image_for : Desk → Conn → Sent → ℕ → Conn → List ℕ
image_for d s m dst r = image (message_of m) s.id dst (attached d s r)

-- the length of the image without metadata
abbrev pub plain_length : Sent → ℕ
plain_length m = image_length (message_of m) nothing_attached

-- the bytes of the range of the seal that is named
abbrev pub share_in : Desk → Conn → Sent → Option (List ℕ)
share_in d s m =
    option_and_then (λ (n : Named). shared d.seals s.id n.number n.range.start n.range.length)
    (sealed_among m.items)

-- what is written into the slice of one receiver
abbrev pub content_for : Desk → Conn → Sent → ℕ → Conn → Content
content_for d s m dst r = record {
  image = image_for d s m dst r;
  shared = share_in d s m;
  priority = m.priority;
}
