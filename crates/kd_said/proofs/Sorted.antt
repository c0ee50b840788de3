-- The payloads of a message, item by item.
use Rattle.std.proofs.Common.{◌≡◌, ℕ, List, [], ◌∷◌, ◌++◌, Option, refl, ap, ◌∙◌}
use Rattle.std.specs.Prelude.{ℤ, option_map}
use Rattle.std.proofs.lemmas.List.{append-nil}
use Rattle.kd_image.specs.declared.message.SealedRange.{SealedRange}
use Rattle.kd_wire.specs.declared.item.WireItem.{WireItem}
use Rattle.kd_wire.specs.declared.item.WireItem.TheVariants as item
use Rattle.kd_commands.specs.declared.sent.Sent.{Sent}
use Rattle.kd_commands.specs.Items.{Named, destination_name, payloads, sealed_among}
use Rattle.kd_commands.specs.Messages.{message_of}

-- payloads behind others
pub payloads_behind : (xs ys : List WireItem) → payloads (xs ++ ys) ≡ payloads xs ++ payloads ys
payloads_behind [] ys = refl
payloads_behind (item.Payload bytes ∷ xs) ys = ap (λ (l : List (List ℕ)). bytes ∷ l) (payloads_behind xs ys)
payloads_behind (x ∷ xs) ys = payloads_behind xs ys

-- an item that isn't a payload adds none
pub no_piece : (x : WireItem) → ((bytes : List ℕ) → x ≡ item.Payload bytes → ⊥) → payloads (x ∷ []) ≡ []
no_piece (item.Payload bytes) never = absurd (never bytes refl)
no_piece x never = refl

-- one item more that adds no payload
pub pieces_stay : (xs : List WireItem) (x : WireItem) (ps : List (List ℕ)) → payloads (x ∷ []) ≡ [] → payloads xs ≡ ps → payloads (xs ++ x ∷ []) ≡ ps
pieces_stay xs x ps never is = payloads_behind xs (x ∷ []) ∙ ap (λ (l : List (List ℕ)). payloads xs ++ l) never ∙ append-nil (payloads xs) ∙ is

-- one payload more
pub pieces_more : (xs : List WireItem) (x : WireItem) (ps : List (List ℕ)) (bytes : List ℕ) → payloads xs ≡ ps → x ≡ item.Payload bytes → payloads (xs ++ x ∷ []) ≡ ps ++ bytes ∷ []
pieces_more xs x ps bytes is said = payloads_behind xs (x ∷ []) ∙ rw (is, said) refl

-- the message of what was handed in
pub message_is : (m : Sent) (priority : ℤ) (name : Option (List ℕ)) (pieces : List (List ℕ)) (range : Option SealedRange) → priority ≡ m.priority → name ≡ destination_name m.items → pieces ≡ payloads m.items
    → range ≡ option_map (λ (n : Named). n.range) (sealed_among m.items)
    → record { flags = m.flags; priority = priority; payload_type = m.payload_type; cookie = m.cookie; last = m.last; dst_name = name; payloads = pieces; sealed = range } ≡ message_of m
message_is m priority name pieces range p n q r = rw (p, n, q, r) refl
