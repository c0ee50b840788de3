-- Messages, as the code plans them.
use Rattle.std.specs.Prelude.{◌≡◌, ◌≢◌, ◌<◌, ℕ, Bool, not, ◌&&◌, List, [], ◌∷◌, length, nat_le, nat_lt, is_some, is_none, option_and_then, Option, Some, None, Result, Ok, Err, false, true}
use Rattle.kd_types.specs.declared.refusal.Refusal.{Refusal}
use Rattle.kd_types.specs.declared.refusal.Refusal.TheVariants.{BadCookie, BroadcastMisuse, BloomSize, TooLong, NoSuchSeal, NotPermitted, TooMany, OutOfMemory}
use Rattle.kd_types.specs.Flags.{has_bits}
use Rattle.kd_model.specs.Words.{first_that_holds, those}
use Rattle.kd_registry.specs.Changes.{names_of}
use Rattle.kd_seal.specs.Book.{shared}
use Rattle.kd_replies.specs.Requests.{expect_answer, is_asked_by}
use Rattle.kd_image.specs.declared.message.Message.{Message}
use Rattle.kd_image.specs.Images.{image}
use Rattle.kd_acts.specs.State.{offer}
use Rattle.kd_commands.specs.declared.conn.Conn.{Conn}
use Rattle.kd_tables.specs.declared.change.Change.{Change}
use Rattle.kd_tables.specs.declared.change.Change.TheVariants as change
use Rattle.kd_commands.specs.declared.sent.Sent.{Sent}
use Rattle.kd_commands.specs.Items.{Named, destination_name, sealed_among}
use Rattle.kd_commands.specs.State.{Desk, is_activator}
use Rattle.kd_commands.specs.Rights.{may_see_name, may_talk}
use Rattle.kd_commands.specs.Plans.{Part}
use Rattle.kd_commands.specs.Send.{asker_of, fits_filters, has_bad_cookie, is_misuse, refusals_by, refusals_of_unicast, some_passes}
use Rattle.kd_commands.specs.Messages.{attached, expects, is_attached, is_broadcast, plain_length}

-- the names of a sender that lets the bus attach them
abbrev pub TellsNames : Desk → Conn → List (List ℕ) → Type 0
TellsNames d s ns = has_bits s.send_mask 2 ≡ true → ns ≡ names_of d.registry s.id

-- the names of a sender that are attached for a receiver
abbrev pub names_attached : Desk → Conn → Conn → List (List ℕ)
names_attached d s r =
    elim (is_attached s r 2) [
      | true ↦ those (may_see_name d r) (names_of d.registry s.id)
      | false ↦ []
    ]

-- the bytes of the range that is named
abbrev pub share_of : Desk → Conn → Option Named → Option (List ℕ)
share_of d s named =
    option_and_then
    (λ (n : Named). shared d.seals s.id n.number n.range.start n.range.length) named

-- what is offered to one receiver of a message, with the bytes that it takes along
unfoldable pub letter_offer : Desk → Conn → Message → Option (List ℕ) → ℕ → Bool → Conn → Part
letter_offer d s g share dst must r =
    let bytes : List ℕ = image g s.id dst (attached d s r) in
    record {
      seat = r.seat;
      act =
          offer s.creds.uid (length bytes) s.id must
          (record { image = bytes; shared = share; priority = g.priority });
    }

-- an offer, where the receiver is told
abbrev pub when_told : Bool → Part → List Part
when_told told p = elim told [ true ↦ p ∷ [] | false ↦ [] ]

-- what the code says of tests in their order: none of them holds, or the refusal of the first that
-- does; but memory may be wanting
abbrev pub Judges : {X : Type 0} → List (Bool × Refusal) → Result X Refusal → Type 0
Judges tests (Ok x) = first_that_holds tests ≡ None
Judges tests (Err e) = e ≢ OutOfMemory → first_that_holds tests ≡ Some e

-- the refusals of a message as it is, its bytes and whom it is for aside
abbrev pub refusals_of_form : Desk → Conn → Sent → List (Bool × Refusal)
refusals_of_form d s m =
    (has_bad_cookie d s m, BadCookie)
    ∷ (is_misuse m, BroadcastMisuse)
    ∷ (is_broadcast m && not (fits_filters d m), BloomSize)
    ∷ []

-- that of the bytes that it takes along
abbrev pub refusals_of_share : Desk → Conn → Option Named → List (Bool × Refusal)
refusals_of_share d s named = (is_some named && is_none (share_of d s named), NoSuchSeal) ∷ []

-- those of all its bytes
abbrev pub refusals_of_bytes : Desk → Conn → Sent → List (Bool × Refusal)
refusals_of_bytes d s m =
    (nat_lt 65536 (plain_length m), TooLong) ∷ refusals_of_share d s (sealed_among m.items)

-- and those of whom it is for
abbrev pub refusals_of_way : Desk → Conn → Sent → List (Bool × Refusal)
refusals_of_way d s m = elim (is_broadcast m) [ true ↦ [] | false ↦ refusals_of_unicast d s m ]

-- and those of whom it reaches, and of the request that it leaves behind
abbrev pub refusals_of_talk : Desk → Conn → Conn → Bool → List (Bool × Refusal)
refusals_of_talk d s r expected =
    (not (may_talk d s r) && not expected, NotPermitted) ∷ []

abbrev pub refusals_of_request : Desk → Conn → Sent → List (Bool × Refusal)
refusals_of_request d s m =
    (expects m && nat_le 128 (length (those (is_asked_by s.id) d.requests)), TooMany 128) ∷ []

-- where a reply is expected, one request more of the sender may wait
abbrev pub MayAsk : Desk → Conn → Sent → Type 0
MayAsk d s m =
    expects m ≡ true
    → (expect_answer s.id m.cookie d.requests ≡ Ok tt) × (length d.requests < 8192)

-- the request that a message leaves behind for whom it reaches
abbrev pub request_of : Conn → Sent → Option Conn → Change
request_of s m None = change.Nothing
request_of s m (Some r) =
    change.Expects (record { asker = s.id; replier = r.id; cookie = m.cookie; deadline = m.last })

-- what a message changes: it leaves a request behind, or as a reply it answers one
abbrev pub change_of : Desk → Conn → Sent → Option Conn → Bool → Change
change_of d s m found is_reply =
    elim (expects m) [
      | true ↦ request_of s m found
      | false ↦ elim is_reply [
        | true ↦ change.Answers (asker_of d m) m.last
        | false ↦ change.Nothing
      ]
    ]

-- whom a message reaches is an activator
abbrev pub reaches_activator : Option Conn → Bool
reaches_activator found = some_passes (λ (c : Conn). is_activator c.kind) found

-- the refusals of the name, if it says one, and else of the id
abbrev pub refusals_of_target : Desk → Conn → Sent → List (Bool × Refusal)
refusals_of_target d s m = refusals_by d s m (destination_name m.items)
