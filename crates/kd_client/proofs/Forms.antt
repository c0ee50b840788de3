-- The commands of a client have frames.
use Rattle.std.proofs.Common.{◌≡◌, ◌≢◌, ℕ, ◌≤◌, ◌==◌, ◌||◌, if◌then◌else◌, false, Option, None, List, [], ◌∷◌, length, length-append, refl, ap, arith}
use Rattle.std.proofs.lemmas.Bool.{ne_eqb}
use Rattle.kd_item.specs.Spelling.{spelling}
use Rattle.kd_item.proofs.Sizes.{length-spelling}
use Rattle.kd_image.specs.Images.{any}
use Rattle.kd_model.specs.Words.{first_that_holds}
use Rattle.kd_types.specs.declared.refusal.Refusal.{Refusal}
use Rattle.kd_types.specs.declared.refusal.Refusal.TheVariants.{BadFlags, DoubledItem, MissingItem}
use Rattle.kd_wire.specs.declared.item.WireItem.TheVariants.{Payload}
use Rattle.kd_wire.specs.Frames.{frame_length}
use Rattle.kd_wire.specs.Items.{wire_entry}
use Rattle.kd_wire.specs.Refusals.{IsWellFormed, command_flaw, flaw_of, lacks_one}
use Rattle.kd_client.specs.declared.request.Request.{Request}
use Rattle.kd_client.specs.Requests.{request_command}
use Rattle.kd_client.specs.Receptions.{receive, read, free}

pub receive_forms : IsWellFormed receive
unfolding flaw_of
receive_forms = record { size = omega arith; items = refl; values = refl }

pub read_forms : (number : ℕ) → IsWellFormed (read number)
unfolding flaw_of
read_forms number = record { size = omega arith; items = refl; values = refl }

pub free_forms : (number : ℕ) → IsWellFormed (free number)
unfolding flaw_of
free_forms number = record { size = omega arith; items = refl; values = refl }

-- a payload of at most 130,960 bytes leaves room for the header and the head of its item
request_size : (request : Request) (payload : List ℕ) (deadline : ℕ) → length payload ≤ 130960 → frame_length (request_command request payload deadline) ≤ 131072
request_size request payload deadline few =
    let entry = wire_entry (Payload payload) in
    omega (arith, length-append (spelling entry) [], length-spelling entry, few)

-- a message to one connection by its id needs no item
needed : ℕ → List ℕ
needed dst = if dst == 0 then 3 ∷ [] else if dst == any then 4 ∷ [] else []

needed_none : (dst : ℕ) → (dst == 0) ≡ false → (dst == any) ≡ false → needed dst ≡ []
unfolding needed
needed_none dst some one = rw (some, one) refl

-- what is wrong with a message of one payload that needs items of these kinds
flaw_by : List ℕ → List ℕ → Option Refusal
flaw_by needed payload =
    first_that_holds ((false, DoubledItem) ∷ (lacks_one needed (Payload payload ∷ []) || false, MissingItem) ∷ (false, BadFlags) ∷ [])

request_values : (request : Request) (payload : List ℕ) (deadline : ℕ) → (request.dst == 0) ≡ false → (request.dst == any) ≡ false → command_flaw (request_command request payload deadline) ≡ None
unfolding flaw_of flaw_by needed
request_values request payload deadline some one = ap (λ (needed : List ℕ). flaw_by needed payload) (needed_none request.dst some one)

pub request_forms : (request : Request) (payload : List ℕ) (deadline : ℕ) → request.dst ≢ 0 → request.dst ≢ any → length payload ≤ 130960 → IsWellFormed (request_command request payload deadline)
request_forms request payload deadline some one few =
    record {
      size = request_size request payload deadline few;
      items = refl;
      values = request_values request payload deadline (ne_eqb request.dst 0 some) (ne_eqb request.dst any one);
    }
