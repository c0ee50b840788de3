-- Commands run whole, one after the other, computed from the definitions.
use Rattle.std.specs.Prelude.{ℕ, Bool, true, false, List, [], ◌∷◌, None, codes, pos}
use Rattle.kd_wire.specs.declared.item.WireItem.{WireItem}
use Rattle.kd_wire.specs.declared.item.WireItem.TheVariants as item
use Rattle.kd_wire.specs.declared.command.Command.{Command}
use Rattle.kd_wire.specs.declared.command.Command.TheVariants as cmd
use Rattle.kd_acts.specs.declared.receive.RecvMode.{RecvMode}
use Rattle.kd_wire.specs.Refusals.{flaw_of}
use Rattle.kd_model.specs.Slices.{gaps, best_gap, place, lowest_unused}
use Rattle.kd_item.specs.Spelling.{word}
use Rattle.kd_policy.specs.Level.{level_of}
use Rattle.kd_policy.specs.Policy.{level_in, put_refusal, after_put, after_drop}
use Rattle.kd_endpoint.specs.Labels.{label_number, free_place, label_refusal, after_add, after_remove}
use Rattle.kd_bloom.specs.Bits.{bit_is_set, bit_numbers, passes}
use Rattle.kd_match.specs.Told.{condition_holds}
use Rattle.kd_match.specs.Rules.{with_rule}
use Rattle.kd_image.specs.Images.{header, front_length, front, image, image_length, notice_image}
use Rattle.kd_acts.specs.Steps.{reserved_length, free_refusal, over_quota, reserve_step, must_offer_step, offer_step, filled, fill_step, post_step, drain_step, next, receive_step, read_answer, visit_step, open_step, closed_answer, pool_step}
use Rattle.kd_commands.specs.State.{opening_desk, seat_set}
use Rattle.kd_commands.specs.Rights.{may_own, may_see, may_see_name, may_talk}
use Rattle.kd_commands.specs.Audience.{audience, is_shown}
use Rattle.kd_commands.specs.Hello.{free_seat, hello, hello_refusals, newcomer, with_newcomer}
use Rattle.kd_commands.specs.Leaving.{byebye, close_conn, close_endpoint, leaving_notices, without_conns, without_endpoint}
use Rattle.kd_commands.specs.Messages.{attached}
use Rattle.kd_commands.specs.Send.{is_reply, requests_after, send, send_parts, send_refusals}
use Rattle.kd_commands.specs.Names.{name_acquire, name_release, release_refusals, with_claim, without_claim}
use Rattle.kd_commands.specs.NameList.{listing_lines, name_list}
use Rattle.kd_commands.specs.Matches.{match_add, match_refusals, match_remove}
use Rattle.kd_commands.specs.Policy.{policy_set}
use Rattle.kd_commands.specs.Endpoints.{endpoint_make, endpoint_refusals, with_endpoint}
use Rattle.kd_commands.specs.Seals.{seal, unseal}
use Rattle.kd_commands.specs.Tick.{tick}
use Rattle.kd_commands.specs.Visits.{first_ends, next_part, parts_visited}
use Rattle.kd_commands.specs.Step.{plan}
use Rattle.kd_world.specs.State.{World, new_world}
use Rattle.kd_world.specs.Planner.{planned, parts_planned, desk_end}
use Rattle.kd_world.specs.Holding.{next_visit}
use Rattle.kd_world.specs.Legal.{Event, receives, reads, frees, legal}
use Rattle.kd_world.specs.Pools.{act_of, pool_answer, pools_after}
use Rattle.kd_world.specs.Callers.{callers_after}
use Rattle.kd_world.specs.Step.{desk_after, holder_after}
use Rattle.kd_world.specs.Runs.{all_legal}
use Rattle.kd_world.specs.Answers.{Says, says, run_says}
use Rattle.kd_world.specs.Whole.{Whole, alone, publishings, visits, whole}

pub data Line : Type 0 where
  does : (caller : ℕ) (command : Command) → Line
  gets : (caller : ℕ) (mode : RecvMode) → Line
  looks : (caller number : ℕ) (sealed : Bool) → Line
  lets_go : (caller number : ℕ) → Line

-- a command is run whole, and all else is one event
abbrev line : Line → World → Whole
line (does n x) w = whole w n x
line (gets n mode) w = alone w (receives n mode)
line (looks n number sealed) w = alone w (reads n number sealed)
line (lets_go n number) w = alone w (frees n number)

abbrev each : World → List Line → List Says
each w [] = []
each w (l ∷ ls) = let x : Whole = line l w in x.answer ∷ each x.next ls

-- what the lines are answered, from the opening of a replay
unfoldable pub script : List Line → List Says
unfolding reserved_length free_refusal gaps best_gap place lowest_unused word level_of level_in put_refusal after_put after_drop label_number free_place label_refusal after_add after_remove bit_is_set bit_numbers passes condition_holds with_rule header front_length front image image_length notice_image over_quota reserve_step must_offer_step offer_step filled fill_step post_step drain_step next receive_step read_answer visit_step open_step closed_answer pool_step opening_desk seat_set may_see_name may_see may_own may_talk is_shown audience attached is_reply send_refusals send_parts requests_after free_seat newcomer hello_refusals with_newcomer hello without_conns leaving_notices byebye close_conn without_endpoint close_endpoint with_claim name_acquire without_claim release_refusals name_release listing_lines name_list match_refusals match_add match_remove policy_set endpoint_refusals with_endpoint endpoint_make tick seal unseal send plan parts_visited next_part first_ends new_world planned parts_planned desk_end next_visit act_of pool_answer pools_after desk_after holder_after callers_after says visits publishings whole
script ls = each (new_world 1000 64 8) ls

-- the world behind some lines
abbrev pub world_behind : World → List Line → World
world_behind w [] = w
world_behind w (l ∷ ls) = world_behind (line l w).next ls

-- what some events answer behind some lines
unfoldable pub events_say : List Line → List Event → List Says
unfolding reserved_length free_refusal gaps best_gap place lowest_unused word level_of level_in put_refusal after_put after_drop label_number free_place label_refusal after_add after_remove bit_is_set bit_numbers passes condition_holds with_rule header front_length front image image_length notice_image over_quota reserve_step must_offer_step offer_step filled fill_step post_step drain_step next receive_step read_answer visit_step open_step closed_answer pool_step opening_desk seat_set may_see_name may_see may_own may_talk is_shown audience attached is_reply send_refusals send_parts requests_after free_seat newcomer hello_refusals with_newcomer hello without_conns leaving_notices byebye close_conn without_endpoint close_endpoint with_claim name_acquire without_claim release_refusals name_release listing_lines name_list match_refusals match_add match_remove policy_set endpoint_refusals with_endpoint endpoint_make tick seal unseal send plan parts_visited next_part first_ends new_world planned parts_planned desk_end next_visit act_of pool_answer pools_after desk_after holder_after callers_after says visits publishings whole run_says
events_say ls es = run_says (world_behind (new_world 1000 64 8) ls) es

-- whether the events are legal behind the lines
unfoldable pub events_legal : List Line → List Event → Bool
unfolding reserved_length free_refusal gaps best_gap place lowest_unused word level_of level_in put_refusal after_put after_drop label_number free_place label_refusal after_add after_remove bit_is_set bit_numbers passes condition_holds with_rule header front_length front image image_length notice_image over_quota reserve_step must_offer_step offer_step filled fill_step post_step drain_step next receive_step read_answer visit_step open_step closed_answer pool_step opening_desk seat_set may_see_name may_see may_own may_talk is_shown audience attached is_reply send_refusals send_parts requests_after free_seat newcomer hello_refusals with_newcomer hello without_conns leaving_notices byebye close_conn without_endpoint close_endpoint with_claim name_acquire without_claim release_refusals name_release listing_lines name_list match_refusals match_add match_remove policy_set endpoint_refusals with_endpoint endpoint_make tick seal unseal send plan parts_visited next_part first_ends new_world planned parts_planned desk_end next_visit act_of pool_answer pools_after desk_after holder_after callers_after says visits publishings whole flaw_of legal all_legal
events_legal ls es = all_legal (world_behind (new_world 1000 64 8) ls) es

-- ---- what the scripts are made of

abbrev pub plain : RecvMode
plain = record { peek = false; drop_it = false; limit = None }

abbrev pub peeking : RecvMode
peeking = record { peek = true; drop_it = false; limit = None }

abbrev pub dropping : RecvMode
dropping = record { peek = false; drop_it = true; limit = None }

abbrev pub hi : List WireItem
hi = item.Payload (codes "hi") ∷ []

abbrev pub hello_as : ℕ → ℕ → List WireItem → Command
hello_as flags size is = cmd.Hello (record { 0 = flags }) size 0 0 is

-- an ordinary connection with a pool of this size
abbrev pub hello_of : ℕ → Command
hello_of size = hello_as 0 size []

-- a message with these items, without a reply
abbrev pub message_to : ℕ → List WireItem → Command
message_to dst is = cmd.Send (record { 0 = 0 }) (pos 0) dst 0 0 0 0 is

-- a message with a cookie and a last word
abbrev pub call_to : ℕ → ℕ → ℕ → ℕ → List WireItem → Command
call_to flags dst cookie last is = cmd.Send (record { 0 = flags }) (pos 0) dst 0 0 cookie last is

abbrev pub send_to : ℕ → Command
send_to id = message_to id hi

abbrev pub send_name : List ℕ → Command
send_name n = message_to 0 (item.Payload (codes "hi") ∷ item.DstName n ∷ [])

abbrev pub acquire : ℕ → List ℕ → Command
acquire flags n = cmd.NameAcquire (record { 0 = flags }) n

abbrev pub enter : ℕ → Bool → Command
enter uid privileged = cmd.Enter (record { uid = uid; gid = uid; privileged = privileged })
