-- What a command tells when its pass has left the desk.
use Rattle.std.specs.Prelude.{◌≡◌, ◌≢◌, ◌≤◌, ◌+◌, ℕ, suc, true, false, List, [], ◌∷◌, ◌++◌, drop, length, Option, Some, None, unwrap_or}
use Rattle.std.specs.List.{AllByRecursion}
use mathlib.Core.List.{IsPrefix}
use Rattle.kd_types.specs.declared.refusal.Refusal.{Refusal}
use Rattle.kd_types.specs.declared.refusal.Refusal.TheVariants.{OutOfMemory}
use Rattle.kd_wire.specs.declared.command.Command.{Command}
use Rattle.kd_wire.specs.declared.reply.Reply.{Reply}
use Rattle.kd_wire.specs.declared.reply.Reply.TheVariants as reply
use Rattle.kd_acts.specs.State.{Answer, Content}
use Rattle.kd_commands.specs.Plans.{Part}
use Rattle.kd_commands.specs.declared.who.Who.{Who}
use Rattle.kd_commands.specs.declared.who.WhoKind.{WhoKind}
use Rattle.kd_tables.specs.declared.part.Out.{Out}
use Rattle.kd_tables.specs.declared.part.Part as code
use Rattle.kd_tables.specs.Drafts.{Draft, content_at, empty_content}
use Rattle.kd_holds.specs.Placed.{offer_placed}
use Rattle.kd_world.specs.State.{Pending}
use Rattle.kd_hands.specs.declared.views.View.{View}
use Rattle.kd_hands.specs.Views.{part, hand}
use Rattle.kd_histories.specs.Turns.{Did, Left, Turn, left}
use Rattle.kd_histories.specs.Slots.{IsLeft, Slot, planned, seeks_bus}
use Rattle.kd_commands.specs.Step.{parts_in}
use Rattle.kd_histories.specs.Lent.{empties}
use Rattle.kd_hands.specs.Lists.{is_at}
use Rattle.kd_commands.specs.Visits.{first_ends, parts_visited}
use Rattle.kd_world.specs.Hands.{empty_hand}
use Rattle.kd_bus.specs.declared.leaving.Outcome.{Outcome}
use Rattle.kd_bus.specs.Turned.{IsOwed}
use Rattle.kd_bus.specs.Visited.{AreVisits, MadeVisits, answers_in, pendings_by}

-- what a caller is when its plan is done; after a refusal that ended all, what it was
abbrev pub becomes : Draft → WhoKind → Option Refusal → WhoKind
becomes p was why = elim why [ Some y ↦ was | None ↦ p.after ]

-- an offer that was placed is pending, at the generation that its pool had then
abbrev pub pending_at : ℕ → Option Content → Option (ℕ × ℕ) → List Pending
pending_at g c None = []
pending_at g c (Some x) =
    record { seat = x.0; generation = g; number = x.1; content = unwrap_or c empty_content } ∷ []

-- part by part
abbrev pub all_pending : List (Option Content) → List code.Part → List Out → List ℕ → List Pending
all_pending cs [] outs gs = []
all_pending cs (p ∷ ps) [] gs = []
all_pending cs (p ∷ ps) (o ∷ outs) [] = []
all_pending cs (p ∷ ps) (o ∷ outs) (g ∷ gs) =
    pending_at g (content_at 0 cs) (offer_placed p o) ++ all_pending (drop 1 cs) ps outs gs

-- what the entry of a command says
abbrev pub left_as :
    ℕ → Option ℕ → Who → Command → List Answer → Reply → WhoKind → Left
left_as g aim w x outs reply now = record {
  generation = g;
  aim = aim;
  who = w;
  command = x;
  outs = outs;
  reply = reply;
  becomes = now;
}

-- the parts that a command asks for at a slot
abbrev pub parts_asked : Slot → Option ℕ → Who → Command → List Part
parts_asked s aim w x = parts_in (planned s.generation aim s.desk w x)

-- those that were visited, each with what was drained before it, by the entries of their visits
abbrev pub parts_met : Slot → Option ℕ → Who → Command → List Did → List Part
parts_met s aim w x ds = parts_visited [] (parts_asked s aim w x) (answers_in ds)

-- the pass took the desk
pub record TakesDesk (v v' : View Turn) : Type 0 where
  pub begins : IsPrefix (part v 0).seen (part v' 0).seen
  pub own : (part v' 0).own ≡ (part v 0).own
  pub others : (k : ℕ) → k ≢ 0 → part v' k ≡ part v k
  pub hands : (k : ℕ) → hand v' k ≡ hand v k
  pub name : v'.name ≡ v.name
  pub turns : v'.turns ≡ v.turns + 1
  pub steps : v'.steps ≡ v.steps

-- the pass left the desk with this entry; who leaves a seat empties the hand of its pool
pub record LeavesDesk (e : Turn) (v v' : View Turn) : Type 0 where
  pub seen : (part v' 0).seen ≡ (part v 0).seen ++ (v.name, e) ∷ []
  pub own : (part v' 0).own ≡ (part v 0).own ++ (v.name, e) ∷ []
  pub others : (k : ℕ) → k ≢ 0 → part v' k ≡ part v k
  pub hands :
      (c : ℕ)
      → hand v' (suc c)
      ≡ elim (is_at (suc c) (empties e)) [ true ↦ [] | false ↦ hand v (suc c) ]
  pub name : v'.name ≡ v.name
  pub turns : v'.turns ≡ v.turns
  pub steps : v'.steps ≡ v.steps

-- the pass, which held the desk of the slot s, visited all that its command asks for, and left the
-- desk with one entry: what its command came to there
pub record Leaves (s : Slot) (aim : Option ℕ) (w : Who) (x : Command) (reply : Reply)
    (now : WhoKind) (pendings : List Pending) (v v' : View Turn) : Type 0 where
  -- one entry for each visit, and the view behind them
  pub entries : List Did
  pub then : View Turn
  pub is : IsLeft s (left_as s.generation aim w x (answers_in entries) reply now)
  pub each : AreVisits (parts_met s aim w x entries) entries v then
  pub made : MadeVisits (parts_met s aim w x entries) entries v then
  -- nothing is visited behind a refusal that ends all
  pub first : first_ends (parts_asked s aim w x) (answers_in entries) ≢ None → length entries ≤ 1
  pub left :
      LeavesDesk (left (left_as s.generation aim w x (answers_in entries) reply now)) then v'
  pub placed : pendings ≡ pendings_by (parts_met s aim w x entries) entries
  pub owed : AllByRecursion (IsOwed v') pendings

-- a refusal, which is no want of memory, is its reply, and nothing else came of it
abbrev pub IsOutcome : Who → Outcome → Type 0
IsOutcome w r =
    elim r.why [
      | None ↦ r.hand ≡ Some empty_hand
      | Some why ↦
          (why ≢ OutOfMemory) × (r.reply ≡ reply.Refused why) × (r.becomes ≡ w.member)
          × (r.pendings.items ≡ [])
    ]

-- only who seeks a bus is aimed at one
abbrev pub aim_of : Command → Option ℕ → Option ℕ
aim_of x aim = elim (seeks_bus x) [ true ↦ aim | false ↦ None ]

-- and it is so for one command
abbrev pub aim_left : Command → Option ℕ → Option ℕ
aim_left x aim = elim (seeks_bus x) [ true ↦ None | false ↦ aim ]
