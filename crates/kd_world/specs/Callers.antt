-- The callers after an event: who each is, its hand, and what it has yet to publish.
use Rattle.std.specs.Prelude.{ℕ, ◌-◌, Bool, true, false, List, [], ◌∷◌, ◌++◌, set, Option, Some, None, option_map, unwrap_or}
use Rattle.kd_types.specs.declared.creds.Creds.{Creds}
use Rattle.kd_types.specs.declared.creds.Kind.{Kind}
use Rattle.kd_wire.specs.declared.command.Command.{Command}
use Rattle.kd_wire.specs.declared.command.Command.TheVariants as cmd
use Rattle.kd_acts.specs.State.{Visit, Answer, offer, slice}
use Rattle.kd_commands.specs.declared.conn.Conn.{Conn}
use Rattle.kd_commands.specs.declared.who.WhoKind.{WhoKind}
use Rattle.kd_commands.specs.declared.who.WhoKind.TheVariants as who
use Rattle.kd_commands.specs.State.{Desk, conn_of}
use Rattle.kd_commands.specs.Plans.{Part}
use Rattle.kd_commands.specs.Step.{Ended}
use Rattle.kd_world.specs.declared.told.Told.{Told}
use Rattle.kd_world.specs.Hands.{empty_hand, hand_freed, hand_received}
use Rattle.kd_world.specs.State.{Caller, Holder, Pending, World, caller_at, pool_at}
use Rattle.kd_world.specs.Holding.{command_end, parts_held}
use Rattle.kd_world.specs.Own.{hand_entry, is_pending_at}
use Rattle.kd_world.specs.Legal.{Event, leave, publishes, receives, frees}
use Rattle.kd_world.specs.Pools.{pool_answer}

-- ---- who leaves the desk

-- a placed offer becomes a pending
abbrev pub pending_made : World → ℕ → Visit → Answer → List Pending
pending_made w s (offer user len source must content) (slice n) =
    record { seat = s; generation = (pool_at w s).generation; number = n; content = content } ∷ []
pending_made w s _ _ = []

abbrev pub pendings_made : World → List Part → List Answer → List Pending
pendings_made w [] outs = []
pendings_made w (p ∷ ps) [] = []
pendings_made w (p ∷ ps) (o ∷ outs) = pending_made w p.seat p.act o ++ pendings_made w ps outs

abbrev pub kind_after : Desk → WhoKind → Kind → Kind
kind_after d (who.Conn id s) old = unwrap_or (option_map (λ (c : Conn). c.kind) (conn_of d id)) old
kind_after d _ old = old

abbrev pub hand_after : WhoKind → List (Option Told) → List (Option Told)
hand_after (who.Conn id s) hand = hand
hand_after _ hand = empty_hand

-- a caller says who it is by an ENTER alone
abbrev pub creds_after : Creds → Command → Creds
creds_after old (cmd.Enter new) = new
creds_after old _ = old

abbrev pub left_caller : World → Holder → Caller → Caller
left_caller w h c =
    let e : Ended = command_end w h in
    record {
      who = record { creds = creds_after h.who.creds h.command; member = e.becomes };
      kind = kind_after e.next e.becomes c.kind;
      hand = hand_after e.becomes c.hand;
      pendings = c.pendings ++ pendings_made w (parts_held w h) h.outs;
    }

-- ---- who publishes, receives and frees

abbrev pub without_first : {X : Type 0} → (X → Bool) → List X → List X
without_first test [] = []
without_first test (x ∷ xs) = elim (test x) [ true ↦ xs | false ↦ x ∷ without_first test xs ]

abbrev pub has_published : ℕ → ℕ → Caller → Caller
has_published seat number c = record c {
  pendings = without_first (is_pending_at seat number) c.pendings;
}

abbrev pub with_caller : World → ℕ → Caller → List Caller
with_caller w n c = set w.callers (n - 1) c

unfoldable pub callers_after : World → Event → List Caller
callers_after w (leave n) =
    elim w.holder [ None ↦ w.callers | Some h ↦ with_caller w n (left_caller w h (caller_at w n)) ]
callers_after w (publishes n seat number) =
    with_caller w n (has_published seat number (caller_at w n))
callers_after w (receives n mode) =
    with_caller w n (record (caller_at w n) {
      hand = hand_received mode (pool_answer w (receives n mode)) (caller_at w n).hand;
    })
callers_after w (frees n number) =
    with_caller w n (record (caller_at w n) {
      hand = hand_freed number (hand_entry (caller_at w n) number) (caller_at w n).hand;
    })
callers_after w _ = w.callers
