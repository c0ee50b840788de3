-- Whom the parts of a plan are for: connections that are live after it.
use Rattle.std.proofs.Common.{◌≡◌, ℕ, ◌+◌, ◌*◌, ◌<◌, ◌≤◌, Bool, true, false, cond, List, [], ◌∷◌, ◌++◌, length, map, Option, Some, None, Ok, Err, Result, refl, sym, ap, ◌∙◌, arith}
use Rattle.std.specs.Prelude.{◌==◌, ◌||◌, ◌&&◌, not, filter, max, flat_map, option_map, unwrap_or}
use Rattle.std.specs.List.{AllByRecursion}
use Rattle.std.proofs.lemmas.Bool.{eq-eqb, eqb-true, or_left, or_right}
use Rattle.kd_types.specs.declared.creds.Kind.{Kind}
use Rattle.kd_types.specs.declared.creds.Kind.TheVariants.{Ordinary, Activator, Holder, Monitor}
use Rattle.kd_types.specs.declared.flags.NameFlags.{NameFlags}
use Rattle.kd_types.specs.declared.refusal.Refusal.{Refusal}
use Rattle.kd_model.specs.Words.{first, first_that_holds, some_of, those}
use Rattle.kd_model.proofs.Lists.{all_follow, all_of_append, all_of_filter, all_of_found}
use Rattle.kd_acts.specs.State.{Content, Visit, close, drain, offer, post, raise, settle}
use Rattle.kd_image.specs.Images.{any}
use Rattle.kd_commands.specs.declared.conn.Conn.{Conn}
use Rattle.kd_commands.specs.declared.sent.Sent.{Sent}
use Rattle.kd_commands.specs.State.{Desk, conn_of, has_id, has_seat, is_ordinary, monitors}
use Rattle.kd_commands.specs.Audience.{Subject, Telling, audience, broadcast, is_told, telling}
use Rattle.kd_commands.specs.Items.{Filter, destination_name, filter_among}
use Rattle.kd_commands.specs.Messages.{is_broadcast}
use Rattle.kd_commands.specs.Plans.{Part, Plan, notices, posted, posted_to, posts}
use Rattle.kd_commands.specs.Send.{broadcast_parts, broadcast_receivers, live_ordinary, offered_to, receiver, send_parts, unicast_parts}
use Rattle.kd_commands.specs.Seating.{is_live}
use Rattle.kd_registry.specs.Claims.{owner_id}

-- the part stands at the seat of a connection
abbrev pub AtSeat : List Conn → Part → Type 0
AtSeat cs p = some_of (has_seat p.seat) cs ≡ true

abbrev pub AtSeats : List Conn → List Part → Type 0
AtSeats cs ps = AllByRecursion (AtSeat cs) ps

abbrev pub Sits : List Conn → Conn → Type 0
Sits cs c = some_of (has_seat c.seat) cs ≡ true

-- each connection sits on its own seat
pub each_sits : (cs : List Conn) → AllByRecursion (Sits cs) cs
each_sits [] = tt
each_sits (c ∷ cs) = (
  or_left (c.seat == c.seat) (some_of (has_seat c.seat) cs) (eq-eqb c.seat c.seat refl),
  all_follow (Sits cs) (Sits (c ∷ cs)) cs (λ x h. or_right (c.seat == x.seat) (some_of (has_seat x.seat) cs) h) (each_sits cs),
)

-- ---- notices

posted_at : (t : Telling) (cs all : List Conn) → AllByRecursion (Sits all) cs → AtSeats all (map (posted t) cs)
posted_at t [] all a = tt
posted_at t (c ∷ cs) all a = (a.0, posted_at t cs all a.1)

told_at : (o : Option Telling) (cs all : List Conn) → AllByRecursion (Sits all) cs → AtSeats all (posted_to cs o)
told_at None cs all a = tt
told_at (Some t) cs all a = posted_at t cs all a

audience_sits : (d : Desk) (s : Subject) → AllByRecursion (Sits d.conns) (audience d s)
unfolding audience
audience_sits d s = all_of_filter (Sits d.conns) (is_told d s) d.conns (each_sits d.conns)

pub notices_at : (after : Desk) (ss : List Subject) → AtSeats after.conns (notices after ss)
notices_at after [] = tt
notices_at after (s ∷ ss) =
    all_of_append (AtSeat after.conns) (posts after s) (notices after ss) (told_at (telling s) (audience after s) after.conns (audience_sits after s)) (notices_at after ss)

-- ---- messages

offered_at : (d : Desk) (s : Conn) (m : Sent) (dst : ℕ) (must : Bool) (rs : List Conn) → AllByRecursion (Sits d.conns) rs → AtSeats d.conns (map (offered_to d s m dst must) rs)
offered_at d s m dst must [] a = tt
offered_at d s m dst must (r ∷ rs) a = (a.0, offered_at d s m dst must rs a.1)

receiver_sits : (d : Desk) (m : Sent) (r : Conn) → receiver d m ≡ Some r → Sits d.conns r
receiver_sits d m r e = go (destination_name m.items) e
  where
    go : (o : Option (List ℕ)) → (elim o [ Some n ↦ conn_of d (owner_id d.registry n) | None ↦ live_ordinary d m.dst ]) ≡ Some r → Sits d.conns r
    go (Some n) found = all_of_found (Sits d.conns) (has_id (owner_id d.registry n)) d.conns r (each_sits d.conns) found
    go None found = all_of_found (Sits d.conns) (λ (c : Conn). has_id m.dst c && is_ordinary c.kind) d.conns r (each_sits d.conns) found

unicast_at : (d : Desk) (s : Conn) (m : Sent) (o : Option Conn) → receiver d m ≡ o → AtSeats d.conns (unicast_parts d s m o)
unicast_at d s m None is = tt
unicast_at d s m (Some r) is =
    (receiver_sits d m r is, offered_at d s m r.id false (monitors d) (all_of_filter (Sits d.conns) _ d.conns (each_sits d.conns)))

broadcast_sits : (d : Desk) (s : Conn) (o : Option Filter) → AllByRecursion (Sits d.conns) (broadcast_receivers d s o)
broadcast_sits d s None = tt
broadcast_sits d s (Some f) = audience_sits d (broadcast s f)

pub send_at : (d : Desk) (s : Conn) (m : Sent) → AtSeats d.conns (send_parts d s m)
unfolding send_parts
send_at d s m = go (is_broadcast m)
  where
    go : (b : Bool) → AtSeats d.conns (elim b [ true ↦ broadcast_parts d s m | false ↦ unicast_parts d s m (receiver d m) ])
    go true = offered_at d s m any false (broadcast_receivers d s (filter_among m.items)) (broadcast_sits d s (filter_among m.items))
    go false = unicast_at d s m (receiver d m) refl
