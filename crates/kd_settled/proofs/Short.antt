-- How long plans are: so many visits before the notices, and so many notices, each to 64 at most.
use Rattle.std.proofs.Common.{◌≡◌, ℕ, ◌+◌, ◌*◌, ◌≤◌, suc, Bool, true, false, cond, List, [], ◌∷◌, ◌++◌, length, map, Option, Some, None, refl, sym, ap, ◌∙◌, arith}
use Rattle.std.specs.Prelude.{◌==◌, ◌&&◌, not, max, filter}
use Rattle.std.proofs.lemmas.List.{append-nil, length-append, length-map}
use Rattle.std.proofs.Math.Nat.{suc-mul}
use Rattle.kd_types.specs.declared.creds.Kind.{Kind}
use Rattle.kd_model.specs.Words.{but_those, contains, in_order, those}
use Rattle.kd_wire.specs.declared.command.Command.{Command}
use Rattle.kd_registry.specs.declared.claim.Claim.{Claim}
use Rattle.kd_registry.specs.Claims.{owner_id}
use Rattle.kd_registry.specs.Changes.{change, changes_without, is_owners}
use Rattle.kd_replies.specs.declared.request.Request.{Request}
use Rattle.kd_replies.specs.Requests.{due, is_due, is_dead_without}
use Rattle.kd_replies.specs.Order.{is_due_before}
use Rattle.kd_image.specs.Images.{any}
use Rattle.kd_commands.specs.declared.conn.Conn.{Conn}
use Rattle.kd_commands.specs.declared.sent.Sent.{Sent}
use Rattle.kd_commands.specs.declared.who.Who.{Who}
use Rattle.kd_commands.specs.declared.who.WhoKind.{WhoKind}
use Rattle.kd_commands.specs.State.{Desk, came_before, is_activator, is_monitor, monitors}
use Rattle.kd_commands.specs.Audience.{Subject, Telling, audience, broadcast, id_add, id_remove, is_told, new_owner, owner_change, reply_dead, reply_timeout, telling}
use Rattle.kd_commands.specs.Hello.{Asked, arrival, first_owner, newcomer, registry_with}
use Rattle.kd_commands.specs.Items.{Filter, activator_name, filter_among}
use Rattle.kd_commands.specs.Leaving.{byebye, close_conn, close_endpoint, closing, ids_of, leaving_notices, on_endpoint, without_conns, without_endpoint}
use Rattle.kd_commands.specs.Messages.{is_broadcast}
use Rattle.kd_commands.specs.NameList.{name_list}
use Rattle.kd_commands.specs.Names.{activator_in, handover, with_claim, without_claim}
use Rattle.kd_commands.specs.Plans.{Part, Plan, notices, posted, posted_to, posts}
use Rattle.kd_commands.specs.Send.{broadcast_parts, broadcast_receivers, offered_to, receiver, send_parts, unicast_parts}
use Rattle.kd_commands.specs.Tick.{tick}
use Rattle.kd_acts.specs.State.{raise}
use Rattle.kd_settled.specs.Parts.{PlansAreShort}
use Rattle.kd_settled.specs.Room.{HasRoom}
use Rattle.kd_settled.specs.Settled.{IsSettled}
use Rattle.kd_settled.proofs.Always.{settled_stays}
use Rattle.kd_settled.proofs.Cases.{Cases, asked_by, of_command, sent_by}
use Rattle.kd_settled.proofs.Counts.{count_both}
use Rattle.kd_settled.proofs.Endpoints.{length_in_order}
use Rattle.kd_settled.proofs.Rooms.{tables_have_room}

few_passing : {X : Type 0} (p : X → Bool) (xs : List X) → length (filter p xs) ≤ length xs
few_passing p xs = omega (arith, count_both p xs)

-- ---- notices

few_posted : (cs : List Conn) (o : Option Telling) → length (posted_to cs o) ≤ length cs
few_posted cs None = omega arith
few_posted cs (Some t) = omega (arith, length-map cs (posted t))

few_posts : (after : Desk) (s : Subject) → length (posts after s) ≤ length after.conns
unfolding audience
few_posts after s = omega (arith, few_posted (audience after s) (telling s), few_passing (is_told after s) after.conns)

few_notices : (after : Desk) (ss : List Subject) → length after.conns ≤ 64 → length (notices after ss) ≤ length ss * 64
few_notices after [] few = omega arith
few_notices after (s ∷ ss) few =
    omega (arith, few, few_posts after s, length-append (posts after s) (notices after ss), few_notices after ss few, suc-mul (length ss) 64)

few_changes : (before after : List Claim) (n : List ℕ) → length (owner_change before after n) ≤ 1
few_changes before after n = go (owner_id before n == owner_id after n)
  where
    go : (b : Bool) → length {A = Subject} (elim b [ true ↦ [] | false ↦ new_owner (record { name = n; old = owner_id before n; new = owner_id after n }) ∷ [] ]) ≤ 1
    go true = omega arith
    go false = omega arith

few_leaving : (d : Desk) (gone : List Conn) → length (leaving_notices d gone) ≤ length d.registry + length d.requests + length gone
unfolding leaving_notices
few_leaving d gone =
    let leaves : List Conn = in_order came_before (but_those (λ (c : Conn). is_monitor c.kind) gone) in
    let dead : List Request = those (is_dead_without (ids_of gone)) d.requests in
    let told : List Subject = map (λ (c : Conn). id_remove c.id) leaves in
    let asked : List Subject = map (λ (q : Request). reply_dead q.asker q.cookie) dead in
    let named : List Subject = map new_owner (changes_without d.registry (ids_of gone)) in
    let whole : length (leaving_notices d gone) ≡ length (named ++ asked ++ told) = refl in
    omega (
      arith,
      whole,
      length-append (named ++ asked) told,
      length-append named asked,
      length-map (changes_without d.registry (ids_of gone)) new_owner,
      length-map (those (λ (c : Claim). contains c.id (ids_of gone) && is_owners d.registry c) d.registry) (change (ids_of gone) d.registry),
      few_passing (λ (c : Claim). contains c.id (ids_of gone) && is_owners d.registry c) d.registry,
      length-map dead (λ (q : Request). reply_dead q.asker q.cookie),
      few_passing (is_dead_without (ids_of gone)) d.requests,
      length-map leaves (λ (c : Conn). id_remove c.id),
      length_in_order came_before (but_those (λ (c : Conn). is_monitor c.kind) gone),
      few_passing (λ (c : Conn). not (is_monitor c.kind)) gone,
    )

-- ---- messages

few_sent : (d : Desk) (s : Conn) (m : Sent) → length (send_parts d s m) ≤ length d.conns + 1
unfolding send_parts audience
few_sent d s m = go (is_broadcast m)
  where
    one : (o : Option Conn) → length (unicast_parts d s m o) ≤ length d.conns + 1
    one None = omega arith
    one (Some r) = omega (arith, length-map (monitors d) (offered_to d s m r.id false), few_passing (λ (c : Conn). is_monitor c.kind) d.conns)

    all : (o : Option Filter) → length (broadcast_receivers d s o) ≤ length d.conns
    all None = omega arith
    all (Some f) = few_passing (is_told d (broadcast s f)) d.conns

    go : (b : Bool) → length {A = Part} (elim b [ true ↦ broadcast_parts d s m | false ↦ unicast_parts d s m (receiver d m) ]) ≤ length d.conns + 1
    go true = omega (arith, length-map (broadcast_receivers d s (filter_among m.items)) (offered_to d s m any false), all (filter_among m.items))
    go false = one (receiver d m)

-- ---- plans

-- visits, and then notices
record Shape (p : Plan) : Type 0 where
  pub first : List Part
  pub told : List Subject
  pub parts : p.parts ≡ first ++ notices p.next told
  pub few : length first ≤ 66
  pub news : length told ≤ 12352

shapes : (d : Desk) (m : WhoKind) → IsSettled d → Cases d m (λ x p. Shape p)
unfolding byebye close_conn close_endpoint name_list tick
shapes d m s = record {
  enters = λ new. record { first = []; told = []; parts = refl; few = omega arith; news = omega arith };
  closes = record { first = []; told = []; parts = refl; few = omega arith; news = omega arith };
  comes = λ creds flags size send_mask receive_mask is none.
      let a : Asked = asked_by flags size send_mask receive_mask is in
      let c : Conn = newcomer d creds a in
      record { first = record { seat = c.seat; act = raise c.size } ∷ []; told = arrival c ++ first_owner d c a; parts = refl; few = omega arith; news = few_come c a };
  makes = λ creds is none. record { first = []; told = []; parts = refl; few = omega arith; news = omega arith };
  says_byebye = λ c live. record { first = map (closing false) (c ∷ []); told = leaving_notices d (c ∷ []); parts = refl; few = omega arith; news = omega (arith, few_leaving d (c ∷ []), room.claims, room.requests) };
  says_close = λ c live. record { first = map (closing true) (c ∷ []); told = leaving_notices d (c ∷ []); parts = refl; few = omega arith; news = omega (arith, few_leaving d (c ∷ []), room.claims, room.requests) };
  lists = λ c flags. record { first = []; told = []; parts = refl; few = omega arith; news = omega arith };
  ticks = λ c moment. record { first = []; told = map (λ (q : Request). reply_timeout q.asker q.cookie) (due (max d.moment moment) d.requests); parts = refl; few = omega arith; news = few_due (max d.moment moment) };
  sends = λ c flags priority dst source payload_type cookie last is live none.
      record { first = send_parts d c (sent_by flags priority dst payload_type cookie last is); told = []; parts = sym (append-nil (send_parts d c (sent_by flags priority dst payload_type cookie last is))); few = omega (arith, few_sent d c (sent_by flags priority dst payload_type cookie last is), room.conns); news = omega arith };
  acquires = λ c flags n v live is. record { first = handover d c (activator_in v); told = owner_change d.registry (with_claim d c.id flags n v).registry n; parts = refl; few = few_handed c (activator_in v); news = omega (arith, few_changes d.registry (with_claim d c.id flags n v).registry n) };
  releases = λ c n. record { first = []; told = owner_change d.registry (without_claim d c.id n).registry n; parts = refl; few = omega arith; news = omega (arith, few_changes d.registry (without_claim d c.id n).registry n) };
  adds_rule = λ c replace cookie is. record { first = []; told = []; parts = refl; few = omega arith; news = omega arith };
  removes_rule = λ c cookie. record { first = []; told = []; parts = refl; few = omega arith; news = omega arith };
  seals = λ c bytes n. record { first = []; told = []; parts = refl; few = omega arith; news = omega arith };
  unseals = λ c number. record { first = []; told = []; parts = refl; few = omega arith; news = omega arith };
  sets = λ c is. record { first = []; told = []; parts = refl; few = omega arith; news = omega arith };
  keeps = λ e is its. record { first = []; told = []; parts = refl; few = omega arith; news = omega arith };
  ends = λ e its. record { first = map (closing true) (on_endpoint d e); told = leaving_notices d (on_endpoint d e); parts = refl; few = omega (arith, length-map (on_endpoint d e) (closing true), few_passing (λ (c : Conn). c.endpoint == e) d.conns, room.conns); news = omega (arith, few_leaving d (on_endpoint d e), few_passing (λ (c : Conn). c.endpoint == e) d.conns, room.conns, room.claims, room.requests) };
  learns_byebye = λ seat. record { first = []; told = []; parts = refl; few = omega arith; news = omega arith };
  learns_close = λ seat. record { first = []; told = []; parts = refl; few = omega arith; news = omega arith };
}
  where
    room : HasRoom d
    room = tables_have_room d s

    few_come : (c : Conn) (a : Asked) → length (arrival c ++ first_owner d c a) ≤ 12352
    few_come c a = omega (arith, length-append (arrival c) (first_owner d c a), one (is_monitor c.kind), two (is_activator c.kind))
      where
        one : (b : Bool) → length {A = Subject} (elim b [ true ↦ [] | false ↦ id_add c.id ∷ [] ]) ≤ 1
        one true = omega arith
        one false = omega arith

        two : (b : Bool) → length {A = Subject} (elim b [ true ↦ owner_change d.registry (registry_with d c a) (activator_name a.items) | false ↦ [] ]) ≤ 1
        two true = few_changes d.registry (registry_with d c a) (activator_name a.items)
        two false = omega arith

    few_due : (now : ℕ) → length (map (λ (q : Request). reply_timeout q.asker q.cookie) (due now d.requests)) ≤ 12352
    few_due now =
        omega (arith, length-map (due now d.requests) (λ (q : Request). reply_timeout q.asker q.cookie), length_in_order is_due_before (those (is_due now) d.requests), few_passing (is_due now) d.requests, room.requests)

    few_handed : (c : Conn) (o : Option ℕ) → length (handover d c o) ≤ 66
    few_handed c None = omega arith
    few_handed c (Some a) = omega arith

pub plans_are_short : PlansAreShort
plans_are_short d k w x p s home e =
    let shape : Shape p = of_command d w (λ y q. Shape q) (shapes d w.member s) x p e in
    let after : IsSettled p.next = settled_stays d k w x p s home e in
    omega (
      arith,
      ap length shape.parts,
      length-append shape.first (notices p.next shape.told),
      shape.few,
      shape.news,
      few_notices p.next shape.told (tables_have_room p.next after).conns,
    )
