-- What is told to more than one is told by rising seat.
use Rattle.std.proofs.Common.{◌≡◌, Bool, true, false, List, [], ◌∷◌, map, Option, Some, None, refl, sym, ap}
use Rattle.std.specs.Prelude.{nat_lt}
use Rattle.std.specs.List.{AllByRecursion}
use Rattle.kd_model.proofs.Lists.{all_over}
use Rattle.kd_replies.specs.Order.{Rises}
use Rattle.kd_replies.proofs.Ordered.{rises_filter}
use Rattle.kd_image.specs.Images.{any}
use Rattle.kd_commands.specs.declared.conn.Conn.{Conn}
use Rattle.kd_commands.specs.declared.sent.Sent.{Sent}
use Rattle.kd_commands.specs.State.{Desk, sits_before}
use Rattle.kd_commands.specs.Audience.{Subject, Telling, audience, broadcast, is_told, telling}
use Rattle.kd_commands.specs.Items.{Filter, filter_among}
use Rattle.kd_commands.specs.Messages.{is_broadcast}
use Rattle.kd_commands.specs.Plans.{Part, posted, posted_to}
use Rattle.kd_commands.specs.Send.{broadcast_parts, broadcast_receivers, offered_to, receiver, send_parts, unicast_parts}
use Rattle.kd_settled.specs.Rising.{AudiencesRise, BroadcastsRise, is_lower_part}
use Rattle.kd_settled.specs.Settled.{IsSettled}

-- parts at the seats of connections that rise
rises_at : (f : Conn → Part) → ((c : Conn) → (f c).seat ≡ c.seat) → (cs : List Conn) → Rises sits_before cs → Rises is_lower_part (map f cs)
rises_at f at [] r = tt
rises_at f at (c ∷ cs) r = (above cs r.0, rises_at f at cs r.1)
  where
    above : (xs : List Conn) → AllByRecursion (λ (x : Conn). sits_before c x ≡ true) xs → AllByRecursion (λ (p : Part). is_lower_part (f c) p ≡ true) (map f xs)
    above [] a = tt
    above (x ∷ xs) a = (rw (at c, at x) a.0, above xs a.1)

audience_rises : (d : Desk) (s : Subject) → IsSettled d → Rises sits_before (audience d s)
unfolding audience
audience_rises d s settled = rises_filter sits_before (is_told d s) d.conns settled.seats.rising

pub audiences_rise : AudiencesRise
audiences_rise d s settled = (audience_rises d s settled, posts_rise (telling s))
  where
    posts_rise : (o : Option Telling) → Rises is_lower_part (posted_to (audience d s) o)
    posts_rise None = tt
    posts_rise (Some t) = rises_at (posted t) (λ c. refl) (audience d s) (audience_rises d s settled)

pub broadcasts_rise : BroadcastsRise
unfolding send_parts
broadcasts_rise d c m settled is =
    go (is_broadcast m) is
  where
    receivers : (o : Option Filter) → Rises sits_before (broadcast_receivers d c o)
    receivers None = tt
    receivers (Some f) = audience_rises d (broadcast c f) settled

    go : (b : Bool) → b ≡ true → Rises is_lower_part (elim b [ true ↦ broadcast_parts d c m | false ↦ unicast_parts d c m (receiver d m) ])
    go true e = rises_at (offered_to d c m any false) (λ r. refl) (broadcast_receivers d c (filter_among m.items)) (receivers (filter_among m.items))
    go false e = absurd cc
