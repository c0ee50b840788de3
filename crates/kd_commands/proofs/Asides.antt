-- Parts that neither raise a pool nor close one, whose offers are of as many bytes as their
-- contents have.
use Rattle.std.proofs.Common.{◌≡◌, ℕ, Bool, true, false, List, [], ◌∷◌, ◌++◌, length, map, Option, Some, None, refl, sym, ap, ◌∙◌}
use Rattle.std.specs.Prelude.{◌==◌}
use Rattle.std.specs.List.{AllByRecursion}
use Rattle.kd_model.proofs.Lists.{all_of_append}
use Rattle.kd_acts.specs.Lasting.{open_after}
use Rattle.kd_acts.specs.State.{Answer, Image, Visit, by_desk, close, drain, offer, post, raise, settle}
use Rattle.kd_commands.specs.declared.conn.Conn.{Conn}
use Rattle.kd_commands.specs.declared.sent.Sent.{Sent}
use Rattle.kd_commands.specs.State.{Desk, monitors}
use Rattle.kd_commands.specs.Audience.{Subject, Telling, audience, telling}
use Rattle.kd_image.specs.Images.{any}
use Rattle.kd_commands.specs.Items.{filter_among}
use Rattle.kd_commands.specs.Names.{handover}
use Rattle.kd_commands.specs.Plans.{notices, posted, posted_to, posts, Part}
use Rattle.kd_commands.specs.Seating.{open_along, open_at}
use Rattle.kd_commands.specs.Messages.{is_broadcast}
use Rattle.kd_commands.specs.Send.{offered_to, receiver, send_parts, broadcast_receivers, unicast_parts}
use Rattle.kd_commands.specs.Visits.{images_in, next_part, with_images}

-- neither a raise nor a close, nor an offer of another length than its content's
abbrev pub IsAside : Visit → Type 0
IsAside (raise size) = ⊥
IsAside (close force) = ⊥
IsAside (offer user len source must content) = len ≡ length content.image
IsAside _ = Unit {0}

abbrev pub AreAside : List Part → Type 0
AreAside ps = AllByRecursion (λ (p : Part). IsAside p.act) ps

-- ---- which parts are

posted_aside : (t : Telling) (cs : List Conn) → AreAside (map (posted t) cs)
posted_aside t [] = tt
posted_aside t (c ∷ cs) = (tt, posted_aside t cs)

told_aside : (o : Option Telling) (cs : List Conn) → AreAside (posted_to cs o)
told_aside None cs = tt
told_aside (Some t) cs = posted_aside t cs

-- notices
pub notices_aside : (d : Desk) (ss : List Subject) → AreAside (notices d ss)
notices_aside d [] = tt
notices_aside d (s ∷ ss) = all_of_append (λ (p : Part). IsAside p.act) (posts d s) (notices d ss) (told_aside (telling s) (audience d s)) (notices_aside d ss)

offered_aside : (d : Desk) (s : Conn) (m : Sent) (dst : ℕ) (must : Bool) (rs : List Conn) → AreAside (map (offered_to d s m dst must) rs)
offered_aside d s m dst must [] = tt
offered_aside d s m dst must (r ∷ rs) = (refl, offered_aside d s m dst must rs)

unicast_aside : (d : Desk) (s : Conn) (m : Sent) (o : Option Conn) → AreAside (unicast_parts d s m o)
unicast_aside d s m None = tt
unicast_aside d s m (Some r) = (refl, offered_aside d s m r.id false (monitors d))

-- a message's offers
pub send_aside : (d : Desk) (s : Conn) (m : Sent) → AreAside (send_parts d s m)
unfolding send_parts
send_aside d s m =
    let shown_parts : List Part = map (offered_to d s m any false) (broadcast_receivers d s (filter_among m.items)) in
    elim (is_broadcast m) as (λ b. AreAside (elim b [ true ↦ shown_parts | false ↦ unicast_parts d s m (receiver d m) ])) [
      | true ↦ offered_aside d s m any false (broadcast_receivers d s (filter_among m.items))
      | false ↦ unicast_aside d s m (receiver d m)
    ]

-- the messages of an activator
pub handover_aside : (d : Desk) (c : Conn) (o : Option ℕ) → AreAside (handover d c o)
handover_aside d c None = tt
handover_aside d c (Some a) = (tt, (tt, tt))

-- ---- what they do to open pools

aside_after : (v : Visit) (o : Answer) (was : Bool) → IsAside v → open_after (by_desk v) o was ≡ was
aside_after (raise size) o was a = absurd a
aside_after (close force) o was a = absurd a
aside_after (offer user len source must content) o was a = refl
aside_after (post image) o was a = refl
aside_after drain o was a = refl
aside_after (settle images) o was a = refl

aside_at : (s : ℕ) (p : Part) (o : Answer) (was : Bool) → IsAside p.act → open_at s p o was ≡ was
aside_at s p o was a =
    elim (p.seat == s) as (λ b. elim b [ true ↦ open_after (by_desk p.act) o was | false ↦ was ] ≡ was) [
      | true ↦ aside_after p.act o was a
      | false ↦ refl
    ]

-- nothing
pub open_aside : (s : ℕ) (ps : List Part) (outs : List Answer) (was : Bool) → AreAside ps → open_along s ps outs was ≡ was
unfolding open_along
open_aside s [] outs was a = refl
open_aside s (p ∷ ps) [] was a = refl
open_aside s (p ∷ ps) (o ∷ outs) was a = ap (open_along s ps outs) (aside_at s p o was a.0) ∙ open_aside s ps outs was a.1

-- ---- parts that raise none

abbrev pub RaisesNone : Visit → Type 0
RaisesNone (raise size) = ⊥
RaisesNone _ = Unit {0}

abbrev pub RaiseNone : List Part → Type 0
RaiseNone ps = AllByRecursion (λ (p : Part). RaisesNone p.act) ps

pub aside_raises : (v : Visit) → IsAside v → RaisesNone v
aside_raises (raise size) a = a
aside_raises (close force) a = tt
aside_raises (offer user len source must content) a = tt
aside_raises (post image) a = tt
aside_raises drain a = tt
aside_raises (settle images) a = tt

-- ---- the next part, with what was drained before it

met_raises : (is : List Image) (v : Visit) → RaisesNone v → RaisesNone (with_images is v)
met_raises is (raise size) a = a
met_raises is (close force) a = tt
met_raises is (offer user len source must content) a = tt
met_raises is (post image) a = tt
met_raises is drain a = tt
met_raises is (settle images) a = tt

met_aside : (is : List Image) (v : Visit) → IsAside v → IsAside (with_images is v)
met_aside is (raise size) a = a
met_aside is (close force) a = a
met_aside is (offer user len source must content) a = a
met_aside is (post image) a = tt
met_aside is drain a = tt
met_aside is (settle images) a = tt

-- what images change nothing of holds of it, if of all
next_holds :
    (P : Visit → Type 0) → ((is : List Image) (v : Visit) → P v → P (with_images is v)) → (is : List Image) (ps : List Part) (outs : List Answer) (q : Part)
    → AllByRecursion (λ (p : Part). P p.act) ps → next_part is ps outs ≡ Some q → P q.act
unfolding next_part
next_holds P met is [] outs q a e = absurd cc
next_holds P met is (p ∷ ps) [] q a e = let same : record p { act = with_images is p.act } ≡ q = cc in rw (sym same) (met is p.act a.0)
next_holds P met is (p ∷ ps) (o ∷ outs) q a e = next_holds P met (is ++ images_in o) ps outs q a.1 e

-- it raises none
pub next_raises : (is : List Image) (ps : List Part) (outs : List Answer) (q : Part) → RaiseNone ps → next_part is ps outs ≡ Some q → RaisesNone q.act
next_raises is ps outs q a e = next_holds RaisesNone met_raises is ps outs q a e

-- it is aside
pub next_aside : (is : List Image) (ps : List Part) (outs : List Answer) (q : Part) → AreAside ps → next_part is ps outs ≡ Some q → IsAside q.act
next_aside is ps outs q a e = next_holds IsAside met_aside is ps outs q a e
