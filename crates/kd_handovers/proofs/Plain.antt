-- What holds of offers, notices and closes holds of nearly all parts of plans.
use Rattle.std.proofs.Common.{true, false, ℕ, Bool, List, [], ◌∷◌, ◌++◌, map, Option, Some, None}
use Rattle.std.specs.List.{AllByRecursion}
use Rattle.kd_model.proofs.Lists.{all_of_append}
use Rattle.kd_image.specs.Images.{any}
use Rattle.kd_acts.specs.State.{Content, Visit, close, offer, post}
use Rattle.kd_commands.specs.declared.conn.Conn.{Conn}
use Rattle.kd_commands.specs.declared.sent.Sent.{Sent}
use Rattle.kd_commands.specs.State.{Desk, monitors}
use Rattle.kd_commands.specs.Audience.{Subject, Telling, audience, telling}
use Rattle.kd_commands.specs.Items.{filter_among}
use Rattle.kd_commands.specs.Leaving.{closing, leaving_notices}
use Rattle.kd_commands.specs.Messages.{is_broadcast}
use Rattle.kd_commands.specs.Plans.{Part, notices, posted, posted_to, posts}
use Rattle.kd_commands.specs.Send.{broadcast_receivers, offered_to, receiver, send_parts, unicast_parts}

abbrev pub AllParts : (Visit → Type 0) → List Part → Type 0
AllParts P ps = AllByRecursion (λ (p : Part). P p.act) ps

-- it holds of these visits
pub record IsPlain (P : Visit → Type 0) : Type 0 where
  pub posts : (image : List ℕ) → P (post image)
  pub offers : (user len source : ℕ) (must : Bool) (content : Content) → P (offer user len source must content)
  pub closes : (force : Bool) → P (close force)

posted_all : (P : Visit → Type 0) → IsPlain P → (t : Telling) (cs : List Conn) → AllParts P (map (posted t) cs)
posted_all P h t [] = tt
posted_all P h t (c ∷ cs) = (h.posts _, posted_all P h t cs)

told_all : (P : Visit → Type 0) → IsPlain P → (o : Option Telling) (cs : List Conn) → AllParts P (posted_to cs o)
told_all P h None cs = tt
told_all P h (Some t) cs = posted_all P h t cs

pub notices_all : (P : Visit → Type 0) → IsPlain P → (d : Desk) (ss : List Subject) → AllParts P (notices d ss)
notices_all P h d [] = tt
notices_all P h d (s ∷ ss) = all_of_append (λ (p : Part). P p.act) (posts d s) (notices d ss) (told_all P h (telling s) (audience d s)) (notices_all P h d ss)

offered_all : (P : Visit → Type 0) → IsPlain P → (d : Desk) (s : Conn) (m : Sent) (dst : ℕ) (must : Bool) (rs : List Conn) → AllParts P (map (offered_to d s m dst must) rs)
offered_all P h d s m dst must [] = tt
offered_all P h d s m dst must (r ∷ rs) = (h.offers _ _ _ _ _, offered_all P h d s m dst must rs)

unicast_all : (P : Visit → Type 0) → IsPlain P → (d : Desk) (s : Conn) (m : Sent) (o : Option Conn) → AllParts P (unicast_parts d s m o)
unicast_all P h d s m None = tt
unicast_all P h d s m (Some r) = (h.offers _ _ _ _ _, offered_all P h d s m r.id false (monitors d))

pub send_all : (P : Visit → Type 0) → IsPlain P → (d : Desk) (s : Conn) (m : Sent) → AllParts P (send_parts d s m)
unfolding send_parts
send_all P h d s m =
    let shown_parts : List Part = map (offered_to d s m any false) (broadcast_receivers d s (filter_among m.items)) in
    elim (is_broadcast m) as (λ b. AllParts P (elim b [ true ↦ shown_parts | false ↦ unicast_parts d s m (receiver d m) ])) [
      | true ↦ offered_all P h d s m any false (broadcast_receivers d s (filter_among m.items))
      | false ↦ unicast_all P h d s m (receiver d m)
    ]

closings_all : (P : Visit → Type 0) → IsPlain P → (force : Bool) (gone : List Conn) (ps : List Part) → AllParts P ps → AllParts P (map (closing force) gone ++ ps)
closings_all P h force [] ps a = a
closings_all P h force (c ∷ gone) ps a = (h.closes force, closings_all P h force gone ps a)

pub left_all : (P : Visit → Type 0) → IsPlain P → (d : Desk) (force : Bool) (gone : List Conn) (after : Desk) → AllParts P (map (closing force) gone ++ notices after (leaving_notices d gone))
left_all P h d force gone after = closings_all P h force gone (notices after (leaving_notices d gone)) (notices_all P h after (leaving_notices d gone))
