-- What is planned can be visited.
use Rattle.std.proofs.Common.{◌≡◌, ◌<◌, ◌%◌, ℕ, suc, zero, false, is_some, get_or, refl, sym, ◌∙◌, List, [], ◌∷◌, length, map, Option, Some, None, arith, length-append}
use Rattle.std.specs.List.{AllByRecursion}
use Rattle.kd_item.proofs.Sizes.{length-spelling}
use Rattle.kd_item.proofs.Words.{length-words}
use Rattle.kd_image.specs.declared.notice.Notice.{Notice}
use Rattle.kd_image.specs.Images.{notice_image}
use Rattle.kd_model.proofs.Lists.{all_of_append, all_of_filter}
use Rattle.kd_acts.specs.State.{Content, Visit, raise, close, offer, post, drain, settle}
use Rattle.kd_commands.specs.declared.conn.Conn.{Conn}
use Rattle.kd_tables.specs.declared.part.Part as code
use Rattle.kd_tables.specs.declared.part.Part.TheVariants as part
use Rattle.kd_commands.specs.State.{Desk}
use Rattle.kd_commands.specs.Audience.{Subject, Telling, audience, telling}
use Rattle.kd_tables.specs.Drafts.{IsLength, IsVisitable, StandByOffers, content_at, is_offer, parts_with}
use Rattle.kd_commands.specs.Plans.{notices, posted, posted_to, posts, Part}
use Rattle.kd_tables.specs.Room.{IsSeated}

abbrev pub CanVisit : ℕ → Visit → Type 0
CanVisit seat (raise size) = (seat < 64) × (size % 8 ≡ 0)
CanVisit seat (close force) = seat < 64
CanVisit seat (offer user len source must content) = ⊥
CanVisit seat (post image) = (seat < 64) × IsLength (length image)
CanVisit seat drain = ⊥
CanVisit seat (settle images) = ⊥

-- what a pool can take, of the parts of the definitions of a plan that offers nothing
abbrev pub CanBeVisited : Part → Type 0
CanBeVisited p = CanVisit p.seat p.act

-- the parts of the code can be visited where those of the definitions can
pub visitable_of : (ps : List code.Part) → AllByRecursion CanBeVisited (parts_with [] ps) → AllByRecursion IsVisitable ps
unfolding IsVisitable
visitable_of [] a = tt
visitable_of (part.Raise seat size ∷ ps) a = (a.0, visitable_of ps a.1)
visitable_of (part.Close seat force ∷ ps) a = (a.0, visitable_of ps a.1)
visitable_of (part.Offer seat user len from must ∷ ps) a = absurd a.0
visitable_of (part.Post seat image ∷ ps) a = (a.0, visitable_of ps a.1)
visitable_of (part.Drain seat size ∷ ps) a = absurd a.0
visitable_of (part.Settle seat ∷ ps) a = absurd a.0

-- and none of them is an offer
offerless : (ps : List code.Part) → AllByRecursion CanBeVisited (parts_with [] ps) → (n : ℕ) → false ≡ get_or (map is_offer ps) n false
offerless [] a n = refl
offerless (part.Offer seat user len from must ∷ ps) a n = absurd a.0
offerless (part.Raise seat size ∷ ps) a zero = refl
offerless (part.Raise seat size ∷ ps) a (suc n) = offerless ps a.1 n
offerless (part.Close seat force ∷ ps) a zero = refl
offerless (part.Close seat force ∷ ps) a (suc n) = offerless ps a.1 n
offerless (part.Post seat image ∷ ps) a zero = refl
offerless (part.Post seat image ∷ ps) a (suc n) = offerless ps a.1 n
offerless (part.Drain seat size ∷ ps) a zero = refl
offerless (part.Drain seat size ∷ ps) a (suc n) = offerless ps a.1 n
offerless (part.Settle seat ∷ ps) a zero = refl
offerless (part.Settle seat ∷ ps) a (suc n) = offerless ps a.1 n

no_content : (n : ℕ) → is_some (content_at n []) ≡ false
no_content zero = refl
no_content (suc n) = refl

-- so they need no contents
pub contentless : (cs : List (Option Content)) (ps : List code.Part) → cs ≡ [] → AllByRecursion CanBeVisited (parts_with [] ps) → StandByOffers cs ps
unfolding StandByOffers
contentless cs ps e a = λ n. rw e (no_content n ∙ offerless ps a n)

-- a notice has whole words
pub notice_length : (n : Notice) (dst : ℕ) → IsLength (length (notice_image n dst))
unfolding notice_image
notice_length n dst = (rw (length-append, length-words, length-spelling) (omega arith), rw (length-append, length-words, length-spelling) (omega arith))

posted_visits : (t : Telling) (cs : List Conn) → AllByRecursion IsSeated cs → AllByRecursion CanBeVisited (map (posted t) cs)
posted_visits t [] a = tt
posted_visits t (c ∷ cs) a = ((a.0, notice_length t.notice t.dst), posted_visits t cs a.1)

told_visits : (o : Option Telling) (cs : List Conn) → AllByRecursion IsSeated cs → AllByRecursion CanBeVisited (posted_to cs o)
told_visits None cs a = tt
told_visits (Some t) cs a = posted_visits t cs a

pub posts_visits : (d : Desk) (s : Subject) → AllByRecursion IsSeated d.conns → AllByRecursion CanBeVisited (posts d s)
unfolding audience
posts_visits d s a = told_visits (telling s) (audience d s) (all_of_filter IsSeated _ d.conns a)

pub notices_visits : (d : Desk) (ss : List Subject) → AllByRecursion IsSeated d.conns → AllByRecursion CanBeVisited (notices d ss)
notices_visits d [] a = tt
notices_visits d (s ∷ ss) a = all_of_append CanBeVisited (posts d s) (notices d ss) (posts_visits d s a) (notices_visits d ss a)

-- the posts of a notice, on a desk whose connections are seated
pub visitable_posts : (d : Desk) (s : Subject) (ps : List code.Part) → AllByRecursion IsSeated d.conns → parts_with [] ps ≡ posts d s → AllByRecursion IsVisitable ps
visitable_posts d s ps a e = visitable_of ps (rw e (posts_visits d s a))

-- and need no contents
pub contentless_posts : (d : Desk) (s : Subject) (ps : List code.Part) → AllByRecursion IsSeated d.conns → parts_with [] ps ≡ posts d s → StandByOffers [] ps
contentless_posts d s ps a e = contentless [] ps refl (rw e (posts_visits d s a))

-- nor does a plan that visits nobody
pub nothing_offered : StandByOffers [] []
nothing_offered = contentless [] [] refl tt

-- nor do notices
pub visitable_notices : (d : Desk) (ss : List Subject) (ps : List code.Part) → AllByRecursion IsSeated d.conns → parts_with [] ps ≡ notices d ss → AllByRecursion IsVisitable ps
visitable_notices d ss ps a e = visitable_of ps (rw e (notices_visits d ss a))

pub contentless_notices : (d : Desk) (ss : List Subject) (ps : List code.Part) → AllByRecursion IsSeated d.conns → parts_with [] ps ≡ notices d ss → StandByOffers [] ps
contentless_notices d ss ps a e = contentless [] ps refl (rw e (notices_visits d ss a))

-- a handover before parts that need no contents needs none
pub behind_handover : (seat size to : ℕ) (ps : List code.Part) → StandByOffers [] ps → StandByOffers [] (part.Drain seat size ∷ part.Settle to ∷ ps)
unfolding StandByOffers
behind_handover seat size to ps h zero = refl
behind_handover seat size to ps h (suc zero) = refl
behind_handover seat size to ps h (suc (suc n)) = no_content (suc (suc n)) ∙ sym (no_content n) ∙ h n
