-- The drain and the settle stand before the posts.
use Rattle.std.proofs.Common.{◌≡◌, ◌∷◌, refl}
use Rattle.kd_tables.specs.declared.part.Part.TheVariants as part
use Rattle.kd_tables.specs.Drafts.{IsVisitable}
use Rattle.kd_tables.proofs.Visits.{behind_handover}
use Rattle.kd_desk.proofs.naming.handed_over.Goals as goal

pub returns-clause-visitable : goal.returns-clause-visitable
unfolding IsVisitable
returns-clause-visitable c =
    let pool = c.activator_pool-seat.result in
    let whole : c.append.new.self.items ≡ part.Drain pool.0 pool.1 ∷ part.Settle c.args.conn.now.seat ∷ c.args.posts.items = rw (c.in_ok-append.ensures.items, c.in_ok-push-2.ensures.items, c.in_ok-push.ensures.items, c.in_ok-parts.ensures.items) refl in
    rw whole ((c.activator_pool-seat.ensures.low, c.activator_pool-seat.ensures.words), (c.requires.seat, c.requires.visitable))

pub returns-clause-contents : goal.returns-clause-contents
returns-clause-contents c =
    let pool = c.activator_pool-seat.result in
    let whole : c.append.new.self.items ≡ part.Drain pool.0 pool.1 ∷ part.Settle c.args.conn.now.seat ∷ c.args.posts.items = rw (c.in_ok-append.ensures.items, c.in_ok-push-2.ensures.items, c.in_ok-push.ensures.items, c.in_ok-parts.ensures.items) refl in
    rw whole (behind_handover pool.0 pool.1 c.args.conn.now.seat c.args.posts.items c.requires.contents)
