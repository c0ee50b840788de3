use Rattle.std.proofs.Common.{◌≡◌, ◌<◌, length, ap, sym, refl, subst, ◌∙◌, arith, Ok}
use Rattle.kd_registry.specs.Claims.{asked, claim_of, held}
use Rattle.kd_registry.proofs.Answered.{has_room}
use Rattle.kd_registry.proofs.Kept.{takes_ranked, queues_ranked}
use Rattle.kd_registry.proofs.registry.Registry.acquire.Goals as goal

pub take-requires-clause-room : goal.take-requires-clause-room
take-requires-clause-room c =
    let r = c.self.inside.book in
    let n = c.args.name in
    let ok : asked r c.args.id n c.args.flags ≡ Ok c.in_ok-span.verdict = sym (c.in_ok-span.ensures.ok ∙ ap (λ m. asked r c.args.id m c.args.flags) c.bytes.ensures) in
    let room = has_room r c.args.id n c.args.flags c.in_ok-span.verdict ok (subst (λ z. held z c.args.id < 64 → length z < 4160) (sym c.self.view_is) c.requires.room) c.self.invariant.1 in
    room

pub invariant_of-self : goal.invariant_of-self
invariant_of-self c =
    let r = c.self.inside.book in
    let n = c.args.name in
    let ok : asked r c.args.id n c.args.flags ≡ Ok c.in_ok-span.verdict = sym (c.in_ok-span.ensures.ok ∙ ap (λ m. asked r c.args.id m c.args.flags) c.bytes.ensures) in
    let room = has_room r c.args.id n c.args.flags c.in_ok-span.verdict ok (subst (λ z. held z c.args.id < 64 → length z < 4160) (sym c.self.view_is) c.requires.room) c.self.invariant.1 in
    (rw c.take.ensures.items (takes_ranked r (claim_of c.args.id n c.args.flags) refl c.self.invariant.0), omega (arith, room, c.take.ensures.len))

pub put_in_queue-requires-clause-room : goal.put_in_queue-requires-clause-room
put_in_queue-requires-clause-room c =
    let r = c.self.inside.book in
    let n = c.args.name in
    let ok : asked r c.args.id n c.args.flags ≡ Ok c.in_ok-span.verdict = sym (c.in_ok-span.ensures.ok ∙ ap (λ m. asked r c.args.id m c.args.flags) c.bytes.ensures) in
    let room = has_room r c.args.id n c.args.flags c.in_ok-span.verdict ok (subst (λ z. held z c.args.id < 64 → length z < 4160) (sym c.self.view_is) c.requires.room) c.self.invariant.1 in
    room

pub invariant_of-self-in-Queued : goal.invariant_of-self-in-Queued
invariant_of-self-in-Queued c =
    let r = c.self.inside.book in
    let n = c.args.name in
    let ok : asked r c.args.id n c.args.flags ≡ Ok c.in_ok-span.verdict = sym (c.in_ok-span.ensures.ok ∙ ap (λ m. asked r c.args.id m c.args.flags) c.bytes.ensures) in
    let room = has_room r c.args.id n c.args.flags c.in_ok-span.verdict ok (subst (λ z. held z c.args.id < 64 → length z < 4160) (sym c.self.view_is) c.requires.room) c.self.invariant.1 in
    (rw c.put_in_queue.ensures.items (queues_ranked r (claim_of c.args.id n c.args.flags) refl c.self.invariant.0), omega (arith, room, c.put_in_queue.ensures.len))
