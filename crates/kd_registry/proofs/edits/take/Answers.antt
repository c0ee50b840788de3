use Rattle.std.proofs.Common.{◌≡◌, ◌∷◌, ap, ◌∙◌, arith}
use Rattle.kd_registry.specs.Claims.{ranks, released, staying, with_ranks}
use Rattle.kd_registry.proofs.Ranked.{ranked_filter}
use Rattle.kd_registry.proofs.Places.{after_released}
use Rattle.kd_registry.proofs.edits.take.Goals as goal

pub withdraw-rest-requires-clause-span : goal.withdraw-rest-requires-clause-span
withdraw-rest-requires-clause-span c = (c.args.claim.name, c.requires.span)

pub put_first-requires-clause-ranked : goal.put_first-requires-clause-ranked
put_first-requires-clause-ranked c = rw (c.withdraw-rest.ensures.items c.args.claim.name c.requires.span) (ranked_filter _ c.args.book.now c.requires.ranked)

pub put_first-requires-clause-span : goal.put_first-requires-clause-span
put_first-requires-clause-span c = c.withdraw-rest.ensures.span c.args.claim.name c.requires.span

pub put_first-requires-clause-room : goal.put_first-requires-clause-room
put_first-requires-clause-room c = omega (arith, c.withdraw-rest.ensures.len c.args.claim.name c.requires.span, c.requires.room)

pub returns-clause-items : goal.returns-clause-items
returns-clause-items c =
    let r = c.args.book.now in
    let x = c.args.claim in
    let gone : c.withdraw-rest.new.book ≡ released r x.id x.name = c.withdraw-rest.ensures.items x.name c.requires.span in
    c.put_first.ensures.items
    ∙ ap (λ w. with_ranks w x.name (x ∷ staying (ranks w x.name))) gone
    ∙ after_released r x.id x.name x

pub returns-clause-len : goal.returns-clause-len
returns-clause-len c = omega (arith, c.put_first.ensures.len, c.withdraw-rest.ensures.len c.args.claim.name c.requires.span)
