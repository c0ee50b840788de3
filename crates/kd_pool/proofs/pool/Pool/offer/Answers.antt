-- The quota is asked of the pool after its sweep.
use Rattle.std.specs.Prelude.{◌≡◌, ◌+◌, false, true, vec_capacity}
use Rattle.std.proofs.Common.{ap, arith, sym, ◌∙◌}
use Rattle.kd_pool.proofs.Kept.{few_slots}
use Rattle.kd_pool.proofs.Offers.{offers_by}
use Rattle.kd_pool.proofs.Views.{slots_shown}
use Rattle.kd_acts.specs.State.{Answer, Pool, slots}
use Rattle.kd_acts.specs.Steps.{swept}
use Rattle.kd_pool.proofs.pool.Pool.offer.Goals as goal

abbrev first : Pool × Answer → Pool
first s = s.0

abbrev second : Pool × Answer → Answer
second s = s.1

pub is_over_quota-requires : goal.is_over_quota-requires
is_over_quota-requires c = record { few = rw c.deref.ensures.value (few_slots c.self-2.inside.memory.items c.self-2.inside.book c.self-2.inside.slots.items (vec_capacity c.self-2.inside.slots) c.self-2.invariant.kept) }

pub returns-then-is_over_quota-clause-state : goal.returns-then-is_over_quota-clause-state
returns-then-is_over_quota-clause-state c =
    let sizes : c.sweep.new.self.size ≡ c.len.result = sym (ap (λ (p : Pool). p.size) c.self-2.view_is) ∙ sym c.self-2.invariant.kept.whole ∙ omega (arith, c.len.ensures) in
    let table : slots c.sweep.new.self ≡ c.deref.result.now = sym (ap slots c.self-2.view_is) ∙ slots_shown c.self-2.inside.memory.items c.self-2.inside.shares.items c.self-2.inside.slots.items ∙ sym c.deref.ensures.value in
    let before : c.sweep.new.self ≡ swept (record c.args.self.now { offered = c.args.self.now.offered + 1 }) = rw (← c.self.view_is) c.sweep.ensures in
    sym (ap first (offers_by c.args.user c.args.len c.args.from c.len.result c.args.self.now c.sweep.new.self c.deref.result.now true before sizes table (sym c.is_over_quota.ensures ∙ c.if-is_over_quota.true)))

pub returns-then-is_over_quota-clause-answer : goal.returns-then-is_over_quota-clause-answer
returns-then-is_over_quota-clause-answer c =
    let sizes : c.sweep.new.self.size ≡ c.len.result = sym (ap (λ (p : Pool). p.size) c.self-2.view_is) ∙ sym c.self-2.invariant.kept.whole ∙ omega (arith, c.len.ensures) in
    let table : slots c.sweep.new.self ≡ c.deref.result.now = sym (ap slots c.self-2.view_is) ∙ slots_shown c.self-2.inside.memory.items c.self-2.inside.shares.items c.self-2.inside.slots.items ∙ sym c.deref.ensures.value in
    let before : c.sweep.new.self ≡ swept (record c.args.self.now { offered = c.args.self.now.offered + 1 }) = rw (← c.self.view_is) c.sweep.ensures in
    sym (ap second (offers_by c.args.user c.args.len c.args.from c.len.result c.args.self.now c.sweep.new.self c.deref.result.now true before sizes table (sym c.is_over_quota.ensures ∙ c.if-is_over_quota.true)))

pub returns-clause-state : goal.returns-clause-state
returns-clause-state c =
    let sizes : c.sweep.new.self.size ≡ c.len.result = sym (ap (λ (p : Pool). p.size) c.self-2.view_is) ∙ sym c.self-2.invariant.kept.whole ∙ omega (arith, c.len.ensures) in
    let table : slots c.sweep.new.self ≡ c.deref.result.now = sym (ap slots c.self-2.view_is) ∙ slots_shown c.self-2.inside.memory.items c.self-2.inside.shares.items c.self-2.inside.slots.items ∙ sym c.deref.ensures.value in
    let before : c.sweep.new.self ≡ swept (record c.args.self.now { offered = c.args.self.now.offered + 1 }) = rw (← c.self.view_is) c.sweep.ensures in
    c.reserve.ensures.state ∙ sym (ap first (offers_by c.args.user c.args.len c.args.from c.len.result c.args.self.now c.sweep.new.self c.deref.result.now false before sizes table (sym c.is_over_quota.ensures ∙ c.if-is_over_quota.false)))

pub returns-clause-answer : goal.returns-clause-answer
returns-clause-answer c =
    let sizes : c.sweep.new.self.size ≡ c.len.result = sym (ap (λ (p : Pool). p.size) c.self-2.view_is) ∙ sym c.self-2.invariant.kept.whole ∙ omega (arith, c.len.ensures) in
    let table : slots c.sweep.new.self ≡ c.deref.result.now = sym (ap slots c.self-2.view_is) ∙ slots_shown c.self-2.inside.memory.items c.self-2.inside.shares.items c.self-2.inside.slots.items ∙ sym c.deref.ensures.value in
    let before : c.sweep.new.self ≡ swept (record c.args.self.now { offered = c.args.self.now.offered + 1 }) = rw (← c.self.view_is) c.sweep.ensures in
    c.reserve.ensures.answer ∙ sym (ap second (offers_by c.args.user c.args.len c.args.from c.len.result c.args.self.now c.sweep.new.self c.deref.result.now false before sizes table (sym c.is_over_quota.ensures ∙ c.if-is_over_quota.false)))
