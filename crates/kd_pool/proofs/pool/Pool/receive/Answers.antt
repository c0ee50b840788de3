-- The answer goes by the slot that is next, and by whether any waits.
use Rattle.std.specs.Prelude.{◌≡◌, None, Some, false, refl, true, vec_capacity}
use Rattle.std.proofs.Common.{ap, sym, ◌∙◌}
use Rattle.kd_model.specs.Words.{some_of}
use Rattle.kd_pool.proofs.Kept.{kept_apart, view}
use Rattle.kd_acts.proofs.Receives.{receives, takes_either_way}
use Rattle.kd_pool.proofs.Queued.{next_number_waits}
use Rattle.kd_pool.proofs.Views.{slots_shown}
use Rattle.kd_acts.specs.State.{Answer, Pool, is_waiting}
use Rattle.kd_acts.specs.Steps.{next}
use Rattle.kd_pool.proofs.pool.Pool.receive.Goals as goal

abbrev first : Pool × Answer → Pool
first s = s.0

abbrev second : Pool × Answer → Answer
second s = s.1

pub returns-then-some_waiting-clause-state : goal.returns-then-some_waiting-clause-state
returns-then-some_waiting-clause-state c =
    let m = c.self.inside.memory.items in
    let h = c.self.inside.shares.items in
    let ss = c.self.inside.slots.items in
    let none : next ss c.args.mode.limit ≡ None = rw (← c.self.view_is, slots_shown c.self.inside.memory.items c.self.inside.shares.items ss) at (sym c.next.ensures ∙ c.in_default.is) in
    let waits : some_of is_waiting ss ≡ true = rw (← c.self.view_is, slots_shown c.self.inside.memory.items c.self.inside.shares.items ss) at (sym c.some_waiting.ensures ∙ c.if-some_waiting.true) in
    rw (← c.self.view_is) (sym (ap first (receives c.args.mode (view m h c.self.inside.book ss c.self.inside.next_arrival c.self.inside.dropped c.self.inside.offered) ss None true (slots_shown m h ss) none waits)))

pub returns-then-some_waiting-clause-answer : goal.returns-then-some_waiting-clause-answer
returns-then-some_waiting-clause-answer c =
    let m = c.self.inside.memory.items in
    let h = c.self.inside.shares.items in
    let ss = c.self.inside.slots.items in
    let none : next ss c.args.mode.limit ≡ None = rw (← c.self.view_is, slots_shown c.self.inside.memory.items c.self.inside.shares.items ss) at (sym c.next.ensures ∙ c.in_default.is) in
    let waits : some_of is_waiting ss ≡ true = rw (← c.self.view_is, slots_shown c.self.inside.memory.items c.self.inside.shares.items ss) at (sym c.some_waiting.ensures ∙ c.if-some_waiting.true) in
    rw (← c.self.view_is) (sym (ap second (receives c.args.mode (view m h c.self.inside.book ss c.self.inside.next_arrival c.self.inside.dropped c.self.inside.offered) ss None true (slots_shown m h ss) none waits)))

pub returns-in_default-clause-state : goal.returns-in_default-clause-state
returns-in_default-clause-state c =
    let m = c.self.inside.memory.items in
    let h = c.self.inside.shares.items in
    let ss = c.self.inside.slots.items in
    let none : next ss c.args.mode.limit ≡ None = rw (← c.self.view_is, slots_shown c.self.inside.memory.items c.self.inside.shares.items ss) at (sym c.next.ensures ∙ c.in_default.is) in
    let waits : some_of is_waiting ss ≡ false = rw (← c.self.view_is, slots_shown c.self.inside.memory.items c.self.inside.shares.items ss) at (sym c.some_waiting.ensures ∙ c.if-some_waiting.false) in
    rw (← c.self.view_is) (sym (ap first (receives c.args.mode (view m h c.self.inside.book ss c.self.inside.next_arrival c.self.inside.dropped c.self.inside.offered) ss None false (slots_shown m h ss) none waits)))

pub returns-in_default-clause-answer : goal.returns-in_default-clause-answer
returns-in_default-clause-answer c =
    let m = c.self.inside.memory.items in
    let h = c.self.inside.shares.items in
    let ss = c.self.inside.slots.items in
    let none : next ss c.args.mode.limit ≡ None = rw (← c.self.view_is, slots_shown c.self.inside.memory.items c.self.inside.shares.items ss) at (sym c.next.ensures ∙ c.in_default.is) in
    let waits : some_of is_waiting ss ≡ false = rw (← c.self.view_is, slots_shown c.self.inside.memory.items c.self.inside.shares.items ss) at (sym c.some_waiting.ensures ∙ c.if-some_waiting.false) in
    rw (← c.self.view_is) (sym (ap second (receives c.args.mode (view m h c.self.inside.book ss c.self.inside.next_arrival c.self.inside.dropped c.self.inside.offered) ss None false (slots_shown m h ss) none waits)))

pub take-requires : goal.take-requires
take-requires c =
    let ss = c.self.inside.slots.items in
    let some : next ss c.args.mode.limit ≡ Some c.in-Some.slot = rw (← c.self.view_is, slots_shown c.self.inside.memory.items c.self.inside.shares.items ss) at (sym c.next.ensures ∙ c.in-Some.is) in
    rw (slots_shown c.self.inside.memory.items c.self.inside.shares.items ss) (next_number_waits ss c.args.mode.limit c.in-Some.slot (kept_apart c.self.inside.memory.items c.self.inside.book ss (vec_capacity c.self.inside.slots) c.self.invariant.kept) some)

pub returns-clause-state : goal.returns-clause-state
returns-clause-state c =
    let m = c.self.inside.memory.items in
    let h = c.self.inside.shares.items in
    let b = c.self.inside.book in
    let ss = c.self.inside.slots.items in
    let some : next ss c.args.mode.limit ≡ Some c.in-Some.slot = rw (← c.self.view_is, slots_shown c.self.inside.memory.items c.self.inside.shares.items ss) at (sym c.next.ensures ∙ c.in-Some.is) in
    rw (← c.self.view_is) (c.take.ensures ∙ sym (takes_either_way c.args.mode c.in-Some.slot.number (view m h b ss c.self.inside.next_arrival c.self.inside.dropped c.self.inside.offered)) ∙ sym (ap first (receives c.args.mode (view m h b ss c.self.inside.next_arrival c.self.inside.dropped c.self.inside.offered) ss (Some c.in-Some.slot) _ (slots_shown m h ss) some refl)))

pub returns-clause-answer : goal.returns-clause-answer
returns-clause-answer c =
    let m = c.self.inside.memory.items in
    let h = c.self.inside.shares.items in
    let ss = c.self.inside.slots.items in
    let some : next ss c.args.mode.limit ≡ Some c.in-Some.slot = rw (← c.self.view_is, slots_shown c.self.inside.memory.items c.self.inside.shares.items ss) at (sym c.next.ensures ∙ c.in-Some.is) in
    rw (← c.self.view_is) (sym (ap second (receives c.args.mode (view m h c.self.inside.book ss c.self.inside.next_arrival c.self.inside.dropped c.self.inside.offered) ss (Some c.in-Some.slot) _ (slots_shown m h ss) some refl)))
