-- The caller receives at its own pool, and nothing else is changed.
use Rattle.std.proofs.Common.{◌≡◌, ◌<◌, ◌-◌, ◌^◌, ap, length, refl, rules, subst, sym, ◌∙◌}
use Rattle.std.proofs.lemmas.List.{get_or_read, length-set}
use Rattle.kd_world.specs.State.{caller_at, stranger}
use Rattle.kd_world.specs.Legal.{legal, receives}
use Rattle.kd_world.specs.Answers.{says}
use Rattle.kd_core.specs.Running.{Running, said, stepped}
use Rattle.kd_core.proofs.Seen.{inner}
use Rattle.kd_core.proofs.Delivered.{quiet_at, receive_moves, receive_says, whole_after}
use Rattle.kd_core.proofs.world.World.receive.Goals as goal

pub invariant_of-self : goal.invariant_of-self
invariant_of-self c =
    whole_after c.self.inside _ _ (quiet_at _ _ refl) refl refl c.receive.ensures.pools (length-set c.self.inside.callers.items (c.args.caller - 1) c.receive.new.self) refl (subst (λ (r : Running). r.steps < 2 ^ 54) (sym c.self.view_is) c.requires.steps) c.self.invariant

pub returns-clause-after : goal.returns-clause-after
unfolding legal
returns-clause-after c =
    let inside : c.args.caller - 1 < length c.self.inside.callers.items = search rules in
    let at : c.index_mut.result.now ≡ caller_at (inner c.self.inside) c.args.caller = get_or_read c.self.inside.callers.items (c.args.caller - 1) c.index_mut.result.now inside c.index_mut.ensures.value stranger in
    receive_moves (inner c.self.inside) c.self.inside.steps c.args.caller c.args.mode _ _ _ at c.receive.ensures.pools c.receive.ensures.caller ∙ ap (λ (r : Running). stepped r (receives c.args.caller c.args.mode)) c.self.view_is

pub returns-clause-answer : goal.returns-clause-answer
unfolding legal
returns-clause-answer c =
    let inside : c.args.caller - 1 < length c.self.inside.callers.items = search rules in
    let at : c.index_mut.result.now ≡ caller_at (inner c.self.inside) c.args.caller = get_or_read c.self.inside.callers.items (c.args.caller - 1) c.index_mut.result.now inside c.index_mut.ensures.value stranger in
    subst (λ (r : Running). c.receive.result ≡ said (receives c.args.caller c.args.mode) (says r.world (receives c.args.caller c.args.mode))) c.self.view_is (c.receive.ensures.answer ∙ receive_says (inner c.self.inside) c.args.caller c.args.mode _ at)
