-- Its caller keeps what it placed, and the desk goes on by the end of its command.
use Rattle.std.proofs.Common.{◌≡◌, ◌<◌, ◌-◌, ◌^◌, length, refl, rules, subst, sym}
use Rattle.std.proofs.lemmas.List.{get_or_read, length-set}
use Rattle.kd_world.specs.State.{caller_at, stranger}
use Rattle.kd_world.specs.Legal.{legal}
use Rattle.kd_core.specs.Running.{Running}
use Rattle.kd_core.proofs.Gone.{fits_in, holding_in, left_said, left_so, whole_left}
use Rattle.kd_core.proofs.Seen.{inner}
use Rattle.kd_core.proofs.world.World.leave.Goals as goal

pub take_out-requires : goal.take_out-requires
take_out-requires c =
    let h = holding_in c.self.inside c.args.self.now c.args.caller c.self.view_is c.requires.may c.self.invariant in
    record { held = (h.holder, h.holds, h.held.visited) }

pub end-requires : goal.end-requires
end-requires c =
    let h = holding_in c.self.inside c.args.self.now c.args.caller c.self.view_is c.requires.may c.self.invariant in
    record { fits = fits_in c.self.inside h c.in_ok-holder.holder (c.in_ok-holder.ensures.holder h.holder h.holds) }

pub invariant_of-self-2 : goal.invariant_of-self-2
invariant_of-self-2 c =
    whole_left c.self.inside _ c.in_ok-holder.holder c.end.ensures.desk c.in_ok-holder.ensures.none refl (length-set c.self.inside.callers.items (c.args.caller - 1) c.end.new.caller) refl
    (subst (λ (r : Running). r.steps < 2 ^ 54) (sym c.self.view_is) c.requires.steps) c.self.invariant

pub returns-clause-ok : goal.returns-clause-ok
unfolding legal
returns-clause-ok c =
    let inside : c.args.caller - 1 < length c.self.inside.callers.items = search rules in
    let at : c.index_mut-me.result.now ≡ caller_at (inner c.self.inside) c.args.caller = get_or_read c.self.inside.callers.items (c.args.caller - 1) c.index_mut-me.result.now inside c.index_mut-me.ensures.value stranger in
    let h = holding_in c.self.inside c.args.self.now c.args.caller c.self.view_is c.requires.may c.self.invariant in
    left_so c.self.inside c.args.self.now c.args.caller h c.in_ok-holder.holder c.end.new.desk c.take_out.new.holder c.deref.result.now c.index_mut-me.result.now c.take_out.new.caller c.end.new.caller c.self.view_is
    (c.in_ok-holder.ensures.holder h.holder h.holds) c.in_ok-holder.ensures.none c.deref.ensures.value at (c.in_ok-holder.ensures.caller h.holder h.holds) c.end.ensures.desk c.end.ensures.caller

pub returns-clause-answer : goal.returns-clause-answer
returns-clause-answer c =
    let h = holding_in c.self.inside c.args.self.now c.args.caller c.self.view_is c.requires.may c.self.invariant in
    left_said c.self.inside c.args.self.now c.args.caller h c.in_ok-holder.holder c.end.result c.self.view_is (c.in_ok-holder.ensures.holder h.holder h.holds) c.end.ensures.reply
