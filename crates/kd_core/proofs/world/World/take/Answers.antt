use Rattle.std.proofs.Common.{rules, ◌≢◌, ◌<◌, ◌∙◌, ◌^◌, sym, subst, ap}
use Rattle.kd_types.specs.declared.refusal.Refusal.TheVariants as why
use Rattle.kd_tables.specs.Drafts.{drafted}
use Rattle.kd_world.specs.State.{Caller}
use Rattle.kd_core.specs.Running.{Running}
use Rattle.kd_core.proofs.Takes.{takes_as_caller, takes_form}
use Rattle.kd_core.proofs.Wholes.{newly_held, refusal_is, refused_in, refused_said, taken_in, taken_said, whole_held, whole_later}
use Rattle.kd_core.proofs.world.World.take.Goals as goal

pub caller-requires : goal.caller-requires
caller-requires c = record { caller = takes_as_caller c.args.self.now.world c.args.caller c.args.command c.requires.may }

pub planned-requires : goal.planned-requires
planned-requires c = record { form = takes_form c.args.self.now.world c.args.caller c.args.command c.requires.may }

pub invariant_of-self : goal.invariant_of-self
invariant_of-self c = whole_later c.self.inside c.self.invariant (subst (λ (r : Running). r.steps < 2 ^ 54) (sym c.self.view_is) c.requires.steps)

pub returns-in-Err : goal.returns-in-Err
returns-in-Err c =
    let who = ap (λ (k : Caller). k.who) (c.behind-self.view_is ∙ c.caller.ensures) in
    let ne : c.in-Err.why ≢ why.OutOfMemory = search rules in
    let refused = refusal_is c.args.self.now.world.desk _ c.in-Err.why ne c.in-Err.ensures.planned in
    record {
      ok = refused_in c.self.inside c.args.self.now c.args.caller c.behind-self.inside.who c.args.command c.in-Err.why c.self.view_is who c.requires.may refused;
      answer = refused_said c.args.self.now.world c.args.caller c.behind-self.inside.who c.args.command c.in-Err.why who refused;
      err = tt;
    }

pub invariant_of-self-2 : goal.invariant_of-self-2
invariant_of-self-2 c =
    whole_held c.self.inside
    (record { caller = c.args.caller; who = c.behind-self.inside.who; command = c.of-given.result; creds = c.creds_after-creds.result; plan = c.in-Ok.plan; made = c.in_ok-made.made; outs = c.new.result })
    c.self.invariant (subst (λ (r : Running). r.steps < 2 ^ 54) (sym c.self.view_is) c.requires.steps)
    (newly_held c.self.inside c.args.self.now
    (record { caller = c.args.caller; who = c.behind-self.inside.who; command = c.of-given.result; creds = c.creds_after-creds.result; plan = c.in-Ok.plan; made = c.in_ok-made.made; outs = c.new.result })
    c.args.command c.self.view_is c.in-Ok.ensures.planned c.of-given.ensures c.new.ensures.items c.in-Ok.ensures.order c.in_ok-made.ensures.made c.in_ok-made.ensures.none c.creds_after-creds.ensures)

pub returns-clause-ok : goal.returns-clause-ok
returns-clause-ok c =
    taken_in c.self.inside c.args.self.now
    (record { caller = c.args.caller; who = c.behind-self.inside.who; command = c.of-given.result; creds = c.creds_after-creds.result; plan = c.in-Ok.plan; made = c.in_ok-made.made; outs = c.new.result })
    c.args.command (drafted c.args.self.now.world.desk c.in-Ok.plan) c.self.view_is
    (ap (λ (k : Caller). k.who) (c.behind-self.view_is ∙ c.caller.ensures)) c.in-Ok.ensures.planned.0 c.of-given.ensures c.new.ensures.items

pub returns-clause-answer : goal.returns-clause-answer
returns-clause-answer c =
    taken_said c.args.self.now.world c.args.caller c.behind-self.inside.who c.args.command (drafted c.args.self.now.world.desk c.in-Ok.plan)
    (ap (λ (k : Caller). k.who) (c.behind-self.view_is ∙ c.caller.ensures)) c.in-Ok.ensures.planned.0
