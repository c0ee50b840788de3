use Rattle.std.proofs.Common.{◌≡◌, true, List, length, None, ◌∙◌, sym, ap, subst}
use Rattle.kd_world.specs.State.{World}
use Rattle.kd_world.specs.Holding.{holds_desk}
use Rattle.kd_world.specs.Legal.{Event, leave, take}
use Rattle.kd_world.specs.Step.{step}
use Rattle.kd_world.specs.Answers.{says}
use Rattle.kd_world.specs.Whole.{Whole, published, visits_run}
use Rattle.kd_replay.specs.Turns.{IsReady, reply_of}
use Rattle.kd_replay.specs.Answering.{reply_with}
use Rattle.kd_replay.specs.Hearing.{Hears, heard_along}
use Rattle.kd_replay.proofs.Holding.{callers_stay, free_behind_leave}
use Rattle.kd_replay.proofs.AtDesk.{desk_heard}
use Rattle.kd_replay.proofs.Replies.{leave_replied}
use Rattle.kd_replay.proofs.Takes.{taken, take_may, taken_events, turned_away}
use Rattle.kd_replay.proofs.Visits.{leave_may}
use Rattle.kd_replay.proofs.running.run_at_desk.Goals as goal

pub step-requires-clause-may : goal.step-requires-clause-may
step-requires-clause-may g c = take_may c.args.world.now.world c.args.caller c.args.command c.requires.caller c.requires.ready c.requires.desk c.requires.form

pub returns-in-Refused-clause-next : goal.returns-in-Refused-clause-next
returns-in-Refused-clause-next g c =
    let away = turned_away c.args.world.now.world c.args.caller c.args.command c.in-Refused.refusal c.requires.ready (sym c.in_ok-taken.ensures.answer ∙ c.in-Refused.is) in
    c.in_ok-taken.ensures.next ∙ sym away.next

pub returns-in-Refused-clause-reply : goal.returns-in-Refused-clause-reply
returns-in-Refused-clause-reply g c =
    let away = turned_away c.args.world.now.world c.args.caller c.args.command c.in-Refused.refusal c.requires.ready (sym c.in_ok-taken.ensures.answer ∙ c.in-Refused.is) in
    sym away.reply

pub returns-in-Refused-clause-ready : goal.returns-in-Refused-clause-ready
returns-in-Refused-clause-ready g c =
    let away = turned_away c.args.world.now.world c.args.caller c.args.command c.in-Refused.refusal c.requires.ready (sym c.in_ok-taken.ensures.answer ∙ c.in-Refused.is) in
    subst IsReady (sym c.in_ok-taken.ensures.next) away.ready

pub visit-requires : goal.visit-requires
visit-requires g c =
    let inside = taken c.args.world.now.world c.args.caller c.args.command (λ why e. c.in_default.not-Refused why (c.in_ok-taken.ensures.answer ∙ e)) in
    record { caller = c.requires.caller; holds = subst (λ (w : World). holds_desk w c.args.caller ≡ true) (sym c.in_ok-taken.ensures.next) inside.holds }

pub step-requires-2-clause-may : goal.step-requires-2-clause-may
step-requires-2-clause-may g c = leave_may c.visit.new.world.world c.args.caller c.in_ok-visit.ensures.all c.in_ok-visit.ensures.holds c.requires.caller

pub publish-requires : goal.publish-requires
publish-requires g c =
    let callers = c.in_ok-visit.ensures.callers ∙ ap (λ (w : World). length w.callers) c.in_ok-taken.ensures.next ∙ callers_stay c.args.world.now.world (take c.args.caller c.args.command) ∙ c.requires.ready.callers in
    record { caller = c.requires.caller; ready = subst IsReady (sym c.in_ok-answer.ensures.next) (free_behind_leave c.visit.new.world.world c.args.caller callers) }

pub returns : goal.returns
returns g c =
    let inside = taken c.args.world.now.world c.args.caller c.args.command (λ why e. c.in_default.not-Refused why (c.in_ok-taken.ensures.answer ∙ e)) in
    let seen = c.in_ok-visit.ensures.next ∙ ap (λ (w : World). visits_run w c.args.caller) c.in_ok-taken.ensures.next in
    record {
      next = c.in_ok-publish.ensures.next ∙ ap (λ (w : World). published w c.args.caller) (c.in_ok-answer.ensures.next ∙ ap (λ (w : World). step w (leave c.args.caller)) seen) ∙ sym (ap (λ (t : Whole). t.next) inside.turn);
      reply = c.reply_of.ensures ∙ ap reply_with c.in_ok-answer.ensures.answer ∙ leave_replied c.args.caller (says c.visit.new.world.world (leave c.args.caller))
          ∙ ap (λ (w : World). reply_of (says w (leave c.args.caller))) seen ∙ sym (ap (λ (t : Whole). reply_of t.answer) inside.turn);
      ready = c.in_ok-publish.ensures.ready;
      told = desk_heard (g.W.Witness.has_heard c.args.witness.now) (g.W.Witness.has_heard c.step.new.witness) (g.W.Witness.has_heard c.visit.new.witness) (g.W.Witness.has_heard c.step-2.new.witness) (g.W.Witness.has_heard c.publish.new.witness)
          c.args.world.now.world c.step.new.world.world c.visit.new.world.world c.step-2.new.world.world c.args.caller c.args.command inside.events
          c.in_ok-taken.ensures.next c.in_ok-visit.ensures.next c.in_ok-answer.ensures.next
          c.in_ok-taken.ensures.told c.in_ok-visit.ensures.told c.in_ok-answer.ensures.told c.in_ok-publish.ensures.told;
    }

pub returns-in-Refused-clause-told : goal.returns-in-Refused-clause-told
returns-in-Refused-clause-told g c =
    let away = turned_away c.args.world.now.world c.args.caller c.args.command c.in-Refused.refusal c.requires.ready (sym c.in_ok-taken.ensures.answer ∙ c.in-Refused.is) in
    let only = taken_events c.args.world.now.world c.args.caller c.args.command None away.ready.free in
    subst (λ (es : List Event). Hears (g.W.Witness.has_heard c.args.witness.now) (g.W.Witness.has_heard c.step.new.witness) (heard_along c.args.world.now.world es)) (sym only) c.in_ok-taken.ensures.told
