use Rattle.std.proofs.Common.{rules, ◌≡◌, true, sym, subst, ◌∙◌}
use Rattle.kd_acts.specs.declared.receive.RecvMode.{RecvMode}
use Rattle.kd_world.specs.Legal.{receives, legal}
use Rattle.kd_replay.specs.Turns.{IsReady, mode_of}
use Rattle.kd_wire.specs.Typed.{IsTyped}
use Rattle.kd_replay.specs.Hearing.{IsLimit}
use Rattle.kd_replay.proofs.Holding.{ready_behind_receive, ready_behind_read, ready_behind_free}
use Rattle.kd_replay.proofs.Modes.{limit_typed, receive_may, read_may, free_may, then_ok}
use Rattle.kd_wire.proofs.Formed.{of_answer}
use Rattle.kd_replay.proofs.Replies.{free_turn, read_turn, receive_turn}
use Rattle.kd_replay.proofs.running.run.Goals as goal

pub run_alone-requires-clause-may : goal.run_alone-requires-clause-may
run_alone-requires-clause-may g c =
    subst (λ (m : RecvMode). legal c.args.world.now.world (receives c.args.caller m) ≡ true) (sym c.mode_of-mode.ensures)
    (receive_may c.args.world.now.world c.args.caller c.args.command c.in-Recv.flags c.in-Recv.limit _ c.requires.caller c.requires.ready c.requires.form c.in-Recv.is)

pub run_alone-requires-clause-typed : goal.run_alone-requires-clause-typed
run_alone-requires-clause-typed g c =
    let mode : c.mode_of-mode.result ≡ mode_of c.in-Recv.flags c.in-Recv.limit = search (rules, c.mode_of-mode.ensures) in
    subst (λ (m : RecvMode). IsLimit m.limit) (sym mode)
    (limit_typed c.in-Recv.flags c.in-Recv.limit (subst IsTyped c.in-Recv.is c.requires.typed).signed)

pub run_alone-requires-in-Read-clause-may : goal.run_alone-requires-in-Read-clause-may
run_alone-requires-in-Read-clause-may g c = read_may c.args.world.now.world c.args.caller c.slice_number-number.result c.in-Read.sealed c.requires.caller c.requires.ready

pub run_alone-requires-in-Free-clause-may : goal.run_alone-requires-in-Free-clause-may
run_alone-requires-in-Free-clause-may g c = free_may c.args.world.now.world c.args.caller c.slice_number-number-in-Free.result c.requires.caller c.requires.ready

pub returns-in-Recv-clause-ready : goal.returns-in-Recv-clause-ready
returns-in-Recv-clause-ready g c = then_ok c.run_alone.result (λ e. subst IsReady (sym e) (ready_behind_receive c.args.world.now.world c.args.caller c.mode_of-mode.result c.requires.ready)) c.run_alone.ensures.next

pub returns-in-Read-clause-ready : goal.returns-in-Read-clause-ready
returns-in-Read-clause-ready g c = then_ok c.run_alone-in-Read.result (λ e. subst IsReady (sym e) (ready_behind_read c.args.world.now.world c.args.caller c.slice_number-number.result c.in-Read.sealed c.requires.ready)) c.run_alone-in-Read.ensures.next

pub returns-in-Free-clause-ready : goal.returns-in-Free-clause-ready
returns-in-Free-clause-ready g c = then_ok c.run_alone-in-Free.result (λ e. subst IsReady (sym e) (ready_behind_free c.args.world.now.world c.args.caller c.slice_number-number-in-Free.result c.requires.ready)) c.run_alone-in-Free.ensures.next

pub returns-in-Recv-clause-reply : goal.returns-in-Recv-clause-reply
returns-in-Recv-clause-reply g c =
    let mode : c.mode_of-mode.result ≡ mode_of c.in-Recv.flags c.in-Recv.limit = search (rules, c.mode_of-mode.ensures) in
    of_answer c.run_alone.result
    (λ r e. e ∙ receive_turn c.args.world.now.world c.args.caller c.mode_of-mode.result c.in-Recv.flags c.in-Recv.limit c.args.command mode c.in-Recv.is)
    c.run_alone.ensures.reply

pub returns-in-Read-clause-reply : goal.returns-in-Read-clause-reply
returns-in-Read-clause-reply g c = of_answer c.run_alone-in-Read.result
    (λ r e. e ∙ read_turn c.args.world.now.world c.args.caller c.slice_number-number.result c.in-Read.number c.in-Read.sealed c.args.command c.slice_number-number.ensures c.in-Read.is)
    c.run_alone-in-Read.ensures.reply

pub returns-in-Free-clause-reply : goal.returns-in-Free-clause-reply
returns-in-Free-clause-reply g c = of_answer c.run_alone-in-Free.result
    (λ r e. e ∙ free_turn c.args.world.now.world c.args.caller c.slice_number-number-in-Free.result c.in-Free.number c.args.command c.slice_number-number-in-Free.ensures c.in-Free.is)
    c.run_alone-in-Free.ensures.reply
