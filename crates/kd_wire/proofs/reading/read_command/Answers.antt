use Rattle.std.proofs.Common.{◌≡◌, rules, true, false, Some, sym, ap, ◌∙◌, inr}
use Rattle.kd_types.specs.declared.refusal.Refusal.TheVariants.{Unsupported}
use Rattle.kd_wire.specs.Ports.{takes_opcode}
use Rattle.kd_wire.specs.Opcodes.{opcode_of}
use Rattle.kd_wire.proofs.Accepted.{no_opcode, opcode_not_taken, opcode_taken}
use Rattle.kd_wire.proofs.Formed.{judged, length_read, of_answer}
use Rattle.kd_wire.proofs.reading.read_command.Goals as goal

pub returns-in_default-clause-refused : goal.returns-in_default-clause-refused
returns-in_default-clause-refused c =
    inr (no_opcode c.args.port c.args.frame.now (c.in_default.ensures.value ∙ ap opcode_of c.head-command.ensures.command) ∙ ap (λ n. Some (Unsupported n)) (sym c.head-command.ensures.command))

pub returns-then-not-takes_opcode-clause-refused : goal.returns-then-not-takes_opcode-clause-refused
returns-then-not-takes_opcode-clause-refused c =
    let stopped : takes_opcode c.args.port c.in-Some.opcode ≡ false = search rules in
    inr (opcode_not_taken c.args.port c.in-Some.opcode c.args.frame.now (c.in-Some.ensures.value ∙ ap opcode_of c.head-command.ensures.command) stopped ∙ ap (λ n. Some (Unsupported n)) (sym c.head-command.ensures.command))

pub returns-clause-accepted : goal.returns-clause-accepted
returns-clause-accepted c =
    let taken : takes_opcode c.args.port c.in-Some.opcode ≡ true = search rules in
    rw (opcode_taken c.args.port c.in-Some.opcode c.args.frame.now (c.in-Some.ensures.value ∙ ap opcode_of c.head-command.ensures.command) taken) c.read_as.ensures.accepted

pub returns-clause-refused : goal.returns-clause-refused
returns-clause-refused c =
    let taken : takes_opcode c.args.port c.in-Some.opcode ≡ true = search rules in
    rw (opcode_taken c.args.port c.in-Some.opcode c.args.frame.now (c.in-Some.ensures.value ∙ ap opcode_of c.head-command.ensures.command) taken) c.read_as.ensures.refused

pub returns-clause-judged : goal.returns-clause-judged
returns-clause-judged c = of_answer c.read_as.result (λ r w. judged r.1 w) c.read_as.ensures.well_formed

pub returns-clause-size : goal.returns-clause-size
returns-clause-size c = of_answer c.read_as.result (λ r e. length_read c.args.frame.now r.0 r.1 e) c.read_as.ensures.spelled
