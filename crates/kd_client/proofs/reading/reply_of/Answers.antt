use Rattle.std.proofs.Common.{refl, sym, ◌∙◌, inr}
use Rattle.kd_wire.specs.Opcodes.{opcode_number}
use Rattle.kd_client.proofs.NoReply.{opcode_small, none_other, none_broken, none_for, not_both}
use Rattle.kd_client.proofs.reading.reply_of.Goals as goal

pub returns-then-named-number-clause-err : goal.returns-then-named-number-clause-err
returns-then-named-number-clause-err c =
    inr (refl, none_other (opcode_number c.args.opcode) c.args.bytes.now c.requires (opcode_small c.args.opcode) (λ e. c.if-named-number.true (c.head-named.ensures.command ∙ e ∙ sym c.number.ensures)))

pub returns-else-is_client-clause-err : goal.returns-else-is_client-clause-err
returns-else-is_client-clause-err c =
    inr (refl, none_for (opcode_number c.args.opcode) c.in-Ok.caller c.in-Ok.reply c.args.bytes.now c.requires c.is_client.ensures.fits (λ e. not_both c.is_client.result (c.is_client.ensures.value.1 e) c.if-is_client.false) c.in-Ok.ensures.spelled c.in-Ok.ensures.size)

pub returns-in-Err-Bad-clause-err : goal.returns-in-Err-Bad-clause-err
returns-in-Err-Bad-clause-err c =
    inr (refl, none_broken (opcode_number c.args.opcode) c.args.bytes.now c.in-Err-Bad.field-0-0 c.in-Err-Bad.field-0 c.in-Err-Bad.field-0-is c.requires (opcode_small c.args.opcode) c.in-Err-Bad.ensures.bad)
