use Rattle.std.proofs.Common.{inr, refl}
use Rattle.std.proofs.lemmas.Result.{on_ok_weaker}
use Rattle.kd_lines.specs.Commands.{command_line}
use Rattle.kd_lines.proofs.lines.put_frame_line.Goals as goal

pub returns-in-Ok : goal.returns-in-Ok
returns-in-Ok c =
    let e = c.in-Ok.ensures in
    on_ok_weaker c.put_command.result (λ is. (
      command_line c.in-Ok.caller c.in-Ok.command,
      inr (c.in-Ok.caller, c.in-Ok.command, record { spelled = e.spelled; form = e.well_formed; typed = e.typed }, refl),
      is,
    )) c.put_command.ensures
