use Rattle.std.proofs.Common.{◌≡◌, ℕ, ap, ◌∙◌}
use Rattle.kd_commands.specs.State.{Desk}
use Rattle.kd_commands.specs.Leaving.{ids_of, on_endpoint, without_conns}
use Rattle.kd_tables.specs.Room.{desk_of}
use Rattle.kd_tables.proofs.Gone.{but_endpoint, ended, with_seats}
use Rattle.kd_tables.proofs.desk.Desk.end_endpoint.Goals as goal

pub returns : goal.returns
returns c =
    let d : Desk = c.args.self.now in
    let e : ℕ = c.args.endpoint in
    let left : desk_of c.self.inside ≡ without_conns (with_seats d e) (ids_of (on_endpoint d e)) =
    c.self.view_is ∙ c.leave_all.ensures ∙ ap (λ (y : Desk). without_conns y c.args.leavers.now) c.block_seats.ensures ∙ ap (without_conns (with_seats d e)) c.requires.leavers in
    rw (c.remove.ensures, c.drop_owner.ensures.after) (ap (λ (y : Desk). but_endpoint y e) left ∙ ended d e)
