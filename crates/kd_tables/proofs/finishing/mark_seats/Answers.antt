-- The walk goes over all connections.
use Rattle.std.proofs.Common.{◌≤◌, length, subst, arith}
use Rattle.std.proofs.lemmas.List.{take_all}
use Rattle.kd_tables.specs.Room.{seats_on}
use Rattle.kd_tables.proofs.Marks.{AreMarked, all_set}
use Rattle.kd_tables.proofs.finishing.mark_seats.Goals as goal

pub returns : goal.returns
returns c =
    let cs = c.args.conns.now in
    let far : length cs ≤ c.conns.conn-index = omega (arith, c.conns-test.false) in
    let all : AreMarked c.conns.marks c.args.marks.now (seats_on cs c.args.endpoint) =
    subst (λ xs. AreMarked c.conns.marks c.args.marks.now (seats_on xs c.args.endpoint)) (take_all c.conns.conn-index cs far) c.conns.invariant in
    all_set c.conns.marks c.args.marks.now (seats_on cs c.args.endpoint) all
