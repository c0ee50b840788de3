-- The new connection has a seat as well.
use Rattle.std.proofs.Common.{arith}
use Rattle.kd_model.proofs.Lists.{all_of_put}
use Rattle.kd_commands.specs.State.{sits_before}
use Rattle.kd_tables.specs.Room.{HasWords, IsSeated}
use Rattle.kd_tables.proofs.desk.Desk.seat.Goals as goal

pub invariant_of-self : goal.invariant_of-self
invariant_of-self c = record {
  size = c.self.invariant.size;
  conns = omega (arith, c.self.invariant.conns, c.seat_conn.ensures.room);
  seats = rw c.seat_conn.ensures.put (all_of_put IsSeated sits_before c.args.conn c.self.inside.conns.items c.requires.seat c.self.invariant.seats);
  words = rw c.seat_conn.ensures.put (all_of_put HasWords sits_before c.args.conn c.self.inside.conns.items c.requires.words c.self.invariant.words);
}
