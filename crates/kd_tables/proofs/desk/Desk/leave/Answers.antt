-- Without all that one connection has.
use Rattle.std.proofs.Common.{arith, refl, sym, ap, ◌∙◌}
use Rattle.kd_model.proofs.Lists.{all_of_filter}
use Rattle.kd_commands.specs.Leaving.{without_conns}
use Rattle.kd_tables.specs.Room.{HasWords, IsSeated}
use Rattle.kd_commands.proofs.Gone.{conns_without, claims_without, requests_without}
use Rattle.kd_tables.proofs.desk.Desk.leave.Goals as goal

pub invariant_of-self : goal.invariant_of-self
invariant_of-self c = record {
  size = c.self.invariant.size ∙ sym (ap (λ t. t.size) c.drop_conn-2.ensures);
  conns = omega (arith, c.self.invariant.conns, c.remove_conn.ensures.room);
  seats = rw c.remove_conn.ensures.others (all_of_filter IsSeated _ c.self.inside.conns.items c.self.invariant.seats);
  words = rw c.remove_conn.ensures.others (all_of_filter HasWords _ c.self.inside.conns.items c.self.invariant.words);
}

pub returns : goal.returns
unfolding without_conns
returns c = rw (← c.self.view_is, conns_without c.args.id c.self.inside.conns.items, claims_without c.args.id c.self.inside.registry, requests_without c.args.id c.self.inside.replies, c.remove_conn.ensures.others, c.drop_owner.ensures.after, c.drop_conn.ensures, c.drop_conn-2.ensures, c.drop_conn-3.ensures, c.drop_conn-4.ensures) refl
