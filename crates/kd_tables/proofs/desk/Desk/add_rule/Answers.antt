-- The size of the filters stays.
use Rattle.std.proofs.Common.{◌≡◌, Result, Ok, Err, sym, ap, ◌∙◌}
use Rattle.std.specs.Prelude.{OnOk}
use Rattle.kd_types.specs.declared.refusal.Refusal.{Refusal}
use Rattle.kd_match.specs.Rules.{Table, with_rule}
use Rattle.kd_tables.proofs.desk.Desk.add_rule.Goals as goal

-- what holds of a call that succeeded
when_ok : {X P : Type 0} (r : Result X Refusal) (x : X) → r ≡ Ok x → OnOk r P → P
when_ok (Ok y) x e f = f
when_ok (Err why) x e f = absurd cc

pub invariant_of-self : goal.invariant_of-self
unfolding with_rule
invariant_of-self c = record {
  size = c.self.invariant.size ∙ sym (ap (λ (t : Table). t.size) (when_ok c.add.result _ c.unwrap.ensures c.add.ensures.added));
  conns = c.self.invariant.conns;
  seats = c.self.invariant.seats;
  words = c.self.invariant.words;
}
