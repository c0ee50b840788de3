use Rattle.kd_said.proofs.Accesses.{AreSaid}
use Rattle.kd_said.proofs.entries.entries_in.Given as goal

abbrev pub invariant-items : goal.invariant-items
invariant-items l = AreSaid l.items l.item-index l.entries.items l.name
