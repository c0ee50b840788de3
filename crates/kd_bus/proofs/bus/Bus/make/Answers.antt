use Rattle.std.proofs.Common.{◌≡◌, ℕ, [], sym, subst}
use mathlib.Core.Option.{some}
use lib.ListN.{get_elem?}
use Rattle.kd_histories.proofs.Ties as ties
use Rattle.kd_bus.specs.declared.locked.Locked.{Locked}
use Rattle.kd_bus.specs.Values.{stands}
use Rattle.kd_bus.proofs.Opening.{fresh_rest, stands_at, unaimed_fresh}
use Rattle.kd_bus.proofs.bus.Bus.make.Goals as goal

pub make-requires-clause-stands : goal.make-requires-clause-stands
make-requires-clause-stands c = subst (λ xs. (l : ℕ) → (x : Locked) → get_elem? xs l ≡ some x → stands l [] x) (sym c.in_ok-values.ensures) (stands_at 64)

pub make-requires-clause-tie : goal.make-requires-clause-tie
make-requires-clause-tie c = ties.opening_tie

pub make-requires-clause-none_out : goal.make-requires-clause-none_out
make-requires-clause-none_out c = ties.none_out

pub unaimed-requires : goal.unaimed-requires
unaimed-requires c = record { rest = fresh_rest c.in_ok-gate.gate.id c.in_ok-gate.passes.items c.in_ok-gate.ensures.fresh }

pub returns-clause-fresh : goal.returns-clause-fresh
returns-clause-fresh c = λ k p e. unaimed_fresh c.in_ok-gate.gate.id c.in_ok-gate.passes.items c.in_ok-gate.ensures.fresh k p (subst (λ xs. get_elem? xs k ≡ some p) c.in_ok-passes.ensures e)
