use Rattle.std.proofs.Common.{length, ◌≡◌, ◌+◌, ◌⊎◌, IsTrue}
use Rattle.kd_seal.specs.Book.{next_number, has_counted}
use Rattle.kd_part_tests.proofs.seals.a_connection_seals_sixteen_and_counts_on.Given as goal

abbrev pub invariant-sealing : goal.invariant-sealing
invariant-sealing g l = (length l.seals.seals ≡ l.i) × (next_number l.seals 1 ≡ l.i + 1) × (IsTrue (has_counted l.seals 1) ⊎ (length l.seals.counters ≡ 0))
