use Rattle.kd_book.proofs.Sound as lemmas
use Rattle.kd_book.proofs.laws.slots_with_buses_are_odd.Goals as goal

pub returns : goal.returns
returns c = lemmas.slots_are_odd
