use Rattle.kd_book.proofs.Sound as lemmas
use Rattle.kd_book.proofs.laws.names_are_distinct.Goals as goal

pub returns : goal.returns
returns c = lemmas.names_are_distinct
