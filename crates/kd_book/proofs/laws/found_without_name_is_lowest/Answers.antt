use Rattle.kd_book.proofs.Sound as lemmas
use Rattle.kd_book.proofs.laws.found_without_name_is_lowest.Goals as goal

pub returns : goal.returns
returns c = lemmas.lowest_is_found
