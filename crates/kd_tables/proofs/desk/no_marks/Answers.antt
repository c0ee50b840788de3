use Rattle.kd_tables.proofs.Marks.{none_marked}
use Rattle.kd_tables.proofs.desk.no_marks.Goals as goal

pub returns : goal.returns
returns c = none_marked
