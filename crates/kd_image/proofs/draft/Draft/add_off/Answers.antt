use Rattle.std.proofs.Common.{rules, arith}
use Rattle.kd_image.proofs.Read.{beyond}
use Rattle.kd_image.proofs.draft.Draft.add_off.Goals as goal

pub returns-in_default-clause-ok : goal.returns-in_default-clause-ok
returns-in_default-clause-ok c = beyond c.args.size c.args.self.now c.args.body.now (search rules) (search rules) (search rules) (λ i. omega (arith, c.type_inv.body i))
