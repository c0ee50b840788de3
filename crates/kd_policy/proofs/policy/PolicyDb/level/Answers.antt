use Rattle.std.proofs.Common.{[], ◌++◌, Some, None, codes, sym, ◌∙◌, append-nil}
use Rattle.kd_policy.specs.Policy.{list_of, level_in}
use Rattle.kd_policy.proofs.Levels.{told_exact, told_wild, told_neither, with_star}
use Rattle.kd_policy.proofs.policy.PolicyDb.level.Goals as goal

pub returns-then-exact : goal.returns-then-exact
unfolding level_in
returns-then-exact c =
    told_exact (list_of c.args.scope c.args.self.now) c.args.name.now (c.args.name.now ++ []) c.args.uid c.args.gid c.granted-exact.result c.granted-exact.ensures (append-nil c.args.name.now) c.if-exact.true

pub returns-in_err-parent : goal.returns-in_err-parent
unfolding level_in
returns-in_err-parent c =
    c.from_residual.ensures ∙ sym (told_neither (list_of c.args.scope c.args.self.now) c.args.name.now (c.args.name.now ++ []) c.args.uid c.args.gid c.granted-exact.result c.granted-exact.ensures (append-nil c.args.name.now) c.if-exact.false (with_star c.args.name.now None c.in_err-parent.ensures))

pub returns : goal.returns
unfolding level_in
returns c =
    told_wild (list_of c.args.scope c.args.self.now) c.args.name.now (c.args.name.now ++ []) (c.in_ok-parent.parent.now ++ codes ".*") c.args.uid c.args.gid c.granted-exact.result c.granted.result c.granted-exact.ensures (append-nil c.args.name.now) c.if-exact.false (with_star c.args.name.now (Some c.in_ok-parent.parent.now) c.in_ok-parent.ensures) c.granted.ensures
