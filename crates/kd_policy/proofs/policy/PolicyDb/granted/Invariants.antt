use Rattle.std.proofs.Common.{◌≡◌, ◌++◌, take}
use Rattle.kd_policy.specs.Granted.{nothing_granted, and_among}
use Rattle.kd_policy.specs.Policy.{list_of}
use Rattle.kd_policy.proofs.policy.PolicyDb.granted.Given as goal

abbrev pub invariant-holdings : goal.invariant-holdings
invariant-holdings l = l.found ≡ and_among nothing_granted (list_of l.scope (take l.holding-index l.holding-items)) (l.front ++ l.back) l.uid l.gid
