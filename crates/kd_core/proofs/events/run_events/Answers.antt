use Rattle.std.proofs.Common.{sym, subst, map}
use Rattle.std.specs.Prelude.{IsNone}
use Rattle.kd_world.specs.Runs.{IsReached}
use Rattle.kd_world.specs.Agreed.{HandsAgree}
use Rattle.kd_core.specs.Running.{Running, event_of}
use Rattle.kd_core.specs.Along.{events_run}
use Rattle.kd_core.proofs.Alongs.{held_along, offered_along, paired_along, reached_along}
use Rattle.kd_core.proofs.events.run_events.Goals as goal

pub returns-clause-offered : goal.returns-clause-offered
returns-clause-offered c = λ creator size hashes seat e free.
    offered_along creator size hashes seat c.args.world.now (events_run c.run_all.result (map event_of c.args.events.items)) e c.run_all.ensures.legal
    (subst (λ (x : Running). IsNone x.world.holder) c.run_all.ensures.run free)

pub returns-clause-held : goal.returns-clause-held
returns-clause-held c = λ creator size hashes seat e.
    held_along creator size hashes seat c.args.world.now (events_run c.run_all.result (map event_of c.args.events.items)) e c.run_all.ensures.legal

pub returns-clause-paired : goal.returns-clause-paired
returns-clause-paired c = λ creator size hashes e.
    paired_along creator size hashes c.args.world.now (events_run c.run_all.result (map event_of c.args.events.items)) e c.run_all.ensures.legal

pub returns-clause-hands : goal.returns-clause-hands
returns-clause-hands c = λ f.
    subst (λ (x : Running). IsReached x.world × HandsAgree x.world) (sym c.run_all.ensures.run)
    (reached_along c.args.world.now (events_run c.run_all.result (map event_of c.args.events.items)) c.run_all.ensures.legal f)
