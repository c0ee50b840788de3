-- Notice by notice, and a monitor leaves unnoticed.
use Rattle.std.proofs.Common.{◌≡◌, ◌∙◌, sym, ap, List, [], ◌∷◌, ◌++◌}
use Rattle.kd_commands.specs.State.{Desk, is_monitor}
use Rattle.kd_tables.specs.Drafts.{parts_with}
use Rattle.kd_commands.specs.Leaving.{without_conns}
use Rattle.kd_commands.specs.Plans.{notices, Part}
use Rattle.kd_desk.proofs.Leaves.{monitor_told, not_monitor, other_told, owners_gone, repliers_gone}
use Rattle.kd_desk.proofs.leaving.tell_leave.Goals as goal

pub returns-in-Monitor : goal.returns-in-Monitor
returns-in-Monitor c =
    let d : Desk = c.args.desk.now in
    let after : Desk = without_conns d (c.args.conn.now.id ∷ []) in
    let first : List Part = parts_with [] c.args.parts.now.items in
    let owners : parts_with [] c.tell_owners.new.parts.items ≡ first ++ notices after (owners_gone d c.args.conn.now.id) = c.in_ok-tell_owners.ensures {u = tt} in
    let dead : parts_with [] c.tell_dead.new.parts.items ≡ parts_with [] c.tell_owners.new.parts.items ++ notices after (repliers_gone d c.args.conn.now.id) = c.in_ok-tell_dead.ensures {u = tt} in
    dead ∙ ap (λ (ps : List Part). ps ++ notices after (repliers_gone d c.args.conn.now.id)) owners ∙ sym (monitor_told d after c.args.conn.now first (ap is_monitor c.in-Monitor.is))

pub returns-in-Ordinary : goal.returns-in-Ordinary
returns-in-Ordinary c =
    let d : Desk = c.args.desk.now in
    let after : Desk = without_conns d (c.args.conn.now.id ∷ []) in
    let first : List Part = parts_with [] c.args.parts.now.items in
    let owners : parts_with [] c.tell_owners.new.parts.items ≡ first ++ notices after (owners_gone d c.args.conn.now.id) = c.in_ok-tell_owners.ensures {u = tt} in
    let dead : parts_with [] c.tell_dead.new.parts.items ≡ parts_with [] c.tell_owners.new.parts.items ++ notices after (repliers_gone d c.args.conn.now.id) = c.in_ok-tell_dead.ensures {u = tt} in
    rw (other_told d after c.args.conn.now first (not_monitor c.args.conn.now.kind c.in-Ordinary.is), ← owners, ← dead) c.tell.ensures
