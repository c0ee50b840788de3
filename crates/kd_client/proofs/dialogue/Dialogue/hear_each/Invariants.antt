-- The replies to the commands so far.
use Rattle.std.proofs.Common.{◌≡◌, ◌≤◌, ◌+◌, ◌*◌, take, length, vec_capacity}
use Rattle.kd_client.specs.Exchanges.{Heard, paired}
use Rattle.kd_client.proofs.dialogue.Dialogue.hear_each.Given as goal

abbrev pub invariant-commands : goal.invariant-commands
invariant-commands g l = Heard (g.L.Link.told l.initial.self.link).reading (g.L.Link.told l.self.link).reading l.initial.self.read l.self.read (paired (take l.command-index l.commands) l.heard.items)
    × (length l.heard.items ≡ l.command-index)
    × (length l.commands ≤ vec_capacity l.heard)
    × (l.self.read ≤ l.initial.self.read + 2097152 * l.command-index)
    × ((g.L.Link.told l.self.link).writing ≡ (g.L.Link.told l.initial.self.link).writing)
