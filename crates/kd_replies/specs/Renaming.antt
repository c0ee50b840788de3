-- A request whose replier got another id.
use Rattle.std.specs.Prelude.{ℕ, true, false, ◌==◌}
use Rattle.kd_replies.specs.declared.request.Request.{Request}

-- the replier has another id
abbrev pub renamed : ℕ → ℕ → Request → Request
renamed old new q = elim (q.replier == old) [ true ↦ record q { replier = new } | false ↦ q ]
