-- Whose each thing of a desk is: a live connection of the right kind, or an endpoint that is there.
use Rattle.std.specs.Prelude.{ℕ, ◌-◌, Bool, true, false, ◌&&◌, ◌||◌, List, ◌==◌, get_or, is_some, None}
use Rattle.kd_model.specs.Words.{some_of}
use Rattle.kd_endpoint.specs.Labels.{Labels, is_number}
use Rattle.kd_policy.specs.declared.owner.Owner.{Owner}
use Rattle.kd_policy.specs.declared.owner.Owner.TheVariants as owner
use Rattle.kd_registry.specs.declared.claim.Claim.{Claim}
use Rattle.kd_registry.specs.Claims.{is_ordinary_claim}
use Rattle.kd_commands.specs.declared.conn.Conn.{Conn}
use Rattle.kd_commands.specs.State.{has_id, is_activator, is_holder, is_ordinary}

-- a connection of the id is among these, and passes the test
abbrev pub lives : (Conn → Bool) → List Conn → ℕ → Bool
lives test cs id = some_of (λ (c : Conn). has_id id c && test c) cs

-- it sends, and has rules and seals
abbrev pub sends : Conn → Bool
sends c = is_ordinary c.kind

-- it may be asked: an ordinary connection, or an activator, for whoever takes its name
abbrev pub is_asked : Conn → Bool
is_asked c = is_ordinary c.kind || is_activator c.kind

-- it has policy entries
abbrev pub has_policy : Conn → Bool
has_policy c = is_holder c.kind

-- an activator has its own claim alone, and ordinary connections have the others
abbrev pub may_claim : Claim → Conn → Bool
may_claim x c =
    elim (is_ordinary_claim x) [ true ↦ is_ordinary c.kind | false ↦ is_activator c.kind ]

-- an endpoint beside the default one is there
abbrev pub is_there : Labels → ℕ → Bool
is_there labels e = is_number e && is_some (get_or labels (e - 1) None)

-- the default one always is
abbrev pub is_reached : Labels → Conn → Bool
is_reached labels c = c.endpoint == 0 || is_there labels c.endpoint

-- the owner of policy entries is a live holder, or an endpoint that is there
abbrev pub owns_policy : List Conn → Labels → Owner → Bool
owns_policy cs labels (owner.Conn id) = lives has_policy cs id
owns_policy cs labels (owner.Endpoint e) = is_there labels e
