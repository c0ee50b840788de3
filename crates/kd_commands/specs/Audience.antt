-- What is told to more than one, and who is shown it.
use Rattle.std.specs.Prelude.{ℕ, Bool, true, false, not, ◌&&◌, ◌||◌, List, ◌==◌, Option, Some, None, [], ◌∷◌}
use Rattle.kd_model.specs.Words.{those}
use Rattle.kd_registry.specs.Changes.{names_of}
use Rattle.kd_types.specs.declared.owner_change.OwnerChange.{OwnerChange}
use Rattle.kd_match.specs.Rules.{admits}
use Rattle.kd_match.specs.Told as told
use Rattle.kd_match.specs.Told.{Told}
use Rattle.kd_image.specs.declared.notice.Notice.{Notice}
use Rattle.kd_image.specs.declared.notice.Notice.TheVariants as notice
use Rattle.kd_commands.specs.declared.conn.Conn.{Conn}
use Rattle.kd_registry.specs.declared.claim.Claim.{Claim}
use Rattle.kd_registry.specs.Claims.{owner_id}
use Rattle.kd_commands.specs.State.{Desk, is_ordinary, is_monitor, has_id}
use Rattle.kd_commands.specs.Items.{Filter}
use Rattle.kd_commands.specs.Rights.{may_see_name, may_talk}

-- a broadcast; or what the bus tells by itself: an id that came or went, a name's new owner (0 for
-- none), the end of a request
pub data Subject : Type 0 where
  broadcast : (sender : Conn) (filter : Filter) → Subject
  id_add : (id : ℕ) → Subject
  id_remove : (id : ℕ) → Subject
  new_owner : (change : OwnerChange) → Subject
  reply_timeout : (asker cookie : ℕ) → Subject
  reply_dead : (asker cookie : ℕ) → Subject

-- by whether there was an owner, and whether there is one
abbrev pub change_told : OwnerChange → Told
change_told c =
    elim (c.old == 0) [
      | true ↦ told.name_add c.old c.new c.name
      | false ↦ elim (c.new == 0) [
        | true ↦ told.name_remove c.old c.new c.name
        | false ↦ told.name_change c.old c.new c.name
      ]
    ]

-- some rule of the connection admits it
abbrev pub asks_for : Desk → Conn → Told → Bool
asks_for d c t = admits d.rules c.id t

-- an id's notice goes to those that came by the default endpoint
abbrev pub sees_ids : Conn → ℕ → Bool
sees_ids c id = c.endpoint == 0 && not (c.id == id)

-- whether an ordinary connection is shown it
unfoldable pub is_shown : Desk → Subject → Conn → Bool
is_shown d (broadcast s f) c =
    not (c.id == s.id) && may_talk d c s
    && asks_for d c (told.message s.id (names_of d.registry s.id) f.bits f.generation)
is_shown d (id_add id) c = sees_ids c id && asks_for d c (told.id_add id)
is_shown d (id_remove id) c = sees_ids c id && asks_for d c (told.id_remove id)
is_shown d (new_owner change) c = may_see_name d c change.name && asks_for d c (change_told change)
is_shown d (reply_timeout asker cookie) c = false
is_shown d (reply_dead asker cookie) c = false

-- the one that asked, of whatever kind it is now
abbrev pub is_asker : Subject → Conn → Bool
is_asker (reply_timeout asker cookie) c = has_id asker c
is_asker (reply_dead asker cookie) c = has_id asker c
is_asker _ c = false

-- all live monitors are told, and whoever is shown it
abbrev pub is_told : Desk → Subject → Conn → Bool
is_told d s c = is_monitor c.kind || is_asker s c || (is_ordinary c.kind && is_shown d s c)

-- by rising seat
unfoldable pub audience : Desk → Subject → List Conn
audience d s = those (is_told d s) d.conns

-- what is told of a name after a change of its claims: its new owner, where that is another
abbrev pub owner_change : List Claim → List Claim → List ℕ → List Subject
owner_change before after n =
    elim (owner_id before n == owner_id after n) [
      | true ↦ []
      | false ↦ new_owner (record { name = n; old = owner_id before n; new = owner_id after n })
          ∷ []
    ]

-- the notice of a name's new owner
abbrev pub owner_notice : OwnerChange → Notice
owner_notice c =
    elim (c.old == 0) [
      | true ↦ notice.NameAdd c.old c.new c.name
      | false ↦ elim (c.new == 0) [
        | true ↦ notice.NameRemove c.old c.new c.name
        | false ↦ notice.NameChange c.old c.new c.name
      ]
    ]

-- a notice, and the id that its image names as destination where it isn't told to all
pub record Telling : Type 0 where
  pub notice : Notice
  pub dst : ℕ

-- a broadcast is no notice
abbrev pub telling : Subject → Option Telling
telling (broadcast s f) = None
telling (id_add id) = Some (record { notice = notice.IdAdd id; dst = 0 })
telling (id_remove id) = Some (record { notice = notice.IdRemove id; dst = 0 })
telling (new_owner change) = Some (record { notice = owner_notice change; dst = 0 })
telling (reply_timeout asker cookie) =
    Some (record { notice = notice.ReplyTimeout cookie; dst = asker })
telling (reply_dead asker cookie) = Some (record { notice = notice.ReplyDead cookie; dst = asker })
