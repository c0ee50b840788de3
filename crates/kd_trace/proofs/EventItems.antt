-- Items whose event isn't a take's.
use Rattle.std.proofs.Common.{◌≡◌, ℕ, List, sym, ap, ◌∙◌, Option, Some, None}
use Rattle.std.specs.Prelude.{IfNone, IfSome, option_map}
use Rattle.kd_model.proofs.Truth.{no_some}
use Rattle.kd_item.specs.Spelling.{Entry}
use Rattle.kd_item.proofs.Words.{IsBytes}
use Rattle.kd_world.specs.Legal.{Event}
use Rattle.kd_core.specs.declared.event.Event as code
use Rattle.kd_core.specs.Running.{event_of}
use Rattle.kd_trace.specs.Items.{IsEventItem, IsNoEvent, event_entry}
use Rattle.kd_trace.specs.Reading.{event_in}
use Rattle.kd_trace.proofs.EventsBack.{event_back, item}
use Rattle.kd_trace.proofs.EventsAgain.{event_again}
use Rattle.kd_trace.proofs.Takes.{not_take}

-- what an item that isn't read is not
pub no_event : (kind : ℕ) (body : List ℕ) → (kind ≡ 32 → ⊥) → event_in kind body ≡ None → (e : Event) → IsEventItem (record { kind = kind; body = body }) e → ⊥
no_event kind body other none e i =
    let read = event_again e i.stands (not_take kind body e other i) in
    let same : event_in kind body ≡ event_in (event_entry e).kind (event_entry e).body = ap (λ (j : Entry). event_in j.kind j.body) i.spelled in
    no_some (sym none ∙ same ∙ read)

-- an item whose event isn't a take's
pub other_read : (kind : ℕ) (body : List ℕ) (o : Option code.Event) → IsBytes body → option_map event_of o ≡ event_in kind body → IfSome o (λ e. IsEventItem (item kind body) (event_of e))
other_read kind body None fits is = tt
other_read kind body (Some e) fits is = event_back kind body (event_of e) fits (sym is)

pub other_none : (kind : ℕ) (body : List ℕ) (o : Option code.Event) → (kind ≡ 32 → ⊥) → option_map event_of o ≡ event_in kind body → IfNone o (IsNoEvent (item kind body))
other_none kind body (Some e) other is = tt
other_none kind body None other is = no_event kind body other (sym is)
