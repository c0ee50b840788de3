-- One item more is read.
use Rattle.std.proofs.Common.{[], ◌∷◌, ◌++◌, refl, sym, ap, ◌∙◌}
use Rattle.std.proofs.lemmas.List.{append-nil}
use Rattle.kd_wire.specs.declared.item.WireItem.{WireItem}
use Rattle.kd_commands.specs.Items.{entries_for}
use Rattle.kd_said.proofs.Accesses.{name_from, no_entry, no_name_said, said_more}
use Rattle.kd_said.proofs.entries.entries_in.Goals as goal
use Rattle.kd_said.proofs.entries.entries_in.Goals.{in-Name, in-Access+in_ok-of-in-Access+in_ok-push-in-Access, in_default}

pub items-preserved : goal.items-preserved
items-preserved c =
    let is = c.args.items.now in
    let i = c.items.item-index in
    let x : WireItem = c.item-item.result in
    let es = c.items.entries.items in
    let n = c.items.name.now in
    elim c.match-item.branch [
      | in-Name w ↦ rw (w.name-is, w.entries-is)
          (said_more is i x es es n w.bytes-name.result.now c.items-test.true c.item-item.is c.items.invariant
          (sym (append-nil es) ∙ ap (λ (y : WireItem). es ++ entries_for n (y ∷ [])) (sym w.in-Name.is))
          (w.bytes-name.ensures ∙ ap (λ (y : WireItem). name_from n (y ∷ [])) (sym w.in-Name.is)))
      | in-Access+in_ok-of-in-Access+in_ok-push-in-Access w ↦ rw (w.name-is, w.entries-is)
          (said_more is i x es w.push.new.self.items n n c.items-test.true c.item-item.is c.items.invariant
          (w.in_ok-push-in-Access.ensures.items ∙ rw (w.in_ok-of-in-Access.ensures.copied, w.subject_named.ensures, w.level_named.ensures, w.in-Access.is) refl)
          (rw w.in-Access.is refl))
      | in_default w ↦ rw (w.name-is, w.entries-is)
          (said_more is i x es es n n c.items-test.true c.item-item.is c.items.invariant
          (sym (append-nil es) ∙ ap (es ++◌) (sym (no_entry n x w.in_default.not-Name w.in_default.not-Access)))
          (no_name_said n x w.in_default.not-Name))
    ]
