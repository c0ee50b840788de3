use Rattle.std.proofs.Common.{[], ◌∷◌, sym, ◌∙◌}
use Rattle.kd_image.proofs.Lengths.{length-item}
use Rattle.kd_image.proofs.notices.notice_len.Goals as goal

pub returns-in-IdAdd-clause-value : goal.returns-in-IdAdd-clause-value
returns-in-IdAdd-clause-value c = rw c.in-IdAdd.is (c.item_len.ensures ∙ sym (length-item 12 (c.in-IdAdd.id ∷ []) []))

pub returns-in-IdRemove-clause-value : goal.returns-in-IdRemove-clause-value
returns-in-IdRemove-clause-value c = rw c.in-IdRemove.is (c.item_len-in-IdRemove.ensures ∙ sym (length-item 13 (c.in-IdRemove.id ∷ []) []))

pub returns-in-NameAdd-clause-value : goal.returns-in-NameAdd-clause-value
returns-in-NameAdd-clause-value c = rw c.in-NameAdd.is (c.item_len-in-NameAdd.ensures ∙ rw c.bytes.ensures (sym (length-item 14 (c.in-NameAdd.old ∷ c.in-NameAdd.new ∷ []) c.in-NameAdd.name)))

pub returns-in-NameRemove-clause-value : goal.returns-in-NameRemove-clause-value
returns-in-NameRemove-clause-value c = rw c.in-NameRemove.is (c.item_len-in-NameRemove.ensures ∙ rw c.bytes-in-NameRemove.ensures (sym (length-item 15 (c.in-NameRemove.old ∷ c.in-NameRemove.new ∷ []) c.in-NameRemove.name)))

pub returns-in-NameChange-clause-value : goal.returns-in-NameChange-clause-value
returns-in-NameChange-clause-value c = rw c.in-NameChange.is (c.item_len-in-NameChange.ensures ∙ rw c.bytes-in-NameChange.ensures (sym (length-item 16 (c.in-NameChange.old ∷ c.in-NameChange.new ∷ []) c.in-NameChange.name)))

pub returns-in-ReplyTimeout-clause-value : goal.returns-in-ReplyTimeout-clause-value
returns-in-ReplyTimeout-clause-value c = rw c.in-ReplyTimeout.is (c.item_len-in-ReplyTimeout.ensures ∙ sym (length-item 17 [] []))

pub returns-in-ReplyDead-clause-value : goal.returns-in-ReplyDead-clause-value
returns-in-ReplyDead-clause-value c = rw c.in-ReplyDead.is (c.item_len-in-ReplyDead.ensures ∙ sym (length-item 18 [] []))
