use Rattle.std.proofs.Common.{◌+◌, ◌*◌, arith, sym, ap, subst, ◌∙◌}
use Rattle.kd_item.proofs.Words.{IsBytes, IsBytes-drop}
use Rattle.kd_wire.specs.Refusals.{own_words, flaw_of}
use Rattle.kd_wire.proofs.Accepted.{accepted, well_formed, spelled_so}
use Rattle.kd_wire.proofs.TypedRead.{typed_of, items_typed}
use Rattle.kd_wire.proofs.reading.read_as.Goals as goal

pub command_of-requires-clause-parts : goal.command_of-requires-clause-parts
command_of-requires-clause-parts c =
    let no_flaw = ap (flaw_of c.args.opcode c.word_at-flags.result (own_words c.args.opcode c.split_at-2.result.1.now)) (sym c.deref.ensures.value) ∙ sym c.in_default.ensures in
    let a = accepted c.args.opcode c.args.frame.now c.in_ok-items.items.items c.kinds_of.result.now (32 + 8 * c.words.result) c.word_at-flags.result c.split_at.result.1.now c.split_at-2.result.1.now
    (λ i. omega (arith, c.type_inv.frame i)) c.requires.frame c.requires.command (sym c.has_broken_words.ensures ∙ c.if-has_broken_words.false) c.word_at-flags.ensures (ap (λ n. 32 + 8 * n) c.words.ensures.value) c.kinds_of.ensures c.split_at.ensures.back c.split_at-2.ensures.back c.in_ok-items.ensures.ok no_flaw in
    a.form

pub returns-clause-spelled : goal.returns-clause-spelled
returns-clause-spelled c =
    let no_flaw = ap (flaw_of c.args.opcode c.word_at-flags.result (own_words c.args.opcode c.split_at-2.result.1.now)) (sym c.deref.ensures.value) ∙ sym c.in_default.ensures in
    let a = accepted c.args.opcode c.args.frame.now c.in_ok-items.items.items c.kinds_of.result.now (32 + 8 * c.words.result) c.word_at-flags.result c.split_at.result.1.now c.split_at-2.result.1.now
    (λ i. omega (arith, c.type_inv.frame i)) c.requires.frame c.requires.command (sym c.has_broken_words.ensures ∙ c.if-has_broken_words.false) c.word_at-flags.ensures (ap (λ n. 32 + 8 * n) c.words.ensures.value) c.kinds_of.ensures c.split_at.ensures.back c.split_at-2.ensures.back c.in_ok-items.ensures.ok no_flaw in
    spelled_so c.args.opcode c.args.frame.now c.head-caller.result.caller c.word_at-flags.result c.split_at-2.result.1.now c.in_ok-items.items.items c.command_of.result c.head-caller.ensures.caller a
    (record { opcode_is = c.command_of.ensures.opcode; flags_is = c.command_of.ensures.flags; words_is = c.command_of.ensures.words; items_is = c.command_of.ensures.items })

pub returns-clause-well_formed : goal.returns-clause-well_formed
returns-clause-well_formed c =
    let no_flaw = ap (flaw_of c.args.opcode c.word_at-flags.result (own_words c.args.opcode c.split_at-2.result.1.now)) (sym c.deref.ensures.value) ∙ sym c.in_default.ensures in
    let a = accepted c.args.opcode c.args.frame.now c.in_ok-items.items.items c.kinds_of.result.now (32 + 8 * c.words.result) c.word_at-flags.result c.split_at.result.1.now c.split_at-2.result.1.now
    (λ i. omega (arith, c.type_inv.frame i)) c.requires.frame c.requires.command (sym c.has_broken_words.ensures ∙ c.if-has_broken_words.false) c.word_at-flags.ensures (ap (λ n. 32 + 8 * n) c.words.ensures.value) c.kinds_of.ensures c.split_at.ensures.back c.split_at-2.ensures.back c.in_ok-items.ensures.ok no_flaw in
    well_formed c.args.opcode c.args.frame.now c.word_at-flags.result c.split_at-2.result.1.now c.in_ok-items.items.items c.command_of.result a
    (record { opcode_is = c.command_of.ensures.opcode; flags_is = c.command_of.ensures.flags; words_is = c.command_of.ensures.words; items_is = c.command_of.ensures.items })

pub returns-clause-typed : goal.returns-clause-typed
returns-clause-typed c =
    let own = subst IsBytes (sym c.split_at-2.ensures.back) (IsBytes-drop 32 c.args.frame.now (λ i. omega (arith, c.type_inv.frame i))) in
    let tail = subst IsBytes (sym c.split_at.ensures.back) (IsBytes-drop (32 + 8 * c.words.result) c.args.frame.now (λ i. omega (arith, c.type_inv.frame i))) in
    typed_of c.command_of.result c.args.opcode c.word_at-flags.result c.split_at-2.result.1.now c.in_ok-items.items.items c.word_at-flags.type_inv own (items_typed _ _ c.split_at.result.1.now c.in_ok-items.items.items tail c.in_ok-items.ensures.ok)
    c.command_of.ensures.flags c.command_of.ensures.words c.command_of.ensures.items c.command_of.ensures.signed
