use Rattle.std.proofs.Common.{◌≡◌, true, false, [], ◌++◌, ap, sym, ◌∙◌}
use Rattle.kd_types.specs.Words.{those}
use Rattle.kd_policy.specs.Level.{is_for}
use Rattle.kd_policy.specs.Policy.{Held, is_in, part_of}
use Rattle.kd_policy.specs.Granted.{and_these, and_among}
use Rattle.kd_policy.specs.Marks.{mark_is_set, mark_of}
use Rattle.kd_policy.proofs.Marking.{unmarked}
use Rattle.kd_policy.proofs.Granting.{none_found, part_in, part_out}
use Rattle.kd_policy.proofs.holding.Holding.grant.Goals as goal

pub returns-then-not-has : goal.returns-then-not-has
returns-then-not-has c =
    let text = c.args.front.now ++ c.args.back.now in
    let out : is_in c.args.scope c.args.self.now.owner ≡ false = ap (λ (h : Held). is_in c.args.scope h.owner) (sym c.self.view_is) ∙ sym c.if-not-has.ensures in
    none_found c.args.found text c.args.uid c.args.gid ∙ ap (λ es. and_among c.args.found es text c.args.uid c.args.gid) (sym (part_out c.args.scope c.args.self.now out))

pub returns-then-not-has-2 : goal.returns-then-not-has-2
unfolding and_among
returns-then-not-has-2 c =
    let text = c.args.front.now ++ c.args.back.now in
    let inside : is_in c.args.scope c.args.self.now.owner ≡ true = ap (λ (h : Held). is_in c.args.scope h.owner) (sym c.self.view_is) ∙ sym c.if-not-has.ensures in
    let whole : part_of c.args.scope c.args.self.now ≡ c.self.inside.entries.items = part_in c.args.scope c.args.self.now inside ∙ ap (λ (h : Held). h.entries) (sym c.self.view_is) in
    let unset : mark_is_set c.self.inside.marks.words (mark_of text) ≡ false = ap (mark_is_set c.self.inside.marks.words) (sym c.requires.marked) ∙ sym c.if-not-has-2.ensures in
    let none : those (is_for text) (part_of c.args.scope c.args.self.now) ≡ [] = ap (those (is_for text)) whole ∙ unmarked c.self.inside.marks.words text c.self.inside.entries.items c.self.invariant.1 unset in
    none_found c.args.found text c.args.uid c.args.gid ∙ ap (λ es. and_these c.args.found es c.args.uid c.args.gid) (sym none)

pub returns : goal.returns
unfolding and_among
returns c =
    let text = c.args.front.now ++ c.args.back.now in
    let inside : is_in c.args.scope c.args.self.now.owner ≡ true = ap (λ (h : Held). is_in c.args.scope h.owner) (sym c.self.view_is) ∙ sym c.if-not-has.ensures in
    let whole : part_of c.args.scope c.args.self.now ≡ c.self.inside.entries.items = part_in c.args.scope c.args.self.now inside ∙ ap (λ (h : Held). h.entries) (sym c.self.view_is) in
    c.and.ensures ∙ ap (λ es. and_these c.args.found es c.args.uid c.args.gid) (c.entries_for.ensures ∙ ap (those (is_for text)) (c.as_slice.ensures.value ∙ sym whole))
