-- An offer with its content is one part more, and each offer still has its content.
use Rattle.std.proofs.Common.{◌≡◌, ◌++◌, ◌∷◌, [], List, length, length-append, ap, ◌∙◌, Some, arith, if◌then◌else◌, is_ok}
use Rattle.kd_model.proofs.Lists.{all_of_push}
use Rattle.kd_tables.specs.Drafts.{IsVisitable, part_with, parts_with}
use Rattle.kd_messages.proofs.Offering.{contents_more, parts_more}
use Rattle.kd_messages.proofs.offers.Offers.push.Goals as goal

pub invariant_of-self : goal.invariant_of-self
invariant_of-self c = rw c.in_err-reserve.ensures.items c.self.invariant

pub invariant_of-self-2 : goal.invariant_of-self-2
invariant_of-self-2 c =
    let cs = c.self.inside.contents.items in
    let ps = c.self.inside.parts.items in
    let content = c.args.content in
    let part = c.args.part in
    let more : c.push-2.new.self.items ≡ ps ++ part ∷ [] =
    c.push-2.ensures.items
    ∙ ap (λ r. if is_ok r then c.reserve.new.self.items ++ part ∷ [] else c.reserve.new.self.items) c.unwrap.ensures
    ∙ ap (λ (l : List _). l ++ part ∷ []) c.in_ok-reserve.ensures.items in
    let same : length cs ≡ length ps = c.self.invariant.0 in
    let long : length (cs ++ Some content ∷ []) ≡ length (ps ++ part ∷ []) = omega (arith, same, length-append cs (Some content ∷ []), length-append ps (part ∷ [])) in
    rw (more, c.in_ok-push.ensures.items) (
      long,
      all_of_push IsVisitable ps part c.self.invariant.1 c.requires.visitable,
      contents_more cs ps content part same c.requires.offer c.self.invariant.2,
    )

pub returns : goal.returns
returns c =
    let cs = c.self.inside.contents.items in
    let ps = c.self.inside.parts.items in
    let last = c.args.part ∷ [] in
    let more : c.push-2.new.self.items ≡ ps ++ last =
    c.push-2.ensures.items
    ∙ ap (λ r. if is_ok r then c.reserve.new.self.items ++ last else c.reserve.new.self.items) c.unwrap.ensures
    ∙ ap (λ (l : List _). l ++ last) c.in_ok-reserve.ensures.items in
    ap (λ (l : List _). parts_with l c.push-2.new.self.items) c.in_ok-push.ensures.items
    ∙ ap (parts_with (cs ++ Some c.args.content ∷ [])) more
    ∙ parts_more cs ps (Some c.args.content) c.args.part c.self.invariant.0
    ∙ ap (λ (l : List _). l ++ part_with (Some c.args.content) c.args.part ∷ []) c.self.view_is
