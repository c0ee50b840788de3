-- A number is used where its span has some bytes.
use Rattle.std.specs.Prelude.{nat_lt}
use Rattle.std.proofs.Common.{ap, ◌∙◌}
use Rattle.kd_links.specs.declared.node.Span.{Span}
use Rattle.kd_links.proofs.Books.{used_is}
use Rattle.std.proofs.Common.{arith}
use Rattle.kd_links.proofs.links.is_used.Goals as goal

pub returns : goal.returns
returns c = ap (λ (s : Span). nat_lt 0 s.len) c.span_inside.ensures ∙ used_is c.args.size c.args.chain.now c.args.number c.requires.kept c.requires.low

pub span_inside-requires : goal.span_inside-requires
span_inside-requires c = omega (arith, c.requires.low, c.requires.kept.count)
