use Rattle.std.proofs.Common.{ap, ◌∙◌}
use Rattle.std.specs.Prelude.{not}
use Rattle.std.specs.List.{position_or_len}
use Rattle.kd_registry.specs.declared.claim.Claim.{Claim}
use Rattle.kd_registry.specs.Claims.{is_on}
use Rattle.kd_registry.proofs.Spans.{counted}
use Rattle.kd_registry.proofs.search.span_of.Goals as goal

pub returns : goal.returns
returns c =
    let n = c.args.name.now in
    record {
      start = c.start_of-start.ensures.place;
      count = c.count_on.ensures
          ∙ ap (position_or_len (λ (d : Claim). not (is_on n d))) c.split_at.ensures.back
          ∙ counted c.args.claims.now n c.start_of-start.result c.requires c.start_of-start.ensures.place;
    }
