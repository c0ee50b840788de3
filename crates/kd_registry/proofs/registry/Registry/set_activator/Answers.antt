use Rattle.std.proofs.Common.{◌≡◌, length, ap, sym, refl, ◌∙◌, arith, false}
use Rattle.kd_model.specs.Words.{some_of}
use Rattle.kd_registry.specs.declared.claim.Stake.TheVariants.{Activator}
use Rattle.kd_registry.specs.Claims.{activator_answer, is_placeholder, ranks}
use Rattle.kd_registry.proofs.Answered.{activated_none}
use Rattle.kd_registry.proofs.Kept.{activates_ranked}
use Rattle.kd_registry.proofs.registry.Registry.set_activator.Goals as goal

pub invariant_of-self : goal.invariant_of-self
invariant_of-self c =
    let r = c.self.inside.book in
    let n = c.args.name in
    let none : some_of is_placeholder (ranks r n) ≡ false = activated_none r n _ (c.in_ok-span.ensures.ok ∙ ap (λ m. activator_answer r m) c.bytes.ensures) in
    (rw c.put_last.ensures.items (activates_ranked r (record { name = n; id = c.args.id; stake = Activator }) refl c.self.invariant.0 none), omega (arith, c.put_last.ensures.len, c.requires.room, ap length c.self.view_is))
