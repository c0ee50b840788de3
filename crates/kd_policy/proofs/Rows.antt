-- Worked examples: what the definitions say of a few policies.
use Rattle.std.proofs.Common.{◌≡◌, ℕ, List, [], ◌∷◌, Some, None, refl}
use Rattle.std.specs.Prelude.{codes}
use Rattle.kd_types.specs.declared.creds.Level.{Level}
use Rattle.kd_types.specs.declared.creds.Level.TheVariants.{See, Talk, Own}
use Rattle.kd_types.specs.declared.refusal.Refusal.TheVariants.{BadFlags}
use Rattle.kd_policy.specs.declared.entry.Entry.{Entry}
use Rattle.kd_policy.specs.declared.entry.Subject.{Subject}
use Rattle.kd_policy.specs.declared.entry.Subject.TheVariants.{User, World}
use Rattle.kd_policy.specs.declared.owner.Owner.TheVariants as owner
use Rattle.kd_policy.specs.Level.{level_of}
use Rattle.kd_policy.specs.Policy.{put_refusal}

abbrev entry : List ℕ → Subject → Level → Entry
entry pattern subject level = record { pattern = pattern; subject = subject; level = level }

abbrev star : List Entry
star = entry (codes "foo.bar.*") World Talk ∷ []

one_element_more : level_of star (codes "foo.bar.baz") 1001 1001 ≡ Some Talk
unfolding level_of
one_element_more = refl

two_elements_more : level_of star (codes "foo.bar.baz.baz") 1001 1001 ≡ None
unfolding level_of
two_elements_more = refl

no_element_more : level_of star (codes "foo.bar") 1001 1001 ≡ None
unfolding level_of
no_element_more = refl

abbrev hiding : List Entry
hiding = entry (codes "a.*") World Own ∷ entry (codes "a.b") (User 5) See ∷ []

hidden : level_of hiding (codes "a.b") 6 1 ≡ None
unfolding level_of
hidden = refl

not_hidden : level_of hiding (codes "a.c") 6 1 ≡ Some Own
unfolding level_of
not_hidden = refl

of_the_user : level_of hiding (codes "a.b") 5 1 ≡ Some See
unfolding level_of
of_the_user = refl

for_a_holder : put_refusal (owner.Conn 3) star ≡ None
unfolding put_refusal
for_a_holder = refl

for_an_endpoint : put_refusal (owner.Endpoint 1) star ≡ Some BadFlags
unfolding put_refusal
for_an_endpoint = refl
