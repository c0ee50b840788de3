-- The bytes that a message takes along.
use Rattle.std.proofs.Common.{◌≡◌, ◌≢◌, ◌⊎◌, inl, inr, ℕ, true, false, List, [], ◌∷◌, nat_lt, is_none, Option, Some, None, Result, refl, ap, sym, subst, ◌∙◌}
use Rattle.kd_types.specs.declared.refusal.Refusal.{Refusal}
use Rattle.kd_types.specs.declared.refusal.Refusal.TheVariants as why
use Rattle.kd_model.specs.Words.{first_that_holds}
use Rattle.kd_commands.specs.declared.conn.Conn.{Conn}
use Rattle.kd_commands.specs.declared.sent.Sent.{Sent}
use Rattle.kd_commands.specs.Items.{Named, sealed_among}
use Rattle.kd_commands.specs.Messages.{plain_length}
use Rattle.kd_commands.specs.State.{Desk}
use Rattle.kd_messages.specs.Sending.{Judges, refusals_of_bytes, refusals_of_share, share_of}
use Rattle.kd_messages.proofs.Routed.{passes_on}

-- there are no such bytes
pub no_such_seal : (d : Desk) (s : Conn) (n : Named) (e : Refusal) → (e ≡ why.NoSuchSeal) ⊎ (e ≡ why.OutOfMemory) → (e ≡ why.NoSuchSeal → share_of d s (Some n) ≡ None)
    → e ≢ why.OutOfMemory → first_that_holds (refusals_of_share d s (Some n)) ≡ Some e
no_such_seal d s n e (inl is) gone memory = ap (λ (o : Option (List ℕ)). first_that_holds ((is_none o, why.NoSuchSeal) ∷ [])) (gone is) ∙ ap Some (sym is)
no_such_seal d s n e (inr is) gone memory = absurd (memory is)

pub some_share : (d : Desk) (s : Conn) (n : Named) (bytes : List ℕ) → share_of d s (Some n) ≡ Some bytes → first_that_holds (refusals_of_share d s (Some n)) ≡ None
some_share d s n bytes is = ap (λ (o : Option (List ℕ)). first_that_holds ((is_none o, why.NoSuchSeal) ∷ [])) is

-- the length comes before them
pub long_refuses : (d : Desk) (s : Conn) (m : Sent) → nat_lt 65536 (plain_length m) ≡ true → first_that_holds (refusals_of_bytes d s m) ≡ Some why.TooLong
long_refuses d s m long = rw long refl

pub short_judges : {X : Type 0} (d : Desk) (s : Conn) (m : Sent) (named : Option Named) (r : Result X Refusal) → nat_lt 65536 (plain_length m) ≡ false → named ≡ sealed_among m.items
    → Judges (refusals_of_share d s named) r → Judges (refusals_of_bytes d s m) r
short_judges d s m named r short is judged =
    passes_on ((nat_lt 65536 (plain_length m), why.TooLong) ∷ []) (refusals_of_share d s (sealed_among m.items)) r (rw short refl)
    (subst (λ (n : Option Named). Judges (refusals_of_share d s n) r) is judged)
