-- What a holder leaves behind, by its plan and the answers to its visits.
use Rattle.std.specs.Prelude.{◌≡◌, ◌++◌, ℕ, List, [], ◌∷◌, drop, Option, Some, None, get_or, unwrap_or}
use Rattle.kd_acts.specs.State.{Content, Hold}
use Rattle.kd_tables.specs.declared.part.Part as code
use Rattle.kd_tables.specs.declared.part.Part.TheVariants as part
use Rattle.kd_tables.specs.declared.part.Out.{Out}
use Rattle.kd_tables.specs.declared.part.Out.TheVariants as out
use Rattle.kd_tables.specs.Drafts.{Draft, content_at, empty_content}
use Rattle.kd_holds.specs.declared.holder.Holder as holder
use Rattle.kd_world.specs.State.{Pending, closed_pool}

-- the seat of an offer that was placed, and the slice that was reserved there
abbrev pub offer_placed : code.Part → Out → Option (ℕ × ℕ)
offer_placed (part.Offer seat user len from must) (out.Slice n) = Some (seat, n)
offer_placed _ _ = None

-- it is pending, with its content
abbrev pub pending_kept : List Hold → Option Content → Option (ℕ × ℕ) → List Pending
pending_kept pools c None = []
pending_kept pools c (Some x) =
    record {
      seat = x.0;
      generation = (get_or pools x.0 closed_pool).generation;
      number = x.1;
      content = unwrap_or c empty_content;
    }
    ∷ []

-- part by part
abbrev pub all_kept : List Hold → List (Option Content) → List code.Part → List Out → List Pending
all_kept pools cs [] outs = []
all_kept pools cs (p ∷ ps) [] = []
all_kept pools cs (p ∷ ps) (o ∷ outs) =
    pending_kept pools (content_at 0 cs) (offer_placed p o) ++ all_kept pools (drop 1 cs) ps outs

-- nothing but contents may be another
pub record IsSpent (old new : Draft) : Type 0 where
  pub parts : new.parts ≡ old.parts
  pub reply : new.reply ≡ old.reply
  pub change : new.change ≡ old.change
  pub after : new.after ≡ old.after

-- the holder whose pendings its caller has
pub record HasKept (old new : holder.Holder) : Type 0 where
  pub creds : new.creds ≡ old.creds
  pub who : new.who ≡ old.who
  pub outs : new.outs ≡ old.outs
  pub plan : IsSpent old.plan new.plan
