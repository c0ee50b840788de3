-- What a holder keeps for its parts, part by part.
use Rattle.std.specs.Prelude.{◌≡◌, ◌≤◌, ℕ, Bool, true, false, List, [], ◌∷◌, ◌++◌, length, Option, None, Some, refl}
use Rattle.std.proofs.Common.{ap, arith, sym, ◌∙◌}
use Rattle.std.proofs.lemmas.List.{append-nil}
use Rattle.kd_types.specs.declared.refusal.Refusal.{Refusal}
use Rattle.kd_model.specs.declared.slice_no.TheConstants.{SLICES}
use Rattle.kd_acts.specs.State.{Batch, Image, Pool}
use Rattle.kd_acts.specs.Steps.{new_pool}
use Rattle.kd_tables.specs.declared.part.Part as code
use Rattle.kd_tables.specs.declared.part.Part.TheVariants as part
use Rattle.kd_tables.specs.declared.part.Out.{Out}
use Rattle.kd_tables.specs.declared.part.Out.TheVariants as out
use Rattle.kd_holds.specs.Handing.{AreStill, HandsOver, HasBuffer, HasDrained, IsBuffer, IsMadeFor, SettlesFirst, Stock, images_of}
use Rattle.kd_holds.specs.Stack.{stack_of}

-- ---- parts that hand nothing over

pub still_buffer : (b took : Option Batch) (ps : List code.Part) → AreStill ps → HasBuffer b took ps
still_buffer b d [] a = tt
still_buffer b d (part.Raise seat size ∷ ps) a = tt
still_buffer b d (part.Close seat force ∷ ps) a = tt
still_buffer b d (part.Offer seat user len from must ∷ ps) a = tt
still_buffer b d (part.Post seat image ∷ ps) a = tt
still_buffer b d (part.Drain seat size ∷ ps) a = absurd (let clash : false ≡ true = a.0 in cc)
still_buffer b d (part.Settle seat ∷ ps) a = absurd (let clash : false ≡ true = a.0 in cc)

pub still_hands : (ps : List code.Part) → AreStill ps → HandsOver ps
still_hands [] a = tt
still_hands (part.Raise seat size ∷ ps) a = a.1
still_hands (part.Close seat force ∷ ps) a = a.1
still_hands (part.Offer seat user len from must ∷ ps) a = a.1
still_hands (part.Post seat image ∷ ps) a = a.1
still_hands (part.Drain seat size ∷ ps) a = absurd (let clash : false ≡ true = a.0 in cc)
still_hands (part.Settle seat ∷ ps) a = a.1

-- what is kept for parts of which all are still
for_still : (m : Stock) (ps : List code.Part) (p : code.Part) (qs : List code.Part) → IsMadeFor m (p ∷ qs) → AreStill ps → (now : Stock) → now.raised ≡ stack_of ps → now.drained ≡ m.drained → IsMadeFor now ps
for_still m ps p qs i a now raised same = record {
  raised = raised;
  hands = still_hands ps a;
  buffer = still_buffer now.buffer now.drained ps a;
  few = rw same i.few;
}

snoc_same : {X : Type 0} (xs ys : List X) (x y : X) → xs ++ x ∷ [] ≡ ys ++ y ∷ [] → xs ≡ ys
snoc_same [] [] x y e = refl
snoc_same [] (b ∷ []) x y e = absurd cc
snoc_same [] (b ∷ c ∷ ys) x y e = absurd cc
snoc_same (a ∷ []) [] x y e = absurd cc
snoc_same (a ∷ c ∷ xs) [] x y e = absurd cc
snoc_same (a ∷ xs) (b ∷ ys) x y e =
    let tails : xs ++ x ∷ [] ≡ ys ++ y ∷ [] = cc in
    let heads : a ≡ b = cc in
    ap (λ zs. a ∷ zs) (snoc_same xs ys x y tails) ∙ ap (λ z. z ∷ ys) heads

-- behind a part that opens a pool
pub behind_raise : (m now : Stock) (seat size : ℕ) (pool : Pool) (ps : List code.Part) → m.raised ≡ now.raised ++ pool ∷ [] → now ≡ record m { raised = now.raised } → IsMadeFor m (part.Raise seat size ∷ ps) → IsMadeFor now ps
behind_raise m now seat size pool ps e others i =
    for_still m ps (part.Raise seat size) ps i i.hands now (snoc_same now.raised (stack_of ps) pool (new_pool size) (sym e ∙ i.raised)) (ap (λ (x : Stock). x.drained) others)

-- behind one that uses nothing
pub behind_close : (m now : Stock) (seat : ℕ) (force : Bool) (ps : List code.Part) → now ≡ m → IsMadeFor m (part.Close seat force ∷ ps) → IsMadeFor now ps
behind_close m now seat force ps e i =
    for_still m ps (part.Close seat force) ps i i.hands now (ap (λ (x : Stock). x.raised) e ∙ i.raised ∙ append-nil (stack_of ps)) (ap (λ (x : Stock). x.drained) e)

pub behind_offer : (m now : Stock) (seat user len from : ℕ) (must : Bool) (ps : List code.Part) → now ≡ m → IsMadeFor m (part.Offer seat user len from must ∷ ps) → IsMadeFor now ps
behind_offer m now seat user len from must ps e i =
    for_still m ps (part.Offer seat user len from must) ps i i.hands now (ap (λ (x : Stock). x.raised) e ∙ i.raised ∙ append-nil (stack_of ps)) (ap (λ (x : Stock). x.drained) e)

pub behind_post : (m now : Stock) (seat : ℕ) (image : List ℕ) (ps : List code.Part) → now ≡ m → IsMadeFor m (part.Post seat image ∷ ps) → IsMadeFor now ps
behind_post m now seat image ps e i =
    for_still m ps (part.Post seat image) ps i i.hands now (ap (λ (x : Stock). x.raised) e ∙ i.raised ∙ append-nil (stack_of ps)) (ap (λ (x : Stock). x.drained) e)

-- behind a drain
settle_ready : (m : Stock) (ps : List code.Part) → SettlesFirst ps → IsBuffer 0 (images_of m.drained) m.buffer → HandsOver ps × HasBuffer m.buffer m.drained ps
settle_ready m [] h b = absurd h
settle_ready m (part.Raise s n ∷ ps) h b = absurd h
settle_ready m (part.Close s force ∷ ps) h b = absurd h
settle_ready m (part.Offer s user len from must ∷ ps) h b = absurd h
settle_ready m (part.Post s image ∷ ps) h b = absurd h
settle_ready m (part.Drain s n ∷ ps) h b = absurd h
settle_ready m (part.Settle s ∷ ps) h b = (h, b)

pub behind_drain : (m now : Stock) (seat size : ℕ) (o : Out) (ps : List code.Part) → HasDrained o m now → IsMadeFor m (part.Drain seat size ∷ ps) → IsMadeFor now ps
behind_drain m now seat size o ps d i =
    let r = settle_ready now ps i.hands d.buffer in
    record { raised = d.raised ∙ i.raised ∙ append-nil (stack_of ps); hands = r.0; buffer = r.1; few = d.few }

-- behind a settle
pub behind_settle : (m now : Stock) (seat : ℕ) (ps : List code.Part) → now ≡ record m { buffer = None } → IsMadeFor m (part.Settle seat ∷ ps) → IsMadeFor now ps
behind_settle m now seat ps e i =
    for_still m ps (part.Settle seat) ps i i.hands now (ap (λ (x : Stock). x.raised) e ∙ i.raised ∙ append-nil (stack_of ps)) (ap (λ (x : Stock). x.drained) e)

-- ---- a drain

-- one that was refused kept nothing
pub refused_keeps : (raised : List Pool) (buffer took : Option Batch) (b : Batch) (why : Refusal) → took ≡ None → b.images ≡ [] → HasDrained (out.Refused why) (record { raised = raised; buffer = buffer; drained = took }) (record { raised = raised; buffer = Some b; drained = took })
refused_keeps raised buffer took b why e none = record {
  told = ap images_of (sym e);
  few = rw e (omega arith);
  buffer = (b.size, omega arith, ap (λ (is : List Image). Some (record { size = b.size; images = is })) (none ∙ ap images_of (sym e)));
  raised = refl;
}

-- one that was done kept what is in the buffer
pub done_keeps : (raised : List Pool) (buffer was took : Option Batch) (b : Batch) → took ≡ Some b → length b.images ≤ SLICES → HasDrained out.Done (record { raised = raised; buffer = buffer; drained = was }) (record { raised = raised; buffer = Some b; drained = took })
done_keeps raised buffer was took b e few = record {
  told = rw e refl;
  few = rw e few;
  buffer = (b.size, omega arith, ap (λ (is : List Image). Some (record { size = b.size; images = is })) (ap images_of (sym e)));
  raised = refl;
}
