-- What the answers of a holder tell: what was drained is met by the settle behind it, and what ends
-- a plan shows in the answers of the code.
use Rattle.std.specs.Prelude.{◌≡◌, ℕ, true, false, List, [], ◌∷◌, ◌++◌, drop, length, Option, Some, None, option_map, refl, zero, suc}
use Rattle.std.proofs.Common.{ap, sym, ◌∙◌}
use Rattle.std.proofs.lemmas.List.{append-nil, append_assoc}
use Rattle.kd_acts.specs.State.{Answer, Batch, Content, Image}
use Rattle.kd_commands.specs.Plans.{Part}
use Rattle.kd_commands.specs.Visits.{first_ends, images_in, met, next_part}
use Rattle.kd_tables.specs.declared.part.Part as code
use Rattle.kd_tables.specs.declared.part.Part.TheVariants as part
use Rattle.kd_tables.specs.declared.part.Out.{Out}
use Rattle.kd_tables.specs.declared.part.Out.TheVariants as out
use Rattle.kd_tables.specs.Drafts.{part_with, parts_with}
use Rattle.kd_tables.specs.Outs.{answers_of, out_answer}
use Rattle.kd_holds.specs.Handing.{AreStill, HandsOver, IsDrainedBy, SettlesFirst, TellDrained, answer_told, answers_told, drain_told, images_of, images_told, is_still}
use Rattle.kd_holds.specs.Lists.{first_of}

-- ---- parts that hand nothing over

no_images : (o : Out) → images_in (out_answer o) ≡ []
no_images out.Done = refl
no_images (out.Slice number) = refl
no_images (out.Refused why) = refl

still_met : (is : List Image) (c : Option Content) (p : code.Part) → is_still p ≡ true → met is (part_with c p) ≡ part_with c p
still_met is c (part.Raise seat size) e = refl
still_met is c (part.Close seat force) e = refl
still_met is c (part.Offer seat user len from must) e = refl
still_met is c (part.Post seat image) e = refl
still_met is c (part.Drain seat size) e = refl
still_met is c (part.Settle seat) e = absurd cc

still_tells : (p : code.Part) (o : Out) (b : Option Batch) → is_still p ≡ true → images_in (answer_told p o b) ≡ []
still_tells (part.Raise seat size) o b e = no_images o
still_tells (part.Close seat force) o b e = no_images o
still_tells (part.Offer seat user len from must) o b e = no_images o
still_tells (part.Post seat image) o b e = no_images o
still_tells (part.Drain seat size) o b e = absurd cc
still_tells (part.Settle seat) o b e = no_images o

-- ---- the part that is next

next_still : (is : List Image) (cs : List (Option Content)) (ps : List code.Part) (outs : List Out) (b : Option Batch) → AreStill ps → next_part is (parts_with cs ps) (answers_told ps outs b) ≡ first_of (drop (length outs) (parts_with cs ps))
unfolding next_part answers_told
next_still is [] [] [] b a = refl
next_still is [] [] (o ∷ outs) b a = refl
next_still is (c ∷ cs) [] [] b a = refl
next_still is (c ∷ cs) [] (o ∷ outs) b a = refl
next_still is [] (p ∷ ps) [] b a = ap Some (still_met is None p a.0)
next_still is (c ∷ cs) (p ∷ ps) [] b a = ap Some (still_met is c p a.0)
next_still is [] (p ∷ ps) (o ∷ outs) b a = next_still (is ++ images_in (answer_told p o b)) [] ps outs b a.1
next_still is (c ∷ cs) (p ∷ ps) (o ∷ outs) b a = next_still (is ++ images_in (answer_told p o b)) cs ps outs b a.1

first_met : (is : List Image) (n : ℕ) (cs : List (Option Content)) (ps : List code.Part) → AreStill ps → option_map (met is) (first_of (drop n (parts_with cs ps))) ≡ first_of (drop n (parts_with cs ps))
first_met is zero [] [] a = refl
first_met is zero (c ∷ cs) [] a = refl
first_met is zero [] (p ∷ ps) a = ap Some (still_met is None p a.0)
first_met is zero (c ∷ cs) (p ∷ ps) a = ap Some (still_met is c p a.0)
first_met is (suc n) [] [] a = refl
first_met is (suc n) (c ∷ cs) [] a = refl
first_met is (suc n) [] (p ∷ ps) a = first_met is n [] ps a.1
first_met is (suc n) (c ∷ cs) (p ∷ ps) a = first_met is n cs ps a.1

abbrev Meets : List Image → List (Option Content) → List code.Part → List Out → Option Batch → Type 0
Meets is cs ps outs b = next_part is (parts_with cs ps) (answers_told ps outs b) ≡ option_map (met (images_of b)) (first_of (drop (length outs) (parts_with cs ps)))

meets_still : (is : List Image) (cs : List (Option Content)) (ps : List code.Part) (outs : List Out) (b : Option Batch) → AreStill ps → Meets is cs ps outs b
meets_still is cs ps outs b a = next_still is cs ps outs b a ∙ sym (first_met (images_of b) (length outs) cs ps a)

meets_settle : (is : List Image) (cs : List (Option Content)) (seat : ℕ) (ps : List code.Part) (outs : List Out) (b : Option Batch) → AreStill ps → (outs ≡ [] → is ≡ images_of b) → Meets is cs (part.Settle seat ∷ ps) outs b
unfolding next_part answers_told
meets_settle is [] seat ps [] b a e = ap (λ xs. Some (met xs (part_with None (part.Settle seat)))) (e refl)
meets_settle is (c ∷ cs) seat ps [] b a e = ap (λ xs. Some (met xs (part_with c (part.Settle seat)))) (e refl)
meets_settle is [] seat ps (o ∷ outs) b a e = meets_still (is ++ images_in (out_answer o)) [] ps outs b a
meets_settle is (c ∷ cs) seat ps (o ∷ outs) b a e = meets_still (is ++ images_in (out_answer o)) cs ps outs b a

told_still : (ps : List code.Part) (outs : List Out) (b : Option Batch) → AreStill ps → images_told (answers_told ps outs b) ≡ []
unfolding answers_told
told_still [] outs b a = refl
told_still (p ∷ ps) [] b a = refl
told_still (p ∷ ps) (o ∷ outs) b a = ap (λ xs. xs ++ images_told (answers_told ps outs b)) (still_tells p o b a.0) ∙ told_still ps outs b a.1

told_settle : (seat : ℕ) (ps : List code.Part) (outs : List Out) (b : Option Batch) → AreStill ps → images_told (answers_told (part.Settle seat ∷ ps) outs b) ≡ []
unfolding answers_told
told_settle seat ps [] b a = refl
told_settle seat ps (o ∷ outs) b a = ap (λ xs. xs ++ images_told (answers_told ps outs b)) (no_images o) ∙ told_still ps outs b a

-- so a drain's answer has all that was drained
told_first : (from size to : ℕ) (ps : List code.Part) (o : Out) (outs : List Out) (b : Option Batch) → AreStill ps → TellDrained (part.Drain from size ∷ part.Settle to ∷ ps) (o ∷ outs) b → images_in (drain_told o b) ≡ images_of b
unfolding answers_told
told_first from size to ps o outs b a t =
    sym (append-nil (images_in (drain_told o b))) ∙ ap (λ xs. images_in (drain_told o b) ++ xs) (sym (told_settle to ps outs b a)) ∙ t

-- the next part is that of the code, and a settle has what was drained
pub next_told : (cs : List (Option Content)) (ps : List code.Part) (outs : List Out) (b : Option Batch) → HandsOver ps → TellDrained ps outs b → Meets [] cs ps outs b
unfolding next_part answers_told
next_told cs [] outs b h t = meets_still [] cs [] outs b tt
next_told cs (part.Drain from size ∷ []) outs b h t = absurd h
next_told cs (part.Drain from size ∷ part.Raise seat n ∷ ps) outs b h t = absurd h
next_told cs (part.Drain from size ∷ part.Close seat force ∷ ps) outs b h t = absurd h
next_told cs (part.Drain from size ∷ part.Offer seat user len source must ∷ ps) outs b h t = absurd h
next_told cs (part.Drain from size ∷ part.Post seat image ∷ ps) outs b h t = absurd h
next_told cs (part.Drain from size ∷ part.Drain seat n ∷ ps) outs b h t = absurd h
next_told [] (part.Drain from size ∷ part.Settle to ∷ ps) [] b h t = refl
next_told (c ∷ cs) (part.Drain from size ∷ part.Settle to ∷ ps) [] b h t = refl
next_told [] (part.Drain from size ∷ part.Settle to ∷ ps) (o ∷ outs) b h t =
    meets_settle (images_in (drain_told o b)) [] to ps outs b h (λ e. told_first from size to ps o outs b h t)
next_told (c ∷ cs) (part.Drain from size ∷ part.Settle to ∷ ps) (o ∷ outs) b h t =
    meets_settle (images_in (drain_told o b)) cs to ps outs b h (λ e. told_first from size to ps o outs b h t)
next_told cs (part.Settle seat ∷ ps) outs b h t = meets_settle [] cs seat ps outs b h (λ e. first_none outs e t)
  where
    first_none : (xs : List Out) → xs ≡ [] → TellDrained (part.Settle seat ∷ ps) xs b → [] ≡ images_of b
    first_none [] e t = t
    first_none (o ∷ xs) e t = absurd cc
next_told cs (part.Raise seat size ∷ ps) outs b h t = meets_still [] cs (part.Raise seat size ∷ ps) outs b (refl, h)
next_told cs (part.Close seat force ∷ ps) outs b h t = meets_still [] cs (part.Close seat force ∷ ps) outs b (refl, h)
next_told cs (part.Offer seat user len from must ∷ ps) outs b h t = meets_still [] cs (part.Offer seat user len from must ∷ ps) outs b (refl, h)
next_told cs (part.Post seat image ∷ ps) outs b h t = meets_still [] cs (part.Post seat image ∷ ps) outs b (refl, h)

-- ---- what ends a plan

ends_at : (p : Part) (ps : List Part) (o : Out) (xs ys : List Answer) → first_ends (p ∷ ps) (out_answer o ∷ xs) ≡ first_ends (p ∷ ps) (out_answer o ∷ ys)
unfolding first_ends
ends_at p ps out.Done xs ys = refl
ends_at p ps (out.Slice number) xs ys = refl
ends_at p ps (out.Refused why) xs ys = refl

drain_ends : (p : Part) (ps : List Part) (o : Out) (b : Option Batch) (xs ys : List Answer) → first_ends (p ∷ ps) (drain_told o b ∷ xs) ≡ first_ends (p ∷ ps) (out_answer o ∷ ys)
unfolding first_ends
drain_ends p ps out.Done None xs ys = refl
drain_ends p ps out.Done (Some b) xs ys = refl
drain_ends p ps (out.Slice number) b xs ys = refl
drain_ends p ps (out.Refused why) b xs ys = refl

told_ends : (q : Part) (qs : List Part) (p : code.Part) (o : Out) (b : Option Batch) (xs ys : List Answer) → first_ends (q ∷ qs) (answer_told p o b ∷ xs) ≡ first_ends (q ∷ qs) (out_answer o ∷ ys)
told_ends q qs (part.Raise seat size) o b xs ys = ends_at q qs o xs ys
told_ends q qs (part.Close seat force) o b xs ys = ends_at q qs o xs ys
told_ends q qs (part.Offer seat user len from must) o b xs ys = ends_at q qs o xs ys
told_ends q qs (part.Post seat image) o b xs ys = ends_at q qs o xs ys
told_ends q qs (part.Drain seat size) o b xs ys = drain_ends q qs o b xs ys
told_ends q qs (part.Settle seat) o b xs ys = ends_at q qs o xs ys

pub ends_alike : (cs : List (Option Content)) (ps : List code.Part) (outs : List Out) (b : Option Batch) → first_ends (parts_with cs ps) (answers_told ps outs b) ≡ first_ends (parts_with cs ps) (answers_of outs)
unfolding first_ends answers_told
ends_alike [] [] outs b = refl
ends_alike (c ∷ cs) [] outs b = refl
ends_alike [] (p ∷ ps) [] b = refl
ends_alike (c ∷ cs) (p ∷ ps) [] b = refl
ends_alike [] (p ∷ ps) (o ∷ outs) b = told_ends (part_with None p) (parts_with [] ps) p o b (answers_told ps outs b) (answers_of outs)
ends_alike (c ∷ cs) (p ∷ ps) (o ∷ outs) b = told_ends (part_with c p) (parts_with cs ps) p o b (answers_told ps outs b) (answers_of outs)

-- ---- one answer more

none_told : (ps : List code.Part) (b : Option Batch) → answers_told ps [] b ≡ []
unfolding answers_told
none_told [] b = refl
none_told (p ∷ ps) b = refl

same_first : (p q : code.Part) (ps qs : List code.Part) → p ∷ ps ≡ q ∷ qs → p ≡ q
same_first p q ps qs e = cc

told_snoc : (ps : List code.Part) (outs : List Out) (p : code.Part) (rest : List code.Part) (o : Out) (b : Option Batch) → drop (length outs) ps ≡ p ∷ rest → answers_told ps (outs ++ o ∷ []) b ≡ answers_told ps outs b ++ answer_told p o b ∷ []
unfolding answers_told
told_snoc [] [] p rest o b e = absurd cc
told_snoc [] (x ∷ outs) p rest o b e = absurd cc
told_snoc (q ∷ ps) [] p rest o b e = ap (λ (r : code.Part). answer_told r o b ∷ answers_told ps [] b) (same_first q p ps rest e) ∙ ap (λ xs. answer_told p o b ∷ xs) (none_told ps b)
told_snoc (q ∷ ps) (x ∷ outs) p rest o b e = ap (λ xs. answer_told q x b ∷ xs) (told_snoc ps outs p rest o b e)

-- no part behind the first drains
never_drains : (n : ℕ) (ps : List code.Part) (seat size : ℕ) (rest : List code.Part) → AreStill ps → drop n ps ≡ part.Drain seat size ∷ rest → ⊥
never_drains zero [] seat size rest a e = cc
never_drains zero (p ∷ ps) seat size rest a e = let same : p ≡ part.Drain seat size = same_first p (part.Drain seat size) ps rest e in let clash : false ≡ true = sym (ap is_still same) ∙ a.0 in cc
never_drains (suc n) [] seat size rest a e = cc
never_drains (suc n) (p ∷ ps) seat size rest a e = never_drains n ps seat size rest a.1 e

behind_drains : (n : ℕ) (ps : List code.Part) (seat size : ℕ) (rest : List code.Part) → SettlesFirst ps → drop n ps ≡ part.Drain seat size ∷ rest → ⊥
behind_drains n [] seat size rest a e = a
behind_drains n (part.Raise s m ∷ ps) seat size rest a e = a
behind_drains n (part.Close s force ∷ ps) seat size rest a e = a
behind_drains n (part.Offer s user len from must ∷ ps) seat size rest a e = a
behind_drains n (part.Post s image ∷ ps) seat size rest a e = a
behind_drains n (part.Drain s m ∷ ps) seat size rest a e = a
behind_drains zero (part.Settle s ∷ ps) seat size rest a e = cc
behind_drains (suc n) (part.Settle s ∷ ps) seat size rest a e = never_drains n ps seat size rest a e

drains_first : (ps : List code.Part) (outs : List Out) (seat size : ℕ) (rest : List code.Part) → HandsOver ps → drop (length outs) ps ≡ part.Drain seat size ∷ rest → outs ≡ []
drains_first ps [] seat size rest h e = refl
drains_first [] (o ∷ outs) seat size rest h e = absurd cc
drains_first (part.Raise s m ∷ ps) (o ∷ outs) seat size rest h e = absurd (never_drains (length outs) ps seat size rest h e)
drains_first (part.Close s force ∷ ps) (o ∷ outs) seat size rest h e = absurd (never_drains (length outs) ps seat size rest h e)
drains_first (part.Offer s user len from must ∷ ps) (o ∷ outs) seat size rest h e = absurd (never_drains (length outs) ps seat size rest h e)
drains_first (part.Post s image ∷ ps) (o ∷ outs) seat size rest h e = absurd (never_drains (length outs) ps seat size rest h e)
drains_first (part.Drain s m ∷ ps) (o ∷ outs) seat size rest h e = absurd (behind_drains (length outs) ps seat size rest h e)
drains_first (part.Settle s ∷ ps) (o ∷ outs) seat size rest h e = absurd (never_drains (length outs) ps seat size rest h e)

before_drain : (ps : List code.Part) (outs : List Out) (was now : Option Batch) → outs ≡ [] → answers_told ps outs now ≡ answers_told ps outs was
before_drain ps outs was now e = ap (λ xs. answers_told ps xs now) e ∙ none_told ps now ∙ sym (none_told ps was) ∙ ap (λ xs. answers_told ps xs was) (sym e)

pub told_before : (ps : List code.Part) (outs : List Out) (p : code.Part) (rest : List code.Part) (o : Out) (was now : Option Batch) → HandsOver ps → drop (length outs) ps ≡ p ∷ rest → IsDrainedBy p o was now → answers_told ps outs now ≡ answers_told ps outs was
told_before ps outs (part.Raise seat size) rest o was now h e d = ap (answers_told ps outs) d
told_before ps outs (part.Close seat force) rest o was now h e d = ap (answers_told ps outs) d
told_before ps outs (part.Offer seat user len from must) rest o was now h e d = ap (answers_told ps outs) d
told_before ps outs (part.Post seat image) rest o was now h e d = ap (answers_told ps outs) d
told_before ps outs (part.Drain seat size) rest o was now h e d = before_drain ps outs was now (drains_first ps outs seat size rest h e)
told_before ps outs (part.Settle seat) rest o was now h e d = ap (answers_told ps outs) d

pub told_more : (ps : List code.Part) (outs : List Out) (p : code.Part) (rest : List code.Part) (o : Out) (was now : Option Batch) → HandsOver ps → drop (length outs) ps ≡ p ∷ rest → IsDrainedBy p o was now → answers_told ps (outs ++ o ∷ []) now ≡ answers_told ps outs was ++ answer_told p o now ∷ []
told_more ps outs p rest o was now h e d = told_snoc ps outs p rest o now e ∙ ap (λ xs. xs ++ answer_told p o now ∷ []) (told_before ps outs p rest o was now h e d)

images_more : (xs ys : List Answer) → images_told (xs ++ ys) ≡ images_told xs ++ images_told ys
images_more [] ys = refl
images_more (x ∷ xs) ys = ap (λ is. images_in x ++ is) (images_more xs ys) ∙ sym (append_assoc (images_in x) (images_told xs) (images_told ys))

-- the answers still tell what was drained
pub tells_more : (ps : List code.Part) (outs : List Out) (p : code.Part) (rest : List code.Part) (o : Out) (was now : Option Batch) → HandsOver ps → drop (length outs) ps ≡ p ∷ rest → IsDrainedBy p o was now → TellDrained ps outs was → TellDrained ps (outs ++ o ∷ []) now
tells_more ps outs p rest o was now h e d t =
    ap images_told (told_snoc ps outs p rest o now e) ∙ images_more (answers_told ps outs now) (answer_told p o now ∷ []) ∙ go p d e
  where
    keeps : (q : code.Part) → now ≡ was → images_in (answer_told q o now) ≡ [] → images_told (answers_told ps outs now) ++ images_told (answer_told q o now ∷ []) ≡ images_of now
    keeps q s none =
        ap (λ xs. images_told (answers_told ps outs now) ++ (xs ++ [])) none ∙ append-nil (images_told (answers_told ps outs now)) ∙ ap (λ b. images_told (answers_told ps outs b)) s ∙ t ∙ ap images_of (sym s)

    go : (q : code.Part) → IsDrainedBy q o was now → drop (length outs) ps ≡ q ∷ rest → images_told (answers_told ps outs now) ++ images_told (answer_told q o now ∷ []) ≡ images_of now
    go (part.Raise seat size) d e = keeps (part.Raise seat size) d (no_images o)
    go (part.Close seat force) d e = keeps (part.Close seat force) d (no_images o)
    go (part.Offer seat user len from must) d e = keeps (part.Offer seat user len from must) d (no_images o)
    go (part.Post seat image) d e = keeps (part.Post seat image) d (no_images o)
    go (part.Drain seat size) d e =
        let first : outs ≡ [] = drains_first ps outs seat size rest h e in
        ap (λ xs. images_told xs ++ images_told (drain_told o now ∷ [])) (ap (λ xs. answers_told ps xs now) first ∙ none_told ps now) ∙ append-nil (images_in (drain_told o now)) ∙ d
    go (part.Settle seat) d e = keeps (part.Settle seat) d (no_images o)

-- before the first visit
pub tells_none : (ps : List code.Part) (b : Option Batch) → b ≡ None → TellDrained ps [] b
tells_none ps b e = ap images_told (none_told ps b) ∙ ap images_of (sym e)
