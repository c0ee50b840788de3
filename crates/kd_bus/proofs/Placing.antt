-- What was placed is pending part by part, while contents are moved out of the plan.
use Rattle.std.specs.Prelude.{◌≡◌, ◌<◌, ◌≤◌, ◌+◌, ◌++◌, ℕ, List, [], ◌∷◌, drop, get_or, length, Option, None, refl, zero, suc}
use Rattle.std.proofs.Common.{ap, sym, ◌∙◌, arith}
use Rattle.std.proofs.lemmas.List.{append_assoc, append-nil, drop-drop, drop-set-lt, drop_all, drop_more}
use Rattle.kd_model.proofs.Lists.{rest_at}
use Rattle.kd_acts.specs.State.{Answer, Batch, Content, Image, Visit, by_desk}
use Rattle.kd_commands.specs.Visits.{images_in, parts_visited, with_images}
use Rattle.kd_tables.specs.declared.part.Out.{Out}
use Rattle.kd_tables.specs.declared.part.Out.TheVariants as out
use Rattle.kd_tables.specs.declared.part.Part as code
use Rattle.kd_tables.specs.declared.part.Part.TheVariants as part
use Rattle.kd_tables.specs.Drafts.{Draft, content_at, part_with, parts_with, without_content}
use Rattle.kd_world.specs.State.{Pending}
use Rattle.kd_holds.specs.Placed.{IsSpent, offer_placed}
use Rattle.kd_holds.specs.Handing.{answer_told, answers_told}
use Rattle.kd_histories.specs.Turns.{Did}
use Rattle.kd_bus.specs.Leaving.{all_pending, pending_at}
use Rattle.kd_bus.specs.Visited.{answers_in, generations_in, pending_by, pendings_by}

content_here : (i : ℕ) (cs : List (Option Content)) → content_at i cs ≡ content_at 0 (drop i cs)
content_here zero cs = refl
content_here (suc i) [] = refl
content_here (suc i) (c ∷ cs) = content_here i cs

one_behind : {X : Type 0} (i : ℕ) (xs : List X) → drop (i + 1) xs ≡ drop 1 (drop i xs)
one_behind i xs = sym (drop-drop 1 i xs)

-- nothing is kept where no answer is left
none_kept : (cs : List (Option Content)) (ps : List code.Part) (gs : List ℕ) → all_pending cs ps [] gs ≡ []
none_kept cs [] gs = refl
none_kept cs (p ∷ ps) gs = refl

-- the parts before a place are done: what they placed is pending, and the contents from that place
-- on are still there
pub record IsKeeping (old new : Draft) (outs : List Out) (gs : List ℕ) (was now : List Pending) (i : ℕ) : Type 0 where
  pub spent : IsSpent old new
  pub contents : drop i new.contents ≡ drop i old.contents
  pub kept : now ++ all_pending (drop i old.contents) (drop i old.parts) (drop i outs) (drop i gs) ≡ was ++ all_pending old.contents old.parts outs gs

pub keeps_none : (old : Draft) (outs : List Out) (gs : List ℕ) (was : List Pending) → IsKeeping old old outs gs was was 0
keeps_none old outs gs was = record { spent = record { parts = refl; reply = refl; change = refl; after = refl }; contents = refl; kept = refl }

-- one part more
pub keeps_more :
    (old new : Draft) (outs : List Out) (gs : List ℕ) (was now then : List Pending) (i : ℕ) (o : Out) (g : ℕ)
    → i < length outs → length outs ≤ length old.parts → length gs ≡ length outs → o ≡ get_or outs i o → g ≡ get_or gs i 0 → IsKeeping old new outs gs was now i
    → ((p : code.Part) (rest : List code.Part) → drop i new.parts ≡ p ∷ rest → then ≡ now ++ pending_at g (content_at i new.contents) (offer_placed p o))
    → IsKeeping old (without_content i new) outs gs was then (i + 1)
unfolding without_content
keeps_more old new outs gs was now then i o g inside long same at atg k more =
    let p : code.Part = get_or old.parts i (part.Settle 0) in
    let parts : drop i old.parts ≡ p ∷ drop (i + 1) old.parts = drop_more old.parts i (part.Settle 0) (omega (arith, inside, long)) in
    let answers : drop i outs ≡ o ∷ drop (i + 1) outs = rest_at outs i o inside at in
    let since : drop i gs ≡ g ∷ drop (i + 1) gs = drop_more gs i 0 (omega (arith, inside, same)) ∙ ap (λ (n : ℕ). n ∷ drop (i + 1) gs) (sym atg) in
    let content : content_at i new.contents ≡ content_at 0 (drop i old.contents) = content_here i new.contents ∙ ap (content_at 0) k.contents in
    let here : then ≡ now ++ pending_at g (content_at 0 (drop i old.contents)) (offer_placed p o) = more p (drop (i + 1) old.parts) (ap (drop i) k.spent.parts ∙ parts) ∙ ap (λ c. now ++ pending_at g c (offer_placed p o)) content in
    let behind : List Pending = all_pending (drop 1 (drop i old.contents)) (drop (i + 1) old.parts) (drop (i + 1) outs) (drop (i + 1) gs) in
    record {
      spent = record { parts = k.spent.parts; reply = k.spent.reply; change = k.spent.change; after = k.spent.after };
      contents = drop-set-lt (i + 1) new.contents i None (omega arith) ∙ one_behind i new.contents ∙ ap (drop 1) k.contents ∙ sym (one_behind i old.contents);
      kept =
          ap (λ cs. then ++ all_pending cs (drop (i + 1) old.parts) (drop (i + 1) outs) (drop (i + 1) gs)) (one_behind i old.contents)
          ∙ ap (λ ps. ps ++ behind) here
          ∙ append_assoc now (pending_at g (content_at 0 (drop i old.contents)) (offer_placed p o)) behind
          ∙ ap (λ ps. now ++ all_pending (drop i old.contents) ps (o ∷ drop (i + 1) outs) (g ∷ drop (i + 1) gs)) (sym parts)
          ∙ ap (λ os. now ++ all_pending (drop i old.contents) (drop i old.parts) os (g ∷ drop (i + 1) gs)) (sym answers)
          ∙ ap (λ ns. now ++ all_pending (drop i old.contents) (drop i old.parts) (drop i outs) ns) (sym since)
          ∙ k.kept;
    }

-- all of them
pub keeps_all :
    (old new : Draft) (outs : List Out) (gs : List ℕ) (was now : List Pending) (i : ℕ) → length outs ≤ i → IsKeeping old new outs gs was now i
    → now ≡ was ++ all_pending old.contents old.parts outs gs
keeps_all old new outs gs was now i whole k =
    sym (append-nil now) ∙ ap (now ++◌) (sym (none_kept (drop i old.contents) (drop i old.parts) (drop i gs))) ∙ ap (λ os. now ++ all_pending (drop i old.contents) (drop i old.parts) os (drop i gs)) (sym (drop_all i outs whole)) ∙ k.kept

-- ---- what is pending, by the entries of the visits

one_same : (is : List Image) (c : Option Content) (p : code.Part) (o : Out) (b : Option Batch) (g : ℕ) → pending_at g c (offer_placed p o) ≡ pending_by (part_with c p).seat (by_desk (with_images is (part_with c p).act)) (answer_told p o b) g
one_same is c (part.Offer seat user len from must) out.Done b g = refl
one_same is c (part.Offer seat user len from must) (out.Slice n) b g = refl
one_same is c (part.Offer seat user len from must) (out.Refused why) b g = refl
one_same is c (part.Raise seat size) o b g = refl
one_same is c (part.Close seat force) o b g = refl
one_same is c (part.Post seat image) o b g = refl
one_same is c (part.Drain seat size) o b g = refl
one_same is c (part.Settle seat) o b g = refl

more_same : (is : List Image) (c : Option Content) (p : code.Part) (o : Out) (b : Option Batch) (g : ℕ) (d : Did) (xs ys : List Pending) → d.answer ≡ answer_told p o b → d.generation ≡ g → xs ≡ ys
    → pending_at g c (offer_placed p o) ++ xs ≡ pending_by (part_with c p).seat (by_desk (with_images is (part_with c p).act)) d.answer d.generation ++ ys
more_same is c p o b g d xs ys ans gen rest =
    let v : Visit = with_images is (part_with c p).act in
    ap (λ zs. zs ++ xs) (one_same is c p o b g ∙ (ap (λ a. pending_by (part_with c p).seat (by_desk v) a g) (sym ans) ∙ ap (λ (n : ℕ). pending_by (part_with c p).seat (by_desk v) d.answer n) (sym gen)))
    ∙ ap (λ zs. pending_by (part_with c p).seat (by_desk v) d.answer d.generation ++ zs) rest

answers_cut : (ds : List Did) (os : List Answer) (d : Did) (o : Answer) → answers_in (d ∷ ds) ≡ o ∷ os → (d.answer ≡ o) × (answers_in ds ≡ os)
answers_cut ds os d o e = (cc, cc)

since_cut : (ds : List Did) (gs : List ℕ) (d : Did) (g : ℕ) → generations_in (d ∷ ds) ≡ g ∷ gs → (d.generation ≡ g) × (generations_in ds ≡ gs)
since_cut ds gs d g e = (cc, cc)

pendings_along : (is : List Image) (cs : List (Option Content)) (ps : List code.Part) (outs : List Out) (b : Option Batch) (gs : List ℕ) (ds : List Did) → answers_in ds ≡ answers_told ps outs b → generations_in ds ≡ gs
    → all_pending cs ps outs gs ≡ pendings_by (parts_visited is (parts_with cs ps) (answers_in ds)) ds
unfolding parts_visited answers_told
pendings_along is [] [] outs b gs ds ans gen = refl
pendings_along is (c ∷ cs) [] outs b gs ds ans gen = refl
pendings_along is [] (p ∷ ps) [] b gs [] ans gen = refl
pendings_along is [] (p ∷ ps) [] b gs (d ∷ ds) ans gen = absurd cc
pendings_along is [] (p ∷ ps) (o ∷ outs) b gs [] ans gen = absurd cc
pendings_along is [] (p ∷ ps) (o ∷ outs) b [] (d ∷ ds) ans gen = absurd cc
pendings_along is [] (p ∷ ps) (o ∷ outs) b (g ∷ gs) (d ∷ ds) ans gen =
    let a = answers_cut ds (answers_told ps outs b) d (answer_told p o b) ans in
    let s = since_cut ds gs d g gen in
    let more : List Image = is ++ images_in d.answer in
    more_same is None p o b g d (all_pending [] ps outs gs) (pendings_by (parts_visited more (parts_with [] ps) (answers_in ds)) ds) a.0 s.0 (pendings_along more [] ps outs b gs ds a.1 s.1)
pendings_along is (c ∷ cs) (p ∷ ps) [] b gs [] ans gen = refl
pendings_along is (c ∷ cs) (p ∷ ps) [] b gs (d ∷ ds) ans gen = absurd cc
pendings_along is (c ∷ cs) (p ∷ ps) (o ∷ outs) b gs [] ans gen = absurd cc
pendings_along is (c ∷ cs) (p ∷ ps) (o ∷ outs) b [] (d ∷ ds) ans gen = absurd cc
pendings_along is (c ∷ cs) (p ∷ ps) (o ∷ outs) b (g ∷ gs) (d ∷ ds) ans gen =
    let a = answers_cut ds (answers_told ps outs b) d (answer_told p o b) ans in
    let s = since_cut ds gs d g gen in
    let more : List Image = is ++ images_in d.answer in
    more_same is c p o b g d (all_pending cs ps outs gs) (pendings_by (parts_visited more (parts_with cs ps) (answers_in ds)) ds) a.0 s.0 (pendings_along more cs ps outs b gs ds a.1 s.1)

pub pendings_same : (cs : List (Option Content)) (ps : List code.Part) (outs : List Out) (b : Option Batch) (gs : List ℕ) (ds : List Did) → answers_in ds ≡ answers_told ps outs b → generations_in ds ≡ gs
    → all_pending cs ps outs gs ≡ pendings_by (parts_visited [] (parts_with cs ps) (answers_in ds)) ds
pendings_same cs ps outs b gs ds ans gen = pendings_along [] cs ps outs b gs ds ans gen
