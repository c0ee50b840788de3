-- What was placed becomes pending part by part, while contents are moved out of the plan.
use Rattle.std.specs.Prelude.{◌≡◌, ◌<◌, ◌≤◌, ◌+◌, ◌++◌, ℕ, List, [], ◌∷◌, drop, get_or, length, Option, None, refl, zero, suc}
use Rattle.std.proofs.Common.{ap, sym, ◌∙◌, arith}
use Rattle.std.proofs.lemmas.List.{append_assoc, append-nil, drop-drop, drop-set-lt, drop_all, drop_more}
use Rattle.kd_model.proofs.Lists.{rest_at}
use Rattle.kd_acts.specs.State.{Content, Hold}
use Rattle.kd_tables.specs.declared.part.Out.{Out}
use Rattle.kd_tables.specs.declared.part.Part as code
use Rattle.kd_tables.specs.declared.part.Part.TheVariants as part
use Rattle.kd_tables.specs.Drafts.{Draft, content_at, without_content}
use Rattle.kd_world.specs.State.{Pending}
use Rattle.kd_holds.specs.Placed.{IsSpent, all_kept, pending_kept, offer_placed}

content_here : (i : ℕ) (cs : List (Option Content)) → content_at i cs ≡ content_at 0 (drop i cs)
content_here zero cs = refl
content_here (suc i) [] = refl
content_here (suc i) (c ∷ cs) = content_here i cs

one_behind : {X : Type 0} (i : ℕ) (xs : List X) → drop (i + 1) xs ≡ drop 1 (drop i xs)
one_behind i xs = sym (drop-drop 1 i xs)

-- nothing is kept where no answer is left
none_kept : (pools : List Hold) (cs : List (Option Content)) (ps : List code.Part) → all_kept pools cs ps [] ≡ []
none_kept pools cs [] = refl
none_kept pools cs (p ∷ ps) = refl

-- the parts before a place are done: what they placed is pending, and the contents from that place
-- on are still there
pub record IsKeeping (pools : List Hold) (old new : Draft) (outs : List Out) (was now : List Pending) (i : ℕ) : Type 0 where
  pub spent : IsSpent old new
  pub contents : drop i new.contents ≡ drop i old.contents
  pub kept : now ++ all_kept pools (drop i old.contents) (drop i old.parts) (drop i outs) ≡ was ++ all_kept pools old.contents old.parts outs

pub keeps_none : (pools : List Hold) (old : Draft) (outs : List Out) (was : List Pending) → IsKeeping pools old old outs was was 0
keeps_none pools old outs was = record { spent = record { parts = refl; reply = refl; change = refl; after = refl }; contents = refl; kept = refl }

-- one part more
pub keeps_more :
    (pools : List Hold) (old new : Draft) (outs : List Out) (was now then : List Pending) (i : ℕ) (o : Out)
    → i < length outs → length outs ≤ length old.parts → o ≡ get_or outs i o → IsKeeping pools old new outs was now i
    → ((p : code.Part) (rest : List code.Part) → drop i new.parts ≡ p ∷ rest → then ≡ now ++ pending_kept pools (content_at i new.contents) (offer_placed p o))
    → IsKeeping pools old (without_content i new) outs was then (i + 1)
unfolding without_content
keeps_more pools old new outs was now then i o inside long at k more =
    let p : code.Part = get_or old.parts i (part.Settle 0) in
    let parts : drop i old.parts ≡ p ∷ drop (i + 1) old.parts = drop_more old.parts i (part.Settle 0) (omega (arith, inside, long)) in
    let answers : drop i outs ≡ o ∷ drop (i + 1) outs = rest_at outs i o inside at in
    let content : content_at i new.contents ≡ content_at 0 (drop i old.contents) = content_here i new.contents ∙ ap (content_at 0) k.contents in
    let here : then ≡ now ++ pending_kept pools (content_at 0 (drop i old.contents)) (offer_placed p o) = more p (drop (i + 1) old.parts) (ap (drop i) k.spent.parts ∙ parts) ∙ ap (λ c. now ++ pending_kept pools c (offer_placed p o)) content in
    let behind : List Pending = all_kept pools (drop 1 (drop i old.contents)) (drop (i + 1) old.parts) (drop (i + 1) outs) in
    record {
      spent = record { parts = k.spent.parts; reply = k.spent.reply; change = k.spent.change; after = k.spent.after };
      contents = drop-set-lt (i + 1) new.contents i None (omega arith) ∙ one_behind i new.contents ∙ ap (drop 1) k.contents ∙ sym (one_behind i old.contents);
      kept =
          ap (λ cs. then ++ all_kept pools cs (drop (i + 1) old.parts) (drop (i + 1) outs)) (one_behind i old.contents)
          ∙ ap (λ ps. ps ++ behind) here
          ∙ append_assoc now (pending_kept pools (content_at 0 (drop i old.contents)) (offer_placed p o)) behind
          ∙ ap (λ ps. now ++ all_kept pools (drop i old.contents) ps (o ∷ drop (i + 1) outs)) (sym parts)
          ∙ ap (λ os. now ++ all_kept pools (drop i old.contents) (drop i old.parts) os) (sym answers)
          ∙ k.kept;
    }

-- all of them
pub keeps_all :
    (pools : List Hold) (old new : Draft) (outs : List Out) (was now : List Pending) (i : ℕ) → length outs ≤ i → IsKeeping pools old new outs was now i
    → now ≡ was ++ all_kept pools old.contents old.parts outs
keeps_all pools old new outs was now i whole k =
    sym (append-nil now) ∙ ap (now ++◌) (sym (none_kept pools (drop i old.contents) (drop i old.parts))) ∙ ap (λ os. now ++ all_kept pools (drop i old.contents) (drop i old.parts) os) (sym (drop_all i outs whole)) ∙ k.kept
