-- A list of events that was run up to one that wasn't.
use Rattle.std.specs.Prelude.{◌≡◌, ℕ, ◌<◌, ◌++◌, true, false, List, ◌∷◌, Some, None, Result, Ok, Err, IsErr, length, take, map}
use Rattle.std.specs.Result.{IsErrAnd}
use Rattle.std.proofs.Common.{refl, sym, subst, ap, ◌∙◌, arith}
use Rattle.std.proofs.lemmas.List.{length-append, length-map}
use Rattle.std.proofs.Math.Seq.{take-append_seam}
use Rattle.kd_world.specs.Legal.{Event, legal}
use Rattle.kd_core.specs.declared.events.RunError.{RunError}
use Rattle.kd_core.specs.declared.events.RunError.TheVariants.{Illegal, OutOfMemory}
use Rattle.kd_core.specs.Running.{Running}
use Rattle.kd_core.specs.Along.{events_before, events_run, first_barred, ran}
use Rattle.kd_core.proofs.Alongs.{barred_there, map_both}

-- some events were run
pub record HaveRun (r s : Running) (es : List Event) : Type 0 where
  pub legal : first_barred r.world es ≡ None
  pub world : s ≡ ran r es

-- they were run up to the one that the error tells
pub record HaveStopped (r s : Running) (es : List Event) (e : RunError) : Type 0 where
  pub run : HaveRun r s (events_before e es)
  pub illegal : (n : ℕ) → e ≡ Illegal n → first_barred r.world es ≡ Some n
  pub memory : (n : ℕ) → e ≡ OutOfMemory n → n < length es

-- why the next one wasn't
pub record IsWhy (r : Running) (x : Event) (index : ℕ) (e : RunError) : Type 0 where
  pub illegal : (n : ℕ) → e ≡ Illegal n → (n ≡ index) × (legal r.world x ≡ false)
  pub memory : (n : ℕ) → e ≡ OutOfMemory n → n ≡ index

front : (ys : List Event) (x : Event) (rest : List Event) (n : ℕ) → n ≡ length ys → take n (ys ++ x ∷ rest) ≡ ys
front ys x rest n e = ap (λ k. take k (ys ++ x ∷ rest)) e ∙ take-append_seam ys (x ∷ rest)

shorter : (ys : List Event) (x : Event) (rest : List Event) → length ys < length (ys ++ x ∷ rest)
shorter ys x rest = omega (arith, length-append ys (x ∷ rest))

same_place : (m n : ℕ) → OutOfMemory m ≡ OutOfMemory n → m ≡ n
same_place m n e = cc

same_bar : (m n : ℕ) → Illegal m ≡ Illegal n → m ≡ n
same_bar m n e = cc

pub stopped : (r s : Running) (ys : List Event) (x : Event) (rest : List Event) (index : ℕ) (e : RunError) → HaveRun r s ys → index ≡ length ys → IsWhy s x index e → HaveStopped r s (ys ++ x ∷ rest) e
stopped r s ys x rest index (Illegal n) h i why =
    let w = why.illegal n refl in
    let place : n ≡ length ys = w.0 ∙ i in
    record {
      run = subst (HaveRun r s) (sym (front ys x rest n place)) h;
      illegal = λ m same. barred_there r ys x rest h.legal (ap (λ (q : Running). legal q.world x) (sym h.world) ∙ w.1) ∙ ap Some (sym place ∙ same_bar n m same);
      memory = λ m same. absurd cc;
    }
stopped r s ys x rest index (OutOfMemory n) h i why =
    let place : n ≡ length ys = why.memory n refl ∙ i in
    record {
      run = subst (HaveRun r s) (sym (front ys x rest n place)) h;
      illegal = λ m same. absurd cc;
      memory = λ m same. let n_is : n ≡ m = same_place n m same in omega (arith, n_is, place, shorter ys x rest);
    }

-- the same of what the events are of
pub stopped_in : {X : Type 0} (f : X → Event) (r s : Running) (ys : List X) (x : X) (rest all : List X) (index : ℕ) (e : RunError) → ys ++ x ∷ rest ≡ all
    → HaveRun r s (map f ys) → index ≡ length ys → IsWhy s (f x) index e → HaveStopped r s (map f all) e
stopped_in f r s ys x rest all index e is h i why =
    subst (λ es. HaveStopped r s es e) (sym (map_both f ys x rest) ∙ ap (map f) is) (stopped r s (map f ys) (f x) (map f rest) index e h (i ∙ sym (length-map ys f)) why)

-- what is told of them with the error
pub record HaveStoppedBy {A : Type 0} (r s : Running) (es : List Event) (told : Result A RunError) : Type 0 where
  pub run : HaveRun r s (events_run told es)
  pub illegal : (n : ℕ) → told ≡ Err (Illegal n) → first_barred r.world es ≡ Some n

same_error : {A : Type 0} (x y : RunError) → ◌≡◌ {A = Result A RunError} (Err x) (Err y) → x ≡ y
same_error x y e = cc

pub stopped_by : {A : Type 0} (r s : Running) (es : List Event) (e : RunError) (told : Result A RunError) → IsErr told × IsErrAnd told (λ y. y ≡ e) → HaveStopped r s es e → HaveStoppedBy r s es told
stopped_by r s es e (Ok x) is h = absurd (let no : false ≡ true = is.0 in cc)
stopped_by r s es e (Err y) is h =
    let k : HaveStopped r s es y = subst (HaveStopped r s es) (sym is.1) h in
    record { run = k.run; illegal = λ n same. k.illegal n (same_error y (Illegal n) same) }
