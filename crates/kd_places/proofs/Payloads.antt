-- A reader of payloads, up to where it breaks.
use Rattle.std.proofs.Common.{◌≡◌, ℕ, ◌+◌, ◌≤◌, Bool, true, false, cond, ltb, List, [], ◌∷◌, ◌++◌, length, take, drop, map, replicate, Option, Some, None, Result, Ok, Err, refl, sym, ap, subst, ◌∙◌, append_assoc, length-append, length-drop, arith, inl, inr}
use Rattle.std.proofs.lemmas.Bool.{ltb-false}
use Rattle.std.proofs.lemmas.List.{drop-drop, length-replicate, length-take-le, take-append-drop}
use Rattle.std.proofs.lemmas.Option.{cond_some}
use Rattle.kd_model.proofs.Truth.{let_through, option_cases}
use Rattle.kd_item.specs.Reading.{are_zeros}
use Rattle.kd_item.specs.Spelling.{padding}
use Rattle.kd_item.proofs.Zeros.{zeros_back}
use Rattle.kd_types.specs.Words.{is_empty}
use Rattle.kd_types.specs.declared.reply_error.ReplyError.{ReplyError}
use Rattle.kd_types.specs.declared.reply_error.ReplyError.TheVariants.{Bad}
use Rattle.kd_image.specs.Images.{laid, padded}
use Rattle.kd_image.specs.Items.{padded_length}
use Rattle.kd_image.specs.Reading.{payload_at, payloads_from}
use Rattle.kd_image.proofs.Again.{payload_again}
use Rattle.kd_places.specs.Images.{BeginPayloads, PayloadPlacesAreTrue}

abbrev Payloads : Type 0
Payloads = Result (List (List ℕ)) ReplyError

abbrev bad : ℕ → Payloads
bad at = Err (Bad at)

abbrev good : List (List ℕ) → Payloads
good ps = Ok ps

same_bad : (a b : ℕ) → bad a ≡ bad b → a ≡ b
same_bad a b e = cc

ended_or_not : (b : Bool) (done : List (List ℕ)) (a at : ℕ) → cond b (good done) (bad a) ≡ bad at → a ≡ at
ended_or_not true done a at e = absurd cc
ended_or_not false done a at e = same_bad a at e

-- a payload that is found is there with its zeros
payload_found : (n : ℕ) (bytes : List ℕ) (x : List ℕ × List ℕ) → payload_at n bytes ≡ Some x → (bytes ≡ padded x.0 ++ x.1) × (length x.0 ≡ n)
unfolding payload_at
payload_found n bytes x e =
    let zs : List ℕ = take (padding n) (drop n bytes) in
    let run : List ℕ = take n bytes in
    let made : List ℕ × List ℕ = (run, drop (padded_length n) bytes) in
    let a = let_through (ltb (length bytes) (padded_length n)) _ x e in
    let b = cond_some (are_zeros zs) made x a.1 in
    let inside : n + padding n ≤ length bytes = ltb-false _ _ a.0 in
    let many : length run ≡ n = length-take-le n bytes (omega (arith, inside)) in
    let fill : length zs ≡ padding n = length-take-le (padding n) (drop n bytes) (let l = length-drop n bytes in omega (arith, l, inside)) in
    let zero_run : zs ≡ replicate (padding (length run)) 0 = zeros_back zs b.0 ∙ ap (λ m. replicate m 0) (fill ∙ ap padding (sym many)) in
    let left : List ℕ = drop (padding n) (drop n bytes) in
    let rest : left ≡ drop (padded_length n) bytes = drop-drop (padding n) n bytes in
    let parts : bytes ≡ padded run ++ drop (padded_length n) bytes =
    sym (ap (λ (l : List ℕ). padded run ++ l) (sym rest) ∙ append_assoc run (replicate (padding (length run)) 0) left
    ∙ ap (λ (l : List ℕ). run ++ l) (ap (λ (l : List ℕ). l ++ left) (sym zero_run) ∙ take-append-drop (padding n) (drop n bytes)) ∙ take-append-drop n bytes) in
    subst (λ (y : List ℕ × List ℕ). (bytes ≡ padded y.0 ++ y.1) × (length y.0 ≡ n)) b.1 (parts, many)

padded_long : (p : List ℕ) → length (padded p) ≡ padded_length (length p)
padded_long p =
    let zs : List ℕ = replicate (padding (length p)) 0 in
    let r : length zs ≡ padding (length p) = length-replicate (padding (length p)) 0 in
    let l = length-append p zs in
    omega (arith, l, r)

-- what the reader of the next ones does
on_payload : List (List ℕ) → ℕ → ℕ → List ℕ → Option (List ℕ × List ℕ) → Payloads
on_payload done at n ns o = elim o [ None ↦ bad at | Some x ↦ payloads_from (done ++ x.0 ∷ []) (at + padded_length n) ns x.1 ]

pub payloads_before : (ns : List ℕ) (done : List (List ℕ)) (from at : ℕ) (bytes : List ℕ) → payloads_from done from ns bytes ≡ bad at → BeginPayloads from ns bytes at
payloads_before [] done from at bytes e =
    let is = ended_or_not (is_empty bytes) done from at e in
    record { payloads = []; long = refl; rest = bytes; spelled = refl; ends = omega (arith, is) }
payloads_before (n ∷ ns) done from at bytes e =
    elim (option_cases (payload_at n bytes)) [
      | inl none ↦
          let is = same_bad from at (sym (ap (λ (o : Option (List ℕ × List ℕ)). elim o [ None ↦ bad from | Some x ↦ payloads_from (done ++ x.0 ∷ []) (from + padded_length n) ns x.1 ]) none) ∙ e) in
          record { payloads = []; long = refl; rest = bytes; spelled = refl; ends = omega (arith, is) }
      | inr some ↦
          let x = some.0 in
          let f = payload_found n bytes x some.1 in
          let more = payloads_before ns (done ++ x.0 ∷ []) (from + padded_length n) at x.1
          (sym (ap (λ (o : Option (List ℕ × List ℕ)). elim o [ None ↦ bad from | Some x ↦ payloads_from (done ++ x.0 ∷ []) (from + padded_length n) ns x.1 ]) some.1) ∙ e) in
          let l = length-append (padded x.0) (laid more.payloads) in
          let p = padded_long x.0 in
          let same : padded_length (length x.0) ≡ padded_length n = ap padded_length f.1 in
          let there = more.ends in
          record {
            payloads = x.0 ∷ more.payloads;
            long = ap (λ m. m ∷ map length more.payloads) f.1 ∙ ap (λ (l : List ℕ). n ∷ l) more.long;
            rest = more.rest;
            spelled = f.0 ∙ ap (λ (l : List ℕ). padded x.0 ++ l) more.spelled ∙ sym (append_assoc (padded x.0) (laid more.payloads) more.rest);
            ends = omega (arith, l, p, same, there);
          }
    ]

pub payloads_reach : (ps : List (List ℕ)) (ns : List ℕ) (done : List (List ℕ)) (from at : ℕ) (bytes rest : List ℕ) → map length ps ≡ take (length ps) ns → bytes ≡ laid ps ++ rest
    → payloads_from done from ns bytes ≡ bad at → from + length (laid ps) ≤ at
payloads_reach [] ns done from at bytes rest long is e = let b = (payloads_before ns done from at bytes e).ends in omega (arith, b)
payloads_reach (p ∷ ps) [] done from at bytes rest long is e = absurd cc
payloads_reach (p ∷ ps) (n ∷ ns) done from at bytes rest long is e =
    let one : length p ≡ n = cc in
    let others : map length ps ≡ take (length ps) ns = cc in
    let parts : bytes ≡ padded p ++ (laid ps ++ rest) = is ∙ append_assoc (padded p) (laid ps) rest in
    let found : payload_at n bytes ≡ Some (p, laid ps ++ rest) = ap (λ m. payload_at m bytes) (sym one) ∙ ap (payload_at (length p)) parts ∙ payload_again p (laid ps ++ rest) in
    let on = payloads_reach ps ns (done ++ p ∷ []) (from + padded_length n) at (laid ps ++ rest) rest others refl
    (sym (ap (λ (o : Option (List ℕ × List ℕ)). elim o [ None ↦ bad from | Some x ↦ payloads_from (done ++ x.0 ∷ []) (from + padded_length n) ns x.1 ]) found) ∙ e) in
    let l = length-append (padded p) (laid ps) in
    let w = padded_long p in
    let same : padded_length (length p) ≡ padded_length n = ap padded_length one in
    omega (arith, on, l, w, same)

pub payload_places_are_true : PayloadPlacesAreTrue
payload_places_are_true size at lengths bytes e = record {
  before = payloads_before lengths [] size at bytes e;
  here = λ place b. let r = payloads_reach b.payloads lengths [] size at bytes b.rest b.long b.spelled e in let p = b.ends in omega (arith, r, p);
}
