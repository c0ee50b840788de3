-- What an endpoint comes to.
use Rattle.std.proofs.Common.{◌≡◌, ◌≤◌, ℕ, Bool, true, false, not, List, [], ◌∷◌, length, None, Ok, Err, refl, sym, ap, ◌∙◌, arith}
use Rattle.std.proofs.lemmas.Bool.Decides.{nat_tests}
use Rattle.std.specs.Prelude.{◌||◌, is_some, is_none, nat_lt}
use Rattle.kd_types.specs.declared.creds.Creds.{Creds}
use Rattle.kd_types.specs.declared.refusal.Refusal.{Refusal}
use Rattle.kd_types.specs.declared.refusal.Refusal.TheVariants.{BadName, BadFlags, TooMany, NotPermitted, EndpointExists}
use Rattle.kd_model.specs.Words.{first_that_holds, some_of}
use Rattle.kd_model.proofs.Truth.{left_false, right_false}
use Rattle.kd_name.specs.Names.{is_label}
use Rattle.kd_wire.specs.declared.item.WireItem.{WireItem}
use Rattle.kd_wire.specs.declared.reply.Reply.TheVariants as reply
use Rattle.kd_policy.specs.declared.entry.Entry.{Entry}
use Rattle.kd_policy.specs.declared.owner.Owner.TheVariants as owner
use Rattle.kd_policy.specs.Policy.{after_put, has_star, is_ill_named, put_refusal}
use Rattle.kd_endpoint.specs.Labels.{add_answer, after_add, free_place, label_number, label_refusal}
use Rattle.kd_commands.specs.declared.who.WhoKind.TheVariants as who
use Rattle.kd_commands.specs.State.{Desk}
use Rattle.kd_commands.specs.Endpoints.{endpoint_make, endpoint_refusals, label_in, next_endpoint, with_endpoint}
use Rattle.kd_commands.specs.Items.{entries_in}
use Rattle.kd_commands.specs.Plans.{Plan}
use Rattle.kd_commands.specs.Rights.{is_privileged}
use Rattle.kd_desk.specs.Keeping.{endpoint_judged, endpoint_tests}
use Rattle.kd_desk.proofs.Quiet.{all_fail, by_judge, skip, judged_err, judged_ok, unless_none, unless_why}

abbrev new_label : Desk → List ℕ → List (Bool × Refusal)
new_label d label = (is_some (label_number d.endpoints label), EndpointExists) ∷ (is_none (free_place d.endpoints), TooMany 8) ∷ []

-- the book of labels has the last word
pub last_judged : (d : Desk) (creds : Creds) (label : List ℕ) (es : List Entry) → (not (is_label label) || some_of is_ill_named es) ≡ false → some_of has_star es ≡ false → is_privileged d creds ≡ true
    → is_some (label_number d.endpoints label) ≡ false → length es ≤ 256 → add_answer d.endpoints label ≡ endpoint_judged d creds label es
unfolding endpoint_judged add_answer label_refusal
last_judged d creds label es ill star may new few =
    let short : nat_lt 256 (length es) ≡ false = grind (arith, nat_tests) in
    let free : List (Bool × Refusal) = (is_none (free_place d.endpoints), TooMany 8) ∷ [] in
    let four : List (Bool × Refusal) = (nat_lt 256 (length es), TooMany 256) ∷ free in
    let three : List (Bool × Refusal) = (is_some (label_number d.endpoints label), EndpointExists) ∷ four in
    let two : List (Bool × Refusal) = (not (is_privileged d creds), NotPermitted) ∷ three in
    let one : List (Bool × Refusal) = (some_of has_star es, BadFlags) ∷ two in
    ap (λ o. by_judge o (next_endpoint d))
    (skip (not (is_label label)) BadName (new_label d label) (left_false (not (is_label label)) (some_of is_ill_named es) ill)
    ∙ skip (is_some (label_number d.endpoints label)) EndpointExists free new
    ∙ sym (skip (not (is_label label) || some_of is_ill_named es) BadName one ill
    ∙ skip (some_of has_star es) BadFlags two star
    ∙ skip (not (is_privileged d creds)) NotPermitted three (ap not may)
    ∙ skip (is_some (label_number d.endpoints label)) EndpointExists four new
    ∙ skip (nat_lt 256 (length es)) (TooMany 256) free short))

-- the definition's plan, or its refusal
abbrev made : Desk → ℕ → List ℕ → List Entry → Plan
made d n label es = record {
  parts = [];
  reply = reply.EndpointMake;
  next = record d {
    endpoints = after_add d.endpoints label;
    policy = after_put d.policy (owner.Endpoint n) es;
  };
  becomes = who.Keeper n;
}

pub make_refused : (d : Desk) (creds : Creds) (is : List WireItem) (label : List ℕ) (es : List Entry) (why : Refusal) → label ≡ label_in is → es ≡ entries_in is → Err why ≡ endpoint_judged d creds label es → endpoint_make d creds is ≡ Err why
unfolding endpoint_make endpoint_refusals endpoint_judged
make_refused d creds is label es why l e judged =
    unless_why (first_that_holds (endpoint_tests d creds label es)) (endpoint_refusals d creds is) _ why (rw (l, e) refl) (judged_err (first_that_holds (endpoint_tests d creds label es)) (next_endpoint d) why judged)

pub make_planned : (d : Desk) (creds : Creds) (is : List WireItem) (label : List ℕ) (es : List Entry) (n : ℕ) → label ≡ label_in is → es ≡ entries_in is → Ok n ≡ endpoint_judged d creds label es → endpoint_make d creds is ≡ Ok (made d n label es)
unfolding endpoint_make endpoint_refusals endpoint_judged with_endpoint
make_planned d creds is label es n l e judged =
    let fine = judged_ok (first_that_holds (endpoint_tests d creds label es)) (next_endpoint d) n judged in
    rw (fine.1, l, e) (unless_none (endpoint_refusals d creds is) _ (sym (ap (λ (k : List ℕ). first_that_holds (endpoint_tests d creds k (entries_in is))) l) ∙ sym (ap (λ fs. first_that_holds (endpoint_tests d creds label fs)) e) ∙ fine.0))

-- it is added as it was judged
pub make_fits : (d : Desk) (creds : Creds) (label : List ℕ) (es : List Entry) (n : ℕ) → Ok n ≡ endpoint_judged d creds label es → (add_answer d.endpoints label ≡ Ok n) × (put_refusal (owner.Endpoint n) es ≡ None)
unfolding endpoint_judged add_answer label_refusal put_refusal
make_fits d creds label es n judged =
    let fine = judged_ok (first_that_holds (endpoint_tests d creds label es)) (next_endpoint d) n judged in
    let fail = all_fail (endpoint_tests d creds label es) fine.0 in
    let ill = fail.0 in
    let label_is : not (is_label label) ≡ false = left_false (not (is_label label)) (some_of is_ill_named es) ill in (
      ap (λ o. by_judge o (next_endpoint d))
          (skip (not (is_label label)) BadName (new_label d label) label_is
          ∙ skip (is_some (label_number d.endpoints label)) EndpointExists ((is_none (free_place d.endpoints), TooMany 8) ∷ []) fail.1.1.1.0
          ∙ skip (is_none (free_place d.endpoints)) (TooMany 8) [] fail.1.1.1.1.1.0)
          ∙ ap Ok (sym fine.1),
      skip (some_of is_ill_named es) BadName ((some_of has_star es, BadFlags) ∷ (nat_lt 256 (length es), TooMany 256) ∷ []) (right_false (not (is_label label)) (some_of is_ill_named es) ill)
          ∙ skip (some_of has_star es) BadFlags ((nat_lt 256 (length es), TooMany 256) ∷ []) fail.1.0
          ∙ skip (nat_lt 256 (length es)) (TooMany 256) [] fail.1.1.1.1.0,
    )
