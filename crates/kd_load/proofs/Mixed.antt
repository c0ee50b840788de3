-- Entries of passes that follow each other in some order, each the SEND of a message.
use Rattle.std.proofs.Common.{◌≡◌, ◌≢◌, ◌<◌, ◌≤◌, ◌==◌, ◌⊎◌, inl, inr, ℕ, suc, List, [], ◌∷◌, refl, ap, sym, subst, ◌∙◌, arith}
use Rattle.std.specs.List.{AllByRecursion}
use Rattle.std.proofs.lemmas.Bool.{cases_eq, cases_lt}
use Rattle.kd_model.specs.Words.{those}
use Rattle.kd_hands.specs.Lists.{at_place, made_by}
use Rattle.kd_hands.proofs.Places.{every, place_else, place_here}
use Rattle.kd_histories.specs.Turns.{Turn}
use Rattle.kd_load.specs.declared.message.Message.{Message}
use Rattle.kd_load.specs.Bus.{AreSendings, IsMessage, IsSending}
use Rattle.kd_load.proofs.Ranges.{other_number, same_number}

-- what each of n passes sends, as the connection behind its number
pub record AreShares (filters : List (List ℕ)) (n : ℕ) (mine : ℕ → List Message) (list : List (ℕ × Turn)) : Type 0 where
  pub each : (k : ℕ) → k < n → AreSendings filters (mine k) (made_by k list)
  pub senders : (k : ℕ) → k < n → AllByRecursion (λ (m : Message). IsMessage n m × (m.sender ≡ suc k)) (mine k)
  pub nobody : (k : ℕ) → n ≤ k → made_by k list ≡ []

-- messages in the order of the entries
pub record AreMixed (filters : List (List ℕ)) (n : ℕ) (mine : ℕ → List Message) (list : List (ℕ × Turn)) : Type 0 where
  pub all : List Message
  pub sendings : AreSendings filters all list
  pub each : AllByRecursion (IsMessage n) all
  pub shares : (k : ℕ) → k < n → those (λ (m : Message). m.sender == suc k) all ≡ mine k

pub made_here : (k : ℕ) (e : Turn) (xs : List (ℕ × Turn)) → made_by k ((k, e) ∷ xs) ≡ (k, e) ∷ made_by k xs
made_here k e xs = rw (same_number k) refl

made_else : (k j : ℕ) (e : Turn) (xs : List (ℕ × Turn)) → j ≢ k → made_by k ((j, e) ∷ xs) ≡ made_by k xs
made_else k j e xs ne = rw (other_number j k ne) refl

-- the first of what a pass sends is that of its first entry
first_of : (filters : List (List ℕ)) (ms : List Message) (x : ℕ × Turn) (xs : List (ℕ × Turn)) → AreSendings filters ms (x ∷ xs)
    → (m : Message) × (rest : List Message) × (ms ≡ m ∷ rest) × IsSending filters m x.1 × AreSendings filters rest xs
first_of filters [] x xs are = absurd are
first_of filters (m ∷ ms) x xs are = (m, ms, refl, are.0, are.1)

none_empty : {X : Type 0} (x : X) (xs : List X) → x ∷ xs ≡ [] → ⊥
none_empty x xs e = cc

module _ (filters : List (List ℕ)) (n : ℕ) where
  pub mixed : (list : List (ℕ × Turn)) (mine : ℕ → List Message) → AreShares filters n mine list → AreMixed filters n mine list
  mixed [] mine are = record {
    all = [];
    sendings = tt;
    each = tt;
    shares = λ k lt. none (mine k) (are.each k lt);
  }
    where
      none : (ms : List Message) → AreSendings filters ms [] → [] ≡ ms
      none [] are = refl
      none (m ∷ ms) are = absurd are
  mixed ((j, e) ∷ xs) mine are =
      let lt : j < n = below (cases_lt j n) in
      let f = first_of filters (mine j) (j, e) (made_by j xs) (subst (AreSendings filters (mine j)) (made_here j e xs) (are.each j lt)) in
      let m : Message = f.0 in
      let rest : List Message = f.1 in
      let ok = subst (AllByRecursion (λ (m : Message). IsMessage n m × (m.sender ≡ suc j))) f.2 (are.senders j lt) in
      let less : ℕ → List Message = at_place mine j rest in
      let later = mixed xs less record {
        each = λ k lt. every (λ k ms. k < n → AreSendings filters ms (made_by k xs)) mine j rest (λ _. f.4)
            (λ k ne lt. subst (AreSendings filters (mine k)) (made_else k j e xs (λ z. ne (sym z))) (are.each k lt)) k lt;
        senders = λ k lt. every (λ k ms. k < n → AllByRecursion (λ (m : Message). IsMessage n m × (m.sender ≡ suc k)) ms) mine j rest (λ _. ok.1) (λ k ne lt. are.senders k lt) k lt;
        nobody = λ k past. sym (made_else k j e xs (λ z. let z' : j ≡ k = z in absurd (omega arith))) ∙ are.nobody k past;
      } in
      record {
        all = m ∷ later.all;
        sendings = (f.3, later.sendings);
        each = (ok.0.0, later.each);
        shares = λ k lt. with_first m later.all k j ok.0.1 rest f.2 (later.shares k lt) (cases_eq j k);
      }
    where
      below : (j < n) ⊎ (n ≤ j) → j < n
      below (inl lt) = lt
      below (inr past) = absurd (none_empty (j, e) (made_by j xs) (sym (made_here j e xs) ∙ are.nobody j past))

      with_first : (m : Message) (ms : List Message) (k j : ℕ) → m.sender ≡ suc j → (rest : List Message) → mine j ≡ m ∷ rest
          → those (λ (m : Message). m.sender == suc k) ms ≡ at_place mine j rest k → (j ≡ k) ⊎ (j ≡ k → ⊥) → those (λ (m : Message). m.sender == suc k) (m ∷ ms) ≡ mine k
      with_first m ms k j sender rest is later (inl same) =
          rw (ap (λ (q : ℕ). q == suc k) (sender ∙ ap (λ (q : ℕ). suc q) same) ∙ same_number (suc k))
          (ap (λ zs. m ∷ zs) (later ∙ place_here mine j k rest (sym same)) ∙ (sym is ∙ ap mine same))
      with_first m ms k j sender rest is later (inr ne) =
          rw (ap (λ (q : ℕ). q == suc k) sender ∙ other_number (suc j) (suc k) (λ z. ne (omega arith)))
          (later ∙ place_else mine j k rest (λ z. ne (sym z)))
