-- The passes of a load, from their coming to the end.
use Rattle.std.proofs.Common.{◌≡◌, ◌<◌, ◌≤◌, ◌==◌, ◌%◌, ℕ, zero, suc, ◌+◌, ◌-◌, Bool, true, false, List, [], ◌∷◌, ◌++◌, refl, ap, sym, subst, ◌∙◌, arith}
use Rattle.std.specs.List.{AllByRecursion}
use native.Mathlib.Nat.{mod-lt}
use Rattle.kd_model.specs.Words.{those}
use Rattle.kd_hands.specs.Lists.{made_by}
use Rattle.kd_histories.specs.Turns.{Turn}
use Rattle.kd_histories.specs.Slots.{AreTold, Slot, slot_after, unborn}
use Rattle.kd_load.specs.declared.message.Message.{Message}
use Rattle.kd_load.specs.declared.message.Target.TheVariants.{All, One}
use Rattle.kd_load.specs.Load.{messages, messages_of, next_state, number_drawn, state_behind, target}
use Rattle.kd_load.specs.Bus.{AreSendings, IsMessage, IsSetUp, IsTarget}
use Rattle.kd_load.specs.Laws.{IsFront, LoadsRun}
use Rattle.kd_load.proofs.Coming.{set_up_is_front}
use Rattle.kd_load.proofs.Mixed.{AreMixed, mixed}
use Rattle.kd_load.proofs.Turns.{made_append, same_rest, set_up}
use Rattle.kd_load.proofs.Whole.{loads_are_counted}

-- ---- the messages of a thread are messages of its load

target_within : (n a b : ℕ) → 1 ≤ n → IsTarget n (target n a b)
target_within n a b some = go (a % 4 == 0)
  where
    go : (c : Bool) → IsTarget n (elim c [ true ↦ All (b % 8) | false ↦ One (1 + b % n) ])
    go true = mod-lt b (omega arith)
    go false = let lt = mod-lt b some in (omega arith, omega (arith, lt))

all_within : (n sender count x k : ℕ) → 1 ≤ n → 1 ≤ sender → sender ≤ n → AllByRecursion (λ (m : Message). IsMessage n m × (m.sender ≡ sender)) (messages n sender count x k)
unfolding messages
all_within n sender zero x k some first last = tt
all_within n sender (suc count) x k some first last = (
  (record { some = first; low = last; target = target_within n (number_drawn (next_state x)) (number_drawn (next_state (next_state x))) some }, refl),
  all_within n sender count (state_behind x) (k + 1) some first last,
)

-- ---- the lists

told_before : (s : Slot) (xs ys : List (ℕ × Turn)) → AreTold s (xs ++ ys) → AreTold s xs
unfolding AreTold
told_before s [] ys told = tt
told_before s (x ∷ xs) ys told = (told.0, told_before (slot_after x.1 s) xs ys told.1)

no_more : {X : Type 0} (xs ys : List X) → xs ++ ys ≡ [] → ys ≡ []
no_more [] ys e = e
no_more (x ∷ xs) ys e = absurd cc

pub loads_run : LoadsRun
loads_run filters seed n sends h fronts some few are tie shut turns sent =
    let front : List (ℕ × Turn) = fronts n in
    let run : List (ℕ × Turn) = turns.ends.0 in
    let list : h.lists 0 ≡ front ++ run = sym turns.ends.1 in
    let set : IsSetUp filters n front = subst (λ (q : ℕ). IsSetUp filters q (fronts q)) (omega arith) (set_up filters n fronts (h.lists 0) turns (n - 1) (omega arith)) in
    let is_front : IsFront filters n front = set_up_is_front filters n front few are (told_before unborn front run (subst (AreTold unborn) list tie.told)) set in
    let rest : (k : ℕ) (lt : k < n) → made_by k run ≡ (sent k lt).rest = λ k lt.
    same_rest (made_by k front) (made_by k run) (sent k lt).rest (sym (made_append k front run) ∙ (ap (made_by k) (sym list) ∙ (sent k lt).own)) in
    let mix : AreMixed filters n (λ k. messages_of seed n sends (suc k)) run = mixed filters n run (λ k. messages_of seed n sends (suc k)) record {
      each = λ k lt. subst (AreSendings filters (messages_of seed n sends (suc k))) (sym (rest k lt)) (sent k lt).sent;
      senders = λ k lt. all_within n (suc k) sends _ 1 some (omega arith) (omega arith);
      nobody = λ k past. no_more (made_by k front) (made_by k run) (sym (made_append k front run) ∙ (ap (made_by k) (sym list) ∙ turns.nobody k past));
    } in
    loads_are_counted filters seed n sends h front run mix.all few are tie shut list is_front mix.sendings record {
      each = mix.each;
      shares = λ i first last. subst (λ (q : ℕ). those (λ (m : Message). m.sender == q) mix.all ≡ messages_of seed n sends q) (omega arith) (mix.shares (i - 1) (omega arith));
    }
