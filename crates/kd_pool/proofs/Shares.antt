-- What a walk along the table knows of a user's share.
use Rattle.std.specs.Prelude.{◌≡◌, ◌<◌, ◌≤◌, ◌+◌, ◌*◌, ◌^◌, ◌||◌, nat_le, nat_lt, ℕ, true, false, List, [], ◌∷◌, ◌++◌, cond, length, sum_by, take}
use Rattle.std.proofs.Common.{ap, arith, get_or, length-append, sym, ◌∙◌}
use Rattle.std.proofs.lemmas.Bool.{lt-ltb}
use Rattle.std.proofs.lemmas.Bool.Decides.{nat_tests}
use Rattle.std.proofs.lemmas.List.{take_all}
use Rattle.std.proofs.lemmas.List.Elements.{filter_more}
use Rattle.std.proofs.lemmas.List.Sums.{sum_by-append}
use Rattle.kd_acts.specs.State.{is_pending_of}
use Rattle.kd_acts.specs.Steps.{over_quota, user_share}
use Rattle.kd_acts.specs.declared.slot.Slot.{Slot}

abbrev pub len_of : Slot → ℕ
len_of s = s.len

-- bytes and count of the share among the first slots, and a bound
pub record Shares (slots : List Slot) (i user len bytes count : ℕ) : Type 0 where
  pub sum : bytes ≡ len + sum_by len_of (user_share (take i slots) user)
  pub number : count ≡ length (user_share (take i slots) user)
  pub most : bytes ≤ len + i * (2 ^ 32)
  pub few : count ≤ i

more : (slots : List Slot) (i user : ℕ) (s : Slot) → i < length slots → s ≡ get_or slots i s → user_share (take (i + 1) slots) user ≡ user_share (take i slots) user ++ cond (is_pending_of user s) (s ∷ []) []
more slots i user s h e = filter_more (is_pending_of user) slots i s h ∙ ap (λ (x : Slot). user_share (take i slots) user ++ cond (is_pending_of user x) (x ∷ []) []) (sym e)

-- a slot of the user adds to its share
pub shares_in : (slots : List Slot) (i user len bytes count : ℕ) (s : Slot) → i < length slots → s ≡ get_or slots i s → s.len < 2 ^ 32 → is_pending_of user s ≡ true → Shares slots i user len bytes count → Shares slots (i + 1) user len (bytes + s.len) (count + 1)
shares_in slots i user len bytes count s h e f p a =
    let next : user_share (take (i + 1) slots) user ≡ user_share (take i slots) user ++ s ∷ [] = more slots i user s h e ∙ ap (λ b. user_share (take i slots) user ++ cond b (s ∷ []) []) p in
    record {
      sum = rw (next, sum_by-append len_of) (omega (arith, a.sum));
      number = rw (next, length-append) (omega (arith, a.number));
      most = omega (arith, a.most);
      few = omega (arith, a.few);
    }

-- any other doesn't
pub shares_out : (slots : List Slot) (i user len bytes count : ℕ) (s : Slot) → i < length slots → s ≡ get_or slots i s → is_pending_of user s ≡ false → Shares slots i user len bytes count → Shares slots (i + 1) user len bytes count
shares_out slots i user len bytes count s h e p a =
    let next : user_share (take (i + 1) slots) user ≡ user_share (take i slots) user ++ [] = more slots i user s h e ∙ ap (λ b. user_share (take i slots) user ++ cond b (s ∷ []) []) p in
    record {
      sum = rw (next, sum_by-append len_of) (omega (arith, a.sum));
      number = rw (next, length-append) (omega (arith, a.number));
      most = omega (arith, a.most);
      few = omega (arith, a.few);
    }

-- the whole table's share against half of the pool, or against the count
quota_is : (slots : List Slot) (i size user len bytes count : ℕ) → length slots ≤ i → Shares slots i user len bytes count → over_quota size slots user len ≡ (nat_lt size (2 * bytes) || nat_le 32 count)
unfolding over_quota
quota_is slots i size user len bytes count h a =
    let all : take i slots ≡ slots = take_all i slots h in
    let sum : bytes ≡ sum_by len_of (user_share slots user) + len = omega (arith, a.sum ∙ ap (λ xs. len + sum_by len_of (user_share xs user)) all) in
    let number : count ≡ length (user_share slots user) = a.number ∙ ap (λ xs. length (user_share xs user)) all in
    ap (λ n. nat_lt size (2 * n) || nat_le 32 (length (user_share slots user))) (sym sum) ∙ ap (λ n. nat_lt size (2 * bytes) || nat_le 32 n) (sym number)

pub over_by_bytes : (slots : List Slot) (i size user len bytes count : ℕ) → length slots ≤ i → Shares slots i user len bytes count → size < 2 * bytes → nat_lt size (2 * bytes) ≡ over_quota size slots user len
over_by_bytes slots i size user len bytes count h a over =
    let yes : nat_lt size (2 * bytes) ≡ true = lt-ltb size (2 * bytes) over in
    yes ∙ sym (quota_is slots i size user len bytes count h a ∙ ap (λ b. b || nat_le 32 count) yes)

pub over_by_count : (slots : List Slot) (i size user len bytes count : ℕ) → length slots ≤ i → Shares slots i user len bytes count → 2 * bytes ≤ size → nat_le 32 count ≡ over_quota size slots user len
over_by_count slots i size user len bytes count h a within =
    let not_so : nat_lt size (2 * bytes) ≡ false = grind (arith, nat_tests) in
    sym (quota_is slots i size user len bytes count h a ∙ ap (λ b. b || nat_le 32 count) not_so)
