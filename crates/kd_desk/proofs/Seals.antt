-- Seals: what a SEAL comes to.
use Rattle.std.proofs.Common.{◌≡◌, ◌<◌, ◌≤◌, ◌^◌, ◌-◌, ℕ, Bool, true, false, ◌&&◌, ◌||◌, List, length, Option, Some, None, Result, Ok, Err, refl, sym, ap, inl, inr, arith}
use Rattle.std.specs.Prelude.{◌⊎◌, IsTrue, nat_lt}
use Rattle.std.proofs.lemmas.Bool.Decides.{nat_tests}
use Rattle.kd_types.specs.declared.refusal.Refusal.{Refusal}
use Rattle.kd_model.proofs.Truth.{left_true, right_true}
use Rattle.kd_wire.specs.declared.reply.Reply.TheVariants as reply
use Rattle.kd_seal.specs.Book.{has_counted, next_number, seal_answer, seal_refusal, with_seal}
use Rattle.kd_commands.specs.declared.conn.Conn.{Conn}
use Rattle.kd_commands.specs.State.{Desk}
use Rattle.kd_commands.specs.Seals.{seal}
use Rattle.kd_commands.specs.Plans.{Plan, quiet}
use Rattle.kd_tables.specs.declared.change.Change.TheVariants as change
use Rattle.kd_tables.specs.Drafts.{Fits, applied}

-- by the number that is given, or the refusal
abbrev given : Result ℕ Refusal → (ℕ → Plan) → Result Plan Refusal
given o p = elim o [ Err r ↦ Err r | Ok n ↦ Ok (p n) ]

by_number : (o : Result ℕ Refusal) (p : ℕ → Plan) (number : ℕ) → Ok number ≡ o → given o p ≡ Ok (p number)
by_number (Ok n) p number e = let is : number ≡ n = cc in ap (λ k. Ok (p k)) (sym is)
by_number (Err r) p number e = absurd cc

by_refusal : (o : Result ℕ Refusal) (p : ℕ → Plan) (why : Refusal) → Err why ≡ o → given o p ≡ Err why
by_refusal (Ok n) p why e = absurd cc
by_refusal (Err r) p why e = let is : why ≡ r = cc in ap Err (sym is)

pub seal_refused : (d : Desk) (c : Conn) (bytes : List ℕ) (why : Refusal) → Err why ≡ seal_answer d.seals c.id (length bytes) → seal d c bytes ≡ Err why
unfolding seal
seal_refused d c bytes why e = by_refusal (seal_answer d.seals c.id (length bytes)) (λ n. quiet c (reply.Seal n) (record d { seals = with_seal d.seals c.id bytes })) why e

pub seal_planned : (d : Desk) (c : Conn) (bytes : List ℕ) (number : ℕ) → Ok number ≡ seal_answer d.seals c.id (length bytes)
    → seal d c bytes ≡ Ok (quiet c (reply.Seal number) (applied (change.Seals c.id bytes) d))
unfolding seal applied
seal_planned d c bytes number e = by_number (seal_answer d.seals c.id (length bytes)) (λ n. quiet c (reply.Seal n) (record d { seals = with_seal d.seals c.id bytes })) number e

below : (n most : ℕ) → nat_lt n most ≡ true → n < most
below n most h = grind (arith, nat_tests)

-- whoever has a counter needs no room for one
counted : (a : Bool) (n : ℕ) → (a || nat_lt n 64) ≡ true → IsTrue a ⊎ (n < 64)
counted true n h = inl refl
counted false n h = inr (below n 64 h)

abbrev numbering : Option Refusal → ℕ → Result ℕ Refusal
numbering o n = elim o [ Some why ↦ Err why | None ↦ Ok n ]

numbered : (o : Option Refusal) (n number : ℕ) → Ok number ≡ numbering o n → number ≡ n
numbered None n number e = cc
numbered (Some why) n number e = absurd cc

pub seal_fits : (d : Desk) (id : ℕ) (bytes : List ℕ) (number : ℕ) → Ok number ≡ seal_answer d.seals id (length bytes) → number ≤ 2 ^ 63 - 1
    → (nat_lt (length d.seals.seals) 1024 && (has_counted d.seals id || nat_lt (length d.seals.counters) 64)) ≡ true → Fits d (change.Seals id bytes)
unfolding Fits
seal_fits d id bytes number e low room =
    let few : Bool = nat_lt (length d.seals.seals) 1024 in
    let counter : Bool = has_counted d.seals id || nat_lt (length d.seals.counters) 64 in
    let next : number ≡ next_number d.seals id = numbered (seal_refusal d.seals id (length bytes)) (next_number d.seals id) number e in
    record {
      answer = (number, sym e);
      seals = below (length d.seals.seals) 1024 (left_true few counter room);
      counters = counted (has_counted d.seals id) (length d.seals.counters) (right_true few counter room);
      numbers = omega (arith, next, low);
    }
