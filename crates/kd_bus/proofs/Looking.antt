-- A pass reads from a pool.
use Rattle.std.specs.Prelude.{◌≡◌, ◌≤◌, ◌+◌, ◌*◌, ℕ, suc, ◌&&◌, Bool, true, false, not, List, [], ◌∷◌, ◌++◌, length, Option, Some, None, Result, Vec, get_or, refl}
use Rattle.std.specs.Global.{Global}
use Rattle.std.proofs.Common.{sym, ap, ◌∙◌, subst, arith, inl, inr}
use Rattle.kd_types.specs.declared.refusal.Refusal.{Refusal}
use Rattle.kd_types.specs.declared.refusal.Refusal.TheVariants.{NoSuchSlice}
use Rattle.kd_acts.specs.State.{Answer, Hold, Pool, read, refused}
use Rattle.kd_acts.specs.Steps.{after, answer, open_step, pool_step}
use Rattle.kd_acts.specs.Lasting.{is_handed_in}
use Rattle.kd_world.specs.declared.told.Told.{Told}
use Rattle.kd_hands.specs.declared.views.Part.{Part}
use Rattle.kd_hands.specs.declared.views.View.{View}
use Rattle.kd_hands.specs.Views.{part, hand}
use Rattle.kd_hands.specs.Lists.{hand_has}
use mathlib.Core.Logic.{dite}
use native.Mathlib.Decide.{ℕ_discrete}
use Rattle.kd_holds.specs.Counts.{IsBelow}
use Rattle.kd_holds.proofs.Counting.{weaker_below}
use Rattle.kd_commands.specs.declared.who.WhoKind.TheVariants as who
use Rattle.kd_histories.specs.Turns.{Did, Turn, did, idle}
use Rattle.kd_histories.specs.Pools.{IsAnswered, IsDone, hold_after, hold_freed, hold_of}
use Rattle.kd_histories.specs.Lent.{hand_by}
use Rattle.kd_histories.specs.Puts.{HoldsAlone, IsOwn, OwesPut}
use Rattle.kd_histories.proofs.Puts.{idles_may_be_put, reads_may_be_put}
use Rattle.kd_bus.specs.declared.conn.Conn.{Conn}
use Rattle.kd_bus.specs.declared.locked.Locked.TheVariants as locked
use Rattle.kd_bus.specs.Slips.{is_wanting, read_told, read_turn}
use Rattle.kd_bus.specs.Values.{stands}
use Rattle.kd_bus.specs.Turned.{Belongs, OneTurn, Reads, is_given_back, is_kept, read_answer}
use Rattle.kd_bus.proofs.Alone.{TookIt, PassedIt, hold_is, pool_more, took, turn_so}

-- a read leaves its pool as it is
read_leaves : (h : Hold) (n : ℕ) (sealed : Bool) → after h (read n sealed) ≡ h
unfolding pool_step open_step
read_leaves h n sealed = go h.pool
  where
    go : (o : Option Pool) → after (record { generation = h.generation; pool = o }) (read n sealed) ≡ record { generation = h.generation; pool = o }
    go None = refl
    go (Some p) = refl

-- what isn't found is handed in the pool
found : (h : Hold) (told : List (Option Told)) (n : ℕ) (sealed : Bool) → IsAnswered h (read n sealed) (read_answer h told n sealed)
found h told n sealed = go (is_handed_in n h) refl (not (is_kept (told_at n)))
  where
    told_at : ℕ → Option Told
    told_at k = get_or told k None

    go : (b : Bool) → is_handed_in n h ≡ b → (c : Bool) → IsAnswered h (read n sealed) (elim (b && c) [ true ↦ refused NoSuchSlice | false ↦ answer h (read n sealed) ])
    go true e true = inr (refl, e)
    go true e false = inl refl
    go false e c = inl refl

-- the pass took the lock of the seat s, whose pool is h
module _ (s l : ℕ) (at : l ≡ suc s) (v v₁ : View Turn) (h : Hold) (took_l : TookIt l v v₁ (locked.Pool h)) (free : (k : ℕ) → (part v k).holds ≡ false)
    (n g : ℕ) (sealed : Bool) (told : List (Option Told)) (r : Result (Vec ℕ Global) Refusal) (gen : g ≡ h.generation) (is : is_wanting r ≡ false → read_told r ≡ read_answer h told n sealed) (e : Turn) (says : e ≡ read_turn g n sealed r) where
  abbrev seen : List (ℕ × Turn)
  seen = (part v₁ (suc s)).seen

  same : hold_of seen ≡ h
  same = hold_is s l at v v₁ h took_l

  abbrev by : Bool → Turn
  by b = elim b [ true ↦ idle | false ↦ did (record { generation = g; freed = []; act = read n sealed; answer = read_told r }) ]

  leaves : (b : Bool) → hold_after (by b) h ≡ h
  unfolding hold_after hold_freed
  leaves true = refl
  leaves false = read_leaves h n sealed

  pub read_stands : stands l ((part v₁ l).seen ++ (v₁.name, e) ∷ []) (locked.Pool h)
  read_stands = subst (λ k. stands k ((part v₁ k).seen ++ (v₁.name, e) ∷ []) (locked.Pool h)) (sym at)
      (pool_more s seen (v₁.name, e) h (ap (λ t. hold_after t (hold_of seen)) says ∙ (ap (hold_after (read_turn g n sealed r)) same ∙ leaves (is_wanting r)))
      (weaker_below (257 * length seen) (257 * length seen + 257) h (omega arith) (subst (IsBelow (257 * length seen)) same (took s l at v v₁ h took_l).value.1)))

  alone : HoldsAlone s v₁
  alone = record { desk = ap (λ (p : Part Turn). p.holds) ((took s l at v v₁ h took_l).others 0 (λ z. omega arith)) ∙ free 0; held = (took s l at v v₁ h took_l).holds; swept = (took s l at v v₁ h took_l).swept }

  is_done : is_wanting r ≡ false → IsDone (hold_of seen) (record { generation = g; freed = []; act = read n sealed; answer = read_told r })
  unfolding hold_freed
  is_done off = subst (λ x. IsDone x (record { generation = g; freed = []; act = read n sealed; answer = read_told r })) (sym same)
      record { generation = gen; rising = tt; sweeps = λ _. refl; answer = subst (IsAnswered h (read n sealed)) (sym (is off)) (found h told n sealed) }

  owed_by : (b : Bool) → is_wanting r ≡ b → OwesPut v₁ (suc s) (by b)
  owed_by true e = idles_may_be_put s v₁ alone
  owed_by false e = reads_may_be_put s n sealed (record { generation = g; freed = []; act = read n sealed; answer = read_told r }) v₁ (record { alone = alone; is = is_done e }) refl

  pub read_put : OwesPut v₁ l e
  read_put = subst (λ k. OwesPut v₁ k e) (sym at) (subst (OwesPut v₁ (suc s)) (sym says) (owed_by (is_wanting r) refl))

  pub reads_so : (v₂ : View Turn) → PassedIt l e v₁ v₂ → Reads s n sealed r told v v₂
  reads_so v₂ put = record {
    list = seen;
    turn = subst (λ t. OneTurn (suc s) seen t v v₂) (says ∙ ap (λ i. read_turn i n sealed r) (gen ∙ ap (λ (x : Hold). x.generation) (sym same))) (turn_so s l at v v₁ h took_l e v₂ put);
    answer_is = λ off. is off ∙ ap (λ x. read_answer x told n sealed) (sym same);
  }

-- a read changes no hand
pub reads_belong : (s n : ℕ) (sealed : Bool) (r : Result (Vec ℕ Global) Refusal) (told : List (Option Told)) (v v' : View Turn) (c : Conn) → Belongs v c → Reads s n sealed r told v v' → Belongs v' c
unfolding hand_by
reads_belong s n sealed r told v v' c b it = record {
  low = b.low;
  sized = b.sized;
  own = subst (λ (p : Part Turn). IsOwn p.own c.generation (who.Conn c.id c.seat)) (sym (it.turn.others 0 (λ z. omega arith))) b.own;
  kept = λ k. ap (hand_has k) (dite (ℕ_discrete (suc c.seat) (suc s))
      (λ z. ap (λ (j : ℕ). hand v' j) z ∙ (it.turn.hand_is ∙ (by_read (is_wanting r) (hand v (suc s)) ∙ ap (λ (j : ℕ). hand v j) (sym z))))
      (λ ne. it.turn.other_hands (suc c.seat) ne)) ∙ b.kept k;
}
  where
    by_read : (w : Bool) (xs : List ℕ) → hand_by (elim w [ true ↦ idle | false ↦ did (record { generation = (hold_of it.list).generation; freed = []; act = read n sealed; answer = read_told r }) ]) xs ≡ xs
    by_read true xs = refl
    by_read false xs = refl
