-- Events other than takes: what is read is spelled so.
use Rattle.std.proofs.Common.{◌≡◌, ℕ, zero, suc, ◌+◌, ◌*◌, ◌^◌, ◌<◌, List, [], ◌∷◌, length, drop, refl, sym, ap, subst, ◌∙◌, true, false, eqb, ltb, not, eqb-true, Option, Some, None, inl, inr, arith}
use mir.ValLaws.{to_z-Fits}
use Rattle.std.specs.Int.{w64, cast_signed}
use Rattle.std.proofs.lemmas.Int.{of_z-to_z}
use Rattle.std.proofs.lemmas.Bool.{ltb-true}
use Rattle.kd_model.proofs.Truth.{let_through, not_false, same_some}
use Rattle.kd_item.specs.Spelling.{Entry, words, number}
use Rattle.kd_item.proofs.Words.{IsBytes, IsBytes-drop, number_fits}
use Rattle.kd_types.specs.Flags.{has_bits}
use Rattle.kd_wire.specs.Commands.{bit}
use Rattle.kd_acts.specs.declared.receive.RecvMode.{RecvMode}
use Rattle.kd_world.specs.Legal.{Event, visit, leave, publishes, receives, reads, frees, is_caller}
use Rattle.kd_replay.specs.Hearing.{IsLimit}
use Rattle.kd_trace.specs.Items.{IsEventItem, MayStand, event_entry, limit_word, mode_flags}
use Rattle.kd_trace.specs.Reading.{event_in, free_in, leave_in, mode_in, publish_in, read_in, receive_in, receives_in, visit_in}
use Rattle.kd_trace.proofs.Bodies.{either, one_back, passes, three_back, two_back}

-- the item of this kind, read as this event
abbrev Is : ℕ → List ℕ → Event → Type 0
Is kind body e = (event_entry e ≡ record { kind = kind; body = body }) × MayStand e

other_word : (k : ℕ) (body : List ℕ) → IsBytes body → number (drop k body) < 2 ^ 64
other_word k body fits = number_fits (drop k body) (IsBytes-drop k body fits)

abbrev pub item : ℕ → List ℕ → Entry
item kind body = record { kind = kind; body = body }

of_kind : (kind : ℕ) (body spelt : List ℕ) → body ≡ spelt → item kind spelt ≡ item kind body
of_kind kind body spelt e = ap (item kind) (sym e)

visit_back : (body : List ℕ) (e : Event) → IsBytes body → visit_in body ≡ Some e → Is 33 body e
visit_back body e fits is =
    let a = number body in
    let b = number (drop 8 body) in
    let h = let_through (not (eqb (length body) 16)) _ e is in
    let i = let_through (not (is_caller a)) _ e h.1 in
    let j = let_through (not (ltb b 64)) _ e i.1 in
    subst (λ (x : Event). Is 33 body x) (same_some (visit a b) e j.1)
    (of_kind 33 body (words (a ∷ b ∷ [])) (two_back body (eqb-true _ _ (not_false _ h.0)) fits), record { caller = not_false _ i.0; form = ltb-true _ _ (not_false _ j.0) })

leave_back : (body : List ℕ) (e : Event) → IsBytes body → leave_in body ≡ Some e → Is 34 body e
leave_back body e fits is =
    let a = number body in
    let h = let_through (not (eqb (length body) 8)) _ e is in
    let i = let_through (not (is_caller a)) _ e h.1 in
    subst (λ (x : Event). Is 34 body x) (same_some (leave a) e i.1)
    (of_kind 34 body (words (a ∷ [])) (one_back body (eqb-true _ _ (not_false _ h.0)) fits), record { caller = not_false _ i.0; form = tt })

publish_back : (body : List ℕ) (e : Event) → IsBytes body → publish_in body ≡ Some e → Is 35 body e
publish_back body e fits is =
    let a = number body in
    let b = number (drop 8 body) in
    let c = number (drop 16 body) in
    let h = let_through (not (eqb (length body) 24)) _ e is in
    let i = let_through (not (is_caller a)) _ e h.1 in
    let j = let_through (not (ltb b 64)) _ e i.1 in
    let k = let_through (not (ltb c (2 ^ 32))) _ e j.1 in
    subst (λ (x : Event). Is 35 body x) (same_some (publishes a b c) e k.1)
    (of_kind 35 body (words (a ∷ b ∷ c ∷ [])) (three_back body (eqb-true _ _ (not_false _ h.0)) fits), record { caller = not_false _ i.0; form = (ltb-true _ _ (not_false _ j.0), ltb-true _ _ (not_false _ k.0)) })

read_back : (body : List ℕ) (e : Event) → IsBytes body → read_in body ≡ Some e → Is 37 body e
read_back body e fits is =
    let a = number body in
    let b = number (drop 8 body) in
    let c = number (drop 16 body) in
    let h = let_through (not (eqb (length body) 24)) _ e is in
    let i = let_through (not (is_caller a)) _ e h.1 in
    let j = let_through (not (ltb b (2 ^ 32))) _ e i.1 in
    let k = let_through (not (ltb c 2)) _ e j.1 in
    let spelt : body ≡ words (a ∷ b ∷ bit (eqb c 1) ∷ []) = three_back body (eqb-true _ _ (not_false _ h.0)) fits ∙ ap (λ n. words (a ∷ b ∷ n ∷ [])) (bit_back c (ltb-true _ _ (not_false _ k.0))) in
    subst (λ (x : Event). Is 37 body x) (same_some (reads a b (eqb c 1)) e k.1)
    (of_kind 37 body (words (a ∷ b ∷ bit (eqb c 1) ∷ [])) spelt, record { caller = not_false _ i.0; form = ltb-true _ _ (not_false _ j.0) })
  where
    bit_back : (n : ℕ) → n < 2 → n ≡ bit (eqb n 1)
    bit_back zero lt = refl
    bit_back (suc zero) lt = refl
    bit_back (suc (suc n)) lt = absurd (omega arith)

free_back : (body : List ℕ) (e : Event) → IsBytes body → free_in body ≡ Some e → Is 38 body e
free_back body e fits is =
    let a = number body in
    let b = number (drop 8 body) in
    let h = let_through (not (eqb (length body) 16)) _ e is in
    let i = let_through (not (is_caller a)) _ e h.1 in
    let j = let_through (not (ltb b (2 ^ 32))) _ e i.1 in
    subst (λ (x : Event). Is 38 body x) (same_some (frees a b) e j.1)
    (of_kind 38 body (words (a ∷ b ∷ [])) (two_back body (eqb-true _ _ (not_false _ h.0)) fits), record { caller = not_false _ i.0; form = ltb-true _ _ (not_false _ j.0) })

-- flags are the bits that they have
with_limit : (f : ℕ) → f < 8 → has_bits f 4 ≡ true → bit (has_bits f 1) + 2 * bit (has_bits f 2) + 4 ≡ f
with_limit zero lt e = absurd cc
with_limit (suc zero) lt e = absurd cc
with_limit (suc (suc zero)) lt e = absurd cc
with_limit (suc (suc (suc zero))) lt e = absurd cc
with_limit (suc (suc (suc (suc zero)))) lt e = refl
with_limit (suc (suc (suc (suc (suc zero))))) lt e = refl
with_limit (suc (suc (suc (suc (suc (suc zero)))))) lt e = refl
with_limit (suc (suc (suc (suc (suc (suc (suc zero))))))) lt e = refl
with_limit (suc (suc (suc (suc (suc (suc (suc (suc n)))))))) lt e = absurd (omega arith)

without_limit : (f : ℕ) → f < 8 → has_bits f 4 ≡ false → bit (has_bits f 1) + 2 * bit (has_bits f 2) + 0 ≡ f
without_limit zero lt e = refl
without_limit (suc zero) lt e = refl
without_limit (suc (suc zero)) lt e = refl
without_limit (suc (suc (suc zero))) lt e = refl
without_limit (suc (suc (suc (suc zero)))) lt e = absurd cc
without_limit (suc (suc (suc (suc (suc zero))))) lt e = absurd cc
without_limit (suc (suc (suc (suc (suc (suc zero)))))) lt e = absurd cc
without_limit (suc (suc (suc (suc (suc (suc (suc zero))))))) lt e = absurd cc
without_limit (suc (suc (suc (suc (suc (suc (suc (suc n)))))))) lt e = absurd (omega arith)

-- a mode, by the two words of which it was read
record ModeRead (flags limit : ℕ) (mode : RecvMode) : Type 0 where
  flags_are : mode_flags mode ≡ flags
  limit_is : limit_word mode.limit ≡ limit
  fits : IsLimit mode.limit

mode_back : (flags limit : ℕ) (mode : RecvMode) → limit < 2 ^ 64 → mode_in flags limit ≡ Some mode → ModeRead flags limit mode
mode_back flags limit mode fits is =
    let h = let_through (not (ltb flags 8)) _ mode is in
    let small : flags < 8 = ltb-true _ _ (not_false _ h.0) in
    let with : RecvMode = record { peek = has_bits flags 1; drop_it = has_bits flags 2; limit = Some (cast_signed w64 limit) } in
    let without : RecvMode = record { peek = has_bits flags 1; drop_it = has_bits flags 2; limit = None } in
    elim (either (has_bits flags 4) (Some with) _ mode h.1) [
      | inl i ↦ subst (λ (m : RecvMode). ModeRead flags limit m) (same_some with mode i.1)
          (record { flags_are = with_limit flags small i.0; limit_is = of_z-to_z w64 limit fits; fits = to_z-Fits w64 limit (record { fits = fits }) })
      | inr i ↦
          let j = passes (eqb limit 0) (Some without) mode i.1 in
          subst (λ (m : RecvMode). ModeRead flags limit m) (same_some without mode j.1)
          (record { flags_are = without_limit flags small i.0; limit_is = sym (eqb-true _ _ j.0); fits = tt })
    ]

receives_back : (n : ℕ) (o : Option RecvMode) (e : Event) → receives_in n o ≡ Some e → (mode : RecvMode) × (o ≡ Some mode) × (receives n mode ≡ e)
receives_back n None e is = absurd cc
receives_back n (Some mode) e is = (mode, refl, same_some (receives n mode) e is)

receive_back : (body : List ℕ) (e : Event) → IsBytes body → receive_in body ≡ Some e → Is 36 body e
receive_back body e fits is =
    let a = number body in
    let b = number (drop 8 body) in
    let c = number (drop 16 body) in
    let h = let_through (not (eqb (length body) 24)) _ e is in
    let i = let_through (not (is_caller a)) _ e h.1 in
    let j = receives_back a (mode_in b c) e i.1 in
    let m = mode_back b c j.0 (other_word 16 body fits) j.1 in
    let spelt : body ≡ words (a ∷ mode_flags j.0 ∷ limit_word j.0.limit ∷ []) = three_back body (eqb-true _ _ (not_false _ h.0)) fits ∙ ap (λ n. words (a ∷ n ∷ c ∷ [])) (sym m.flags_are) ∙ ap (λ n. words (a ∷ mode_flags j.0 ∷ n ∷ [])) (sym m.limit_is) in
    subst (λ (x : Event). Is 36 body x) j.2
    (of_kind 36 body (words (a ∷ mode_flags j.0 ∷ limit_word j.0.limit ∷ [])) spelt, record { caller = not_false _ i.0; form = m.fits })

to_item : (kind like : ℕ) (body : List ℕ) (e : Event) → eqb kind like ≡ true → Is like body e → IsEventItem (record { kind = kind; body = body }) e
to_item kind like body e same is = record { spelled = ap (λ k. item k body) (eqb-true _ _ same) ∙ sym is.0; stands = is.1 }

pub event_back : (kind : ℕ) (body : List ℕ) (e : Event) → IsBytes body → event_in kind body ≡ Some e → IsEventItem (record { kind = kind; body = body }) e
unfolding event_in
event_back kind body e fits is =
    elim (either (eqb kind 33) (visit_in body) _ e is) [
      | inl h ↦ to_item kind 33 body e h.0 (visit_back body e fits h.1)
      | inr h ↦ elim (either (eqb kind 34) (leave_in body) _ e h.1) [
        | inl j ↦ to_item kind 34 body e j.0 (leave_back body e fits j.1)
        | inr j ↦ elim (either (eqb kind 35) (publish_in body) _ e j.1) [
          | inl k ↦ to_item kind 35 body e k.0 (publish_back body e fits k.1)
          | inr k ↦ elim (either (eqb kind 36) (receive_in body) _ e k.1) [
            | inl l ↦ to_item kind 36 body e l.0 (receive_back body e fits l.1)
            | inr l ↦ elim (either (eqb kind 37) (read_in body) _ e l.1) [
              | inl m ↦ to_item kind 37 body e m.0 (read_back body e fits m.1)
              | inr m ↦ let p = passes (eqb kind 38) (free_in body) e m.1 in to_item kind 38 body e p.0 (free_back body e fits p.1)
            ]
          ]
        ]
      ]
    ]
