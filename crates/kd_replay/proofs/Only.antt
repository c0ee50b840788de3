-- Frames have one transcript.
use Rattle.std.proofs.Common.{◌≡◌, ℕ, ◌≤◌, ◌<◌, ◌^◌, inl, inr, true, leb, List, [], ◌∷◌, ◌++◌, Some, None, sym, ap, subst, ◌∙◌, arith}
use Rattle.std.proofs.lemmas.Bool.{leb-true}
use Rattle.kd_model.proofs.Truth.{both_true, same_some}
use Rattle.kd_wire.specs.declared.port.Port.TheVariants.{Replay}
use Rattle.kd_wire.specs.Ports.{takes_caller}
use Rattle.kd_wire.proofs.ReadAgain.{one_value}
use Rattle.kd_world.specs.State.{World}
use Rattle.kd_replay.specs.Turns.{Turn, replay_world, refused, turn}
use Rattle.kd_replay.specs.Transcript.{Answered, IsRefused, IsCommandRun, IsTranscript, IsTurn, reply_bytes}

both_refused : (w : World) (frame : List ℕ) (t u : Turn) → IsRefused w frame t → IsRefused w frame u → t ≡ u
both_refused w frame t u (why, e, is) (other, f, are) = is ∙ ap (refused w) (same_some why other (sym e ∙ f)) ∙ sym are

not_both : (w : World) (frame : List ℕ) (t u : Turn) → IsRefused w frame t → IsCommandRun w frame u → ⊥
not_both w frame t u (why, e, is) (caller, command, read, are) = let never : Some why ≡ None = sym e ∙ read.accepted in absurd cc

is_word : (caller : ℕ) → takes_caller Replay caller ≡ true → caller < 2 ^ 64
is_word caller e = let most : caller ≤ 64 = leb-true caller 64 (both_true (leb 1 caller) (leb caller 64) e).1 in omega arith

both_run : (w : World) (frame : List ℕ) (t u : Turn) → IsCommandRun w frame t → IsCommandRun w frame u → t ≡ u
both_run w frame t u (caller, command, read, is) (other, second, again, are) =
    let one = one_value frame caller other command second read.typed again.typed (is_word caller read.admitted) (is_word other again.admitted) read.form again.form read.spelled again.spelled in
    is ∙ ap (λ n. turn w n command) one.0 ∙ ap (turn w other) one.1 ∙ sym are

pub one_turn : (w : World) (frame : List ℕ) (t u : Turn) → IsTurn w frame t → IsTurn w frame u → t ≡ u
one_turn w frame t u (inl a) (inl b) = both_refused w frame t u a b
one_turn w frame t u (inl a) (inr b) = absurd (not_both w frame t u a b)
one_turn w frame t u (inr a) (inl b) = absurd (not_both w frame u t b a)
one_turn w frame t u (inr a) (inr b) = both_run w frame t u a b

one_answer : (w : World) (fs : List (List ℕ)) (a b : List ℕ) (m n : World) → Answered w fs a m → Answered w fs b n → a ≡ b
one_answer w [] a b m n h k = h.0 ∙ sym k.0
one_answer w (f ∷ fs) a b m n (t, more, turn, is, rest) (u, others, second, are, last) =
    let same : t ≡ u = one_turn w f t u turn second in
    let behind : more ≡ others = one_answer u.next fs more others m n (subst (λ (x : Turn). Answered x.next fs more m) same rest) last in
    is ∙ ap (λ (x : Turn). reply_bytes f x.reply ++ more) same ∙ ap (λ (l : List ℕ). reply_bytes f u.reply ++ l) behind ∙ sym are

pub one_transcript : (fs : List (List ℕ)) (a b : List ℕ) → IsTranscript fs a → IsTranscript fs b → a ≡ b
one_transcript fs a b (m, h, run) (n, k, again) = one_answer replay_world fs a b m n h k
