-- One frame more.
use Rattle.std.proofs.Common.{◌≡◌, ℕ, true, ◌+◌, List, [], ◌∷◌, ◌++◌, length, take, drop, Option, refl, sym, ap, ◌∙◌, append_assoc, length-append, arith}
use Rattle.std.specs.List.{AllByRecursion}
use Rattle.std.specs.Io.KnownBytes.{Appends}
use Rattle.std.proofs.lemmas.List.{append-nil, nil_from_length, take-append-drop, take_all}
use Rattle.std.proofs.lemmas.Bool.{eqb-true}
use Rattle.std.specs.Prelude.{◌==◌}
use Rattle.std.proofs.lemmas.Grind.{flat_map-append}
use Rattle.std.proofs.Math.Seq.{take-append-add}
use Rattle.kd_outside.proofs.Known.{appends_more, appends_nothing}
use Rattle.kd_world.specs.State.{World}
use Rattle.kd_replay.specs.Turns.{Turn, replay_world}
use Rattle.kd_replay.specs.Frames.{IsFrame, IsCut, joined}
use Rattle.kd_replay.specs.Transcript.{IsTurn, reply_bytes, Answered, WritesFront}
use Rattle.kd_replay.proofs.Legal.{frames_reach}

pub answered_more : (w : World) (fs : List (List ℕ)) (written : List ℕ) (mid : World) (f : List ℕ) (t : Turn) → Answered w fs written mid → IsTurn mid f t
    → Answered w (fs ++ f ∷ []) (written ++ reply_bytes f t.reply) t.next
answered_more w [] written mid f t h k =
    (t, [], rw (← h.1) k, rw h.0 (sym (append-nil (reply_bytes f t.reply))), (refl, refl))
answered_more w (g ∷ fs) written mid f t (s, more, turn, is, rest) k =
    let last : List ℕ = reply_bytes f t.reply in
    (s, more ++ last, turn, ap (λ (l : List ℕ). l ++ last) is ∙ append_assoc (reply_bytes g s.reply) more last, answered_more s.next fs more mid f t rest k)

each_more : (fs : List (List ℕ)) (f : List ℕ) → AllByRecursion IsFrame fs → IsFrame f → AllByRecursion IsFrame (fs ++ f ∷ [])
each_more [] f all one = (one, tt)
each_more (g ∷ fs) f all one = (all.0, each_more fs f all.1 one)

joined_more : (fs : List (List ℕ)) (f : List ℕ) → joined (fs ++ f ∷ []) ≡ joined fs ++ f
joined_more fs f = flat_map-append (λ (l : List ℕ). l) fs (f ∷ []) ∙ ap (λ (l : List ℕ). joined fs ++ l) (append-nil f)

pub cut_more : (bytes : List ℕ) (fs : List (List ℕ)) (rest : List ℕ) (n : ℕ) → IsCut bytes fs rest → IsFrame (take n rest) → IsCut bytes (fs ++ take n rest ∷ []) (drop n rest)
cut_more bytes fs rest n cut frame = record {
  parts = cut.parts ∙ ap (λ (l : List ℕ). joined fs ++ l) (sym (take-append-drop n rest)) ∙ sym (append_assoc (joined fs) (take n rest) (drop n rest)) ∙ ap (λ (l : List ℕ). l ++ drop n rest) (sym (joined_more fs (take n rest)));
  each = each_more fs (take n rest) cut.each frame;
}

pub length-joined_more : (fs : List (List ℕ)) (f : List ℕ) → length (joined (fs ++ f ∷ [])) ≡ length (joined fs) + length f
length-joined_more fs f = ap length (joined_more fs f) ∙ length-append (joined fs) f

-- what stands behind some frames: the bytes are cut so far, and their replies were written
pub record Stands (bytes rest : List ℕ) (at : ℕ) (held_before held_after : Option (List ℕ)) (now : World) : Type 0 where
  pub frames : List (List ℕ)
  pub written : List ℕ
  pub cut : IsCut bytes frames rest
  pub place : at ≡ length (joined frames)
  pub answered : Answered replay_world frames written now
  pub held : Appends held_before held_after written

pub nothing_left : (rest : List ℕ) → (length rest == 0) ≡ true → rest ≡ []
nothing_left rest e = nil_from_length rest (eqb-true (length rest) 0 e)

-- at first nothing is cut, and nothing written
pub stands_first : (bytes : List ℕ) (a : Option (List ℕ)) → Stands bytes bytes 0 a a replay_world
stands_first bytes a = record { frames = []; written = []; cut = record { parts = refl; each = tt }; place = refl; answered = (refl, refl); held = appends_nothing a }

pub all_written : (bytes rest : List ℕ) (at : ℕ) (a b : Option (List ℕ)) (now : World) → Stands bytes rest at a b now → WritesFront bytes a b
all_written bytes rest at a b now s =
    let all : take (length s.written) s.written ≡ s.written = take_all (length s.written) s.written (omega arith) in
    (s.frames, rest, s.written, length s.written, s.cut, (now, s.answered, frames_reach s.frames s.written now s.answered), rw all s.held)

-- and of the reply to one frame more
pub some_written : (bytes rest : List ℕ) (at n k : ℕ) (a b c : Option (List ℕ)) (now : World) (t : Turn) → Stands bytes rest at a b now → IsFrame (take n rest) → IsTurn now (take n rest) t
    → Appends b c (take k (reply_bytes (take n rest) t.reply)) → WritesFront bytes a c
some_written bytes rest at n k a b c now t s frame turn more =
    let f = take n rest in
    let last : List ℕ = reply_bytes f t.reply in
    let front : take (length s.written + k) (s.written ++ last) ≡ s.written ++ take k last = take-append-add s.written last k in (
      s.frames ++ f ∷ [],
      drop n rest,
      s.written ++ last,
      length s.written + k,
      cut_more bytes s.frames rest n s.cut frame,
      (let more : Answered replay_world (s.frames ++ f ∷ []) (s.written ++ last) t.next = answered_more replay_world s.frames s.written now f t s.answered turn in
          (t.next, more, frames_reach (s.frames ++ f ∷ []) (s.written ++ last) t.next more)),
      rw front (appends_more a b c s.written (take k last) s.held more),
    )

pub one_more : (bytes rest : List ℕ) (at n : ℕ) (a b c : Option (List ℕ)) (now : World) (t : Turn) → Stands bytes rest at a b now → IsFrame (take n rest) → length (take n rest) ≡ n → IsTurn now (take n rest) t
    → Appends b c (reply_bytes (take n rest) t.reply) → Stands bytes (drop n rest) (at + n) a c t.next
one_more bytes rest at n a b c now t s frame len turn more = record {
  frames = s.frames ++ take n rest ∷ [];
  written = s.written ++ reply_bytes (take n rest) t.reply;
  cut = cut_more bytes s.frames rest n s.cut frame;
  place = omega (arith, s.place, len, length-joined_more s.frames (take n rest));
  answered = answered_more replay_world s.frames s.written now (take n rest) t s.answered turn;
  held = appends_more a b c s.written (reply_bytes (take n rest) t.reply) s.held more;
}
