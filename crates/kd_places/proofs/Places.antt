-- The place that a reader of replies answers is the end of the longest beginning.
use Rattle.std.proofs.Common.{◌≡◌, ◌⊎◌, ℕ, ◌++◌, List, sym, ◌∙◌, arith, inl, inr}
use Rattle.kd_places.specs.Replies.{BeginReply, BreakReplyAt, IsReplyPlace, MisstateLength, ReplyPlacesAreOne, ReplyPlacesAreTrue, front}
use Rattle.kd_places.proofs.Before.{reply_before}
use Rattle.kd_places.proofs.Here.{reply_reaches}

pub reply_places_are_true : ReplyPlacesAreTrue
reply_places_are_true bytes at fits small e = go (reply_before bytes at fits small e)
  where
    go : ((at ≡ 0) × MisstateLength bytes) ⊎ ((n : ℕ) × BeginReply bytes n at) → IsReplyPlace bytes at
    go (inl x) = inl x
    go (inr x) = inr (record { before = x; here = λ n place b. reply_reaches bytes n place fits small b at e })

no_other : (bytes : List ℕ) (at : ℕ) → MisstateLength bytes → BreakReplyAt bytes at → ⊥
no_other bytes at never b = let x = b.before.1 in never (front b.before.0 x.command x.caller x.reply ++ x.rest) x.spelled

pub reply_places_are_one : ReplyPlacesAreOne
reply_places_are_one bytes at other (inl x) (inl y) = x.0 ∙ sym y.0
reply_places_are_one bytes at other (inl x) (inr b) = absurd (no_other bytes other x.1 b)
reply_places_are_one bytes at other (inr a) (inl y) = absurd (no_other bytes at y.1 a)
reply_places_are_one bytes at other (inr a) (inr b) =
    let low = a.here b.before.0 other b.before.1 in let high = b.here a.before.0 at a.before.1 in omega (arith, low, high)
