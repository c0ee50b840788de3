-- Events one after the other, and what is heard of them.
use Rattle.std.proofs.Common.{◌≡◌, List, [], ◌∷◌, ◌++◌, append_assoc, refl, sym, ap, subst, ◌∙◌}
use Rattle.std.proofs.lemmas.List.{append-nil}
use Rattle.kd_core.specs.declared.event.Answer.{Answer}
use Rattle.kd_core.specs.Running.{said}
use Rattle.kd_world.specs.State.{World}
use Rattle.kd_world.specs.Legal.{Event}
use Rattle.kd_world.specs.Answers.{says}
use Rattle.kd_world.specs.Step.{step}
use Rattle.kd_world.specs.Runs.{world_after}
use Rattle.kd_replay.specs.Hearing.{Heard, Hears, heard_along}

pub runs_append : (w : World) (es fs : List Event) → world_after w (es ++ fs) ≡ world_after (world_after w es) fs
unfolding world_after
runs_append w [] fs = refl
runs_append w (e ∷ es) fs = runs_append (step w e) es fs

pub one_more_run : (w mid : World) (es : List Event) (e : Event) → mid ≡ world_after w es → step mid e ≡ world_after w (es ++ e ∷ [])
unfolding world_after
one_more_run w mid es e is = ap (λ (v : World). step v e) is ∙ sym (runs_append w es (e ∷ []))

heard_append : (w : World) (es fs : List Event) → heard_along w (es ++ fs) ≡ heard_along w es ++ heard_along (world_after w es) fs
unfolding heard_along world_after
heard_append w [] fs = refl
heard_append w (e ∷ es) fs = ap (λ (hs : List Heard). record { event = e; answer = said e (says w e) } ∷ hs) (heard_append (step w e) es fs)

pub none_heard : (w : World) (before : List Heard → Type 0) → Hears before before (heard_along w [])
unfolding heard_along
none_heard w before = λ hs h. subst before (sym (append-nil hs)) h

pub one_heard : (before now : List Heard → Type 0) (w : World) (e : Event) (answer : Answer) → answer ≡ said e (says w e) → ((hs : List Heard) → before hs → now (hs ++ record { event = e; answer = answer } ∷ [])) → Hears before now (heard_along w (e ∷ []))
unfolding heard_along
one_heard before now w e answer is told = λ hs h. subst (λ (a : Answer). now (hs ++ record { event = e; answer = a } ∷ [])) is (told hs h)

pub more_heard : (before mid now : List Heard → Type 0) (w v : World) (es fs : List Event) → v ≡ world_after w es → Hears before mid (heard_along w es) → Hears mid now (heard_along v fs) → Hears before now (heard_along w (es ++ fs))
more_heard before mid now w v es fs is first second = λ hs h.
    let front = heard_along w es in
    let both : heard_along w (es ++ fs) ≡ front ++ heard_along v fs = heard_append w es fs ∙ ap (λ (u : World). front ++ heard_along u fs) (sym is) in
    subst (λ (xs : List Heard). now (hs ++ xs)) (sym both) (subst now (append_assoc hs front (heard_along v fs)) (second (hs ++ front) (first hs h)))
