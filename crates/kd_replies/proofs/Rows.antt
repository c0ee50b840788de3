-- Worked examples of pending requests.
use Rattle.std.specs.Prelude.{◌≡◌, ℕ, List, [], ◌∷◌, map, refl}
use Rattle.std.specs.declared.result.Result.TheVariants.{Err}
use Rattle.kd_model.specs.Words.{but_those, some_of, those}
use Rattle.kd_types.specs.declared.refusal.Refusal.TheVariants.{BadCookie}
use Rattle.kd_replies.specs.declared.request.Request.{Request}
use Rattle.kd_replies.specs.Requests.{concerns, due, expect_answer, expecting, is_dead_without, waits_for}
use Rattle.kd_replies.specs.Renaming.{renamed}

abbrev request : ℕ → ℕ → ℕ → ℕ → Request
request asker replier cookie deadline = record { asker = asker; replier = replier; cookie = cookie; deadline = deadline }

-- three requests of connection 1 and one of connection 4
abbrev table : List Request
table = expecting (request 1 5 9 10) (expecting (request 4 1 7 55) (expecting (request 1 2 7 10) (expecting (request 1 2 3 90) [])))

they_stand_by_asker_and_cookie : table ≡ request 1 2 3 90 ∷ request 1 2 7 10 ∷ request 1 5 9 10 ∷ request 4 1 7 55 ∷ []
they_stand_by_asker_and_cookie = refl

due_by_deadline_then_cookie : due 90 table ≡ request 1 2 7 10 ∷ request 1 5 9 10 ∷ request 4 1 7 55 ∷ request 1 2 3 90 ∷ []
due_by_deadline_then_cookie = refl

a_deadline_at_the_moment_is_due : due 10 table ≡ request 1 2 7 10 ∷ request 1 5 9 10 ∷ []
a_deadline_at_the_moment_is_due = refl

dead_by_asker_and_cookie : those (is_dead_without (2 ∷ [])) table ≡ request 1 2 3 90 ∷ request 1 2 7 10 ∷ []
dead_by_asker_and_cookie = refl

not_dead_if_the_asker_leaves_too : those (is_dead_without (2 ∷ 1 ∷ [])) table ≡ request 4 1 7 55 ∷ []
not_dead_if_the_asker_leaves_too = refl

what_asks_and_what_replies_goes : but_those (concerns 1) table ≡ []
what_asks_and_what_replies_goes = refl

a_second_request_with_the_cookie : expect_answer 1 7 table ≡ Err BadCookie
a_second_request_with_the_cookie = refl

the_new_replier_is_waited_for : some_of (waits_for 1 8 7) (map (renamed 2 8) table) ≡ some_of (waits_for 1 2 7) table
the_new_replier_is_waited_for = refl
