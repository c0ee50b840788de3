-- A request that is settled waited, and waits no more.
use Rattle.std.proofs.Common.{◌≡◌, ℕ, Bool, true, false, not, ◌||◌, if◌then◌else◌, List, [], ◌∷◌, Option, Some, None, refl, ap, subst}
use Rattle.std.proofs.lemmas.Map.Views.{any-filter_same}
use Rattle.kd_image.specs.declared.image.Image.{Image}
use Rattle.kd_image.specs.declared.notice.Notice.{Notice}
use Rattle.kd_image.specs.declared.notice.Notice.TheVariants.{IdAdd, IdRemove, NameAdd, NameRemove, NameChange, ReplyTimeout, ReplyDead}
use Rattle.kd_model.specs.Words.{but_those, some_of}
use Rattle.kd_model.proofs.Truth.{left_true}
use Rattle.kd_types.specs.declared.refusal.Refusal.{Refusal}
use Rattle.kd_types.specs.declared.refusal.Refusal.TheVariants.{NoMessage}
use Rattle.kd_client.specs.declared.next.Next.{Next}
use Rattle.kd_client.specs.declared.next.Next.TheVariants.{Answer, Failed, Message}
use Rattle.kd_client.specs.declared.request.Request.{Request}
use Rattle.kd_client.specs.Requests.{SettlesOne, answer, answers, has_cookie, meaning, told}
use Rattle.kd_client.specs.Receptions.{Reception, found, unreceived, unreceived_next, unread, unfreed, whole}

gone : (cookie : ℕ) (requests : List Request) → some_of (has_cookie cookie) (but_those (has_cookie cookie) requests) ≡ false
gone cookie requests = any-filter_same (has_cookie cookie) (λ r. not (has_cookie cookie r)) false (λ r e. ap not e) requests

either : (a b c d : Bool) → (a ≡ true → c ≡ true) → (b ≡ true → d ≡ true) → (a || b) ≡ true → (c || d) ≡ true
either true b c d f h e = rw (f refl) refl
either false b true d f h e = refl
either false b false d f h e = h e

-- whose answer it is waited
waited : (image : Image) (requests : List Request) → some_of (answers image) requests ≡ true → some_of (has_cookie image.last) requests ≡ true
waited image [] e = e
waited image (r ∷ rs) e = either (answers image r) (some_of (answers image) rs) (has_cookie image.last r) (some_of (has_cookie image.last) rs) (left_true _ _) (waited image rs) e

same : (a b : ℕ) → Some a ≡ Some b → a ≡ b
same a b e = cc

none : (cookie : ℕ) → None ≡ Some cookie → ⊥
none cookie e = cc

by_answer : (requests : List Request) (image : Image) (b : Bool) → some_of (answers image) requests ≡ b → SettlesOne requests (if b then Answer image.last image else Message image)
by_answer requests image true e = λ cookie s. let is : image.last ≡ cookie = same image.last cookie s in
    (subst (λ c. some_of (has_cookie c) requests ≡ true) is (waited image requests e), subst (λ c. some_of (has_cookie c) (but_those (has_cookie image.last) requests) ≡ false) is (gone image.last requests))
by_answer requests image false e = λ cookie s. absurd (none cookie s)

by_failure : (requests : List Request) (of : ℕ) (dead : Bool) (image : Image) (b : Bool) → some_of (has_cookie of) requests ≡ b → SettlesOne requests (if b then Failed of dead else Message image)
by_failure requests of dead image true e = λ cookie s. let is : of ≡ cookie = same of cookie s in
    (subst (λ c. some_of (has_cookie c) requests ≡ true) is e, subst (λ c. some_of (has_cookie c) (but_those (has_cookie of) requests) ≡ false) is (gone of requests))
by_failure requests of dead image false e = λ cookie s. absurd (none cookie s)

by_notice : (requests : List Request) (image : Image) (notice : Notice) → SettlesOne requests (told requests notice image)
by_notice requests image (IdAdd id) = λ cookie s. absurd (none cookie s)
by_notice requests image (IdRemove id) = λ cookie s. absurd (none cookie s)
by_notice requests image (NameAdd old new name) = λ cookie s. absurd (none cookie s)
by_notice requests image (NameRemove old new name) = λ cookie s. absurd (none cookie s)
by_notice requests image (NameChange old new name) = λ cookie s. absurd (none cookie s)
by_notice requests image (ReplyTimeout cookie) = by_failure requests cookie false image (some_of (has_cookie cookie) requests) refl
by_notice requests image (ReplyDead cookie) = by_failure requests cookie true image (some_of (has_cookie cookie) requests) refl

meaning_by : List Request → Image → Option Notice → Next
meaning_by requests image notice = elim notice [ None ↦ answer requests image | Some n ↦ told requests n image ]

by_meaning : (requests : List Request) (image : Image) (notice : Option Notice) → SettlesOne requests (meaning_by requests image notice)
unfolding meaning_by
by_meaning requests image None = by_answer requests image (some_of (answers image) requests) refl
by_meaning requests image (Some notice) = by_notice requests image notice

by_image : (requests : List Request) (image : Image) → SettlesOne requests (meaning requests image)
unfolding meaning meaning_by
by_image requests image = by_meaning requests image image.notice

by_refusal : (requests : List Request) (refusal : Refusal) → SettlesOne requests (unreceived_next refusal)
by_refusal requests (NoMessage dropped) = λ cookie s. absurd (none cookie s)
by_refusal requests refusal = λ cookie s. absurd (none cookie s)

pub found_settles : (requests : List Request) (reception : Reception) → SettlesOne requests (found requests reception)
found_settles requests (unreceived refusal) = by_refusal requests refusal
found_settles requests (unread slice refusal) = λ cookie s. absurd (none cookie s)
found_settles requests (unfreed slice bytes refusal) = λ cookie s. absurd (none cookie s)
found_settles requests (whole slice bytes image) = by_image requests image
