-- Whom a notice is told when connections leave.
use Rattle.std.proofs.Common.{◌≡◌, ℕ, Bool, true, false, cond, List, [], ◌∷◌, ◌++◌, map, is_some, refl, ap, ◌∙◌, arith}
use Rattle.std.specs.Prelude.{◌==◌, ◌||◌, ◌&&◌, not, filter}
use Rattle.std.specs.List.{AllByRecursion}
use Rattle.std.proofs.lemmas.Bool.{or_parts}
use Rattle.std.proofs.lemmas.Bool.Decides.{nat_tests}
use Rattle.kd_model.specs.Words.{but_those, some_of, those}
use Rattle.kd_types.specs.declared.creds.Level.TheVariants.{See}
use Rattle.kd_policy.specs.declared.entry.Entry.{Entry}
use Rattle.kd_policy.specs.declared.owner.Owner.{Owner}
use Rattle.kd_policy.specs.declared.owner.Owner.TheVariants as owner
use Rattle.kd_policy.specs.Level.{level_of}
use Rattle.kd_policy.specs.declared.owner.Scope.TheVariants as scope
use Rattle.kd_policy.specs.Policy.{Policy, after_drop, is_held_by, level_in, list_of, part_of}
use Rattle.kd_match.specs.declared.rule.Rule.{Rule}
use Rattle.kd_match.specs.Rules.{Table, admits, rule_admits, rules_of, without_conn}
use Rattle.kd_match.specs.Told as told
use Rattle.kd_match.specs.Told.{Told}
use Rattle.kd_replies.specs.Requests.{is_among}
use Rattle.kd_commands.specs.declared.conn.Conn.{Conn}
use Rattle.kd_messages.specs.declared.notices.News.{News}
use Rattle.kd_messages.specs.declared.notices.News.TheVariants as news
use Rattle.kd_commands.specs.State.{Desk, is_monitor, is_ordinary}
use Rattle.kd_commands.specs.Audience.{Subject, asks_for, audience, broadcast, change_told, id_add, id_remove, is_shown, is_told, new_owner, reply_dead, reply_timeout, sees_ids, telling}
use Rattle.kd_commands.specs.Leaving.{policy_without, rules_without, without_conns}
use Rattle.kd_messages.specs.News.{still_told, news_subject, telling_of, without_leavers}
use Rattle.kd_commands.specs.Plans.{posted, posts}
use Rattle.kd_commands.specs.Rights.{may_see_name, reaches}
use Rattle.kd_acts.proofs.Arrived.{each}
use Rattle.kd_commands.proofs.Members.{turned}

held_without : (e id : ℕ) (o : Owner) (es : List Entry) (p q : Policy) → list_of (scope.Endpoint e) q ≡ list_of (scope.Endpoint e) p → list_of (scope.Endpoint e) (cond (not (is_held_by (owner.Conn id) (record { owner = o; entries = es }))) (record { owner = o; entries = es } ∷ q) q) ≡ part_of (scope.Endpoint e) (record { owner = o; entries = es }) ++ list_of (scope.Endpoint e) p
held_without e id (owner.Conn a) es p q h = go (a == id)
  where
    go : (b : Bool) → list_of (scope.Endpoint e) (cond (not b) (record { owner = owner.Conn a; entries = es } ∷ q) q) ≡ list_of (scope.Endpoint e) p
    go true = h
    go false = h
held_without e id (owner.Endpoint a) es p q h = ap (part_of (scope.Endpoint e) (record { owner = owner.Endpoint a; entries = es }) ++◌) h

-- an endpoint's list has nothing of connections
list_without : (e id : ℕ) (p : Policy) → list_of (scope.Endpoint e) (after_drop p (owner.Conn id)) ≡ list_of (scope.Endpoint e) p
unfolding after_drop
list_without e id [] = refl
list_without e id (h ∷ p) = held_without e id h.owner h.entries p (after_drop p (owner.Conn id)) (list_without e id p)

level_without : (e id : ℕ) (p : Policy) (n : List ℕ) (uid gid : ℕ) → level_in (after_drop p (owner.Conn id)) (scope.Endpoint e) n uid gid ≡ level_in p (scope.Endpoint e) n uid gid
unfolding level_in
level_without e id p n uid gid = ap (λ es. level_of es n uid gid) (list_without e id p)

-- nor has it of any that leave
pub level_without_all : (e : ℕ) (ids : List ℕ) (p : Policy) (n : List ℕ) (uid gid : ℕ) → level_in (policy_without p ids) (scope.Endpoint e) n uid gid ≡ level_in p (scope.Endpoint e) n uid gid
level_without_all e [] p n uid gid = refl
level_without_all e (id ∷ ids) p n uid gid = level_without_all e ids (after_drop p (owner.Conn id)) n uid gid ∙ level_without e id p n uid gid

sees_without : (d : Desk) (ids : List ℕ) (c : Conn) (n : List ℕ) → may_see_name (without_conns d ids) c n ≡ may_see_name d c n
unfolding may_see_name without_conns
sees_without d ids c n = ap (λ l. c.endpoint == 0 || (reaches See l || false)) (level_without_all c.endpoint ids d.policy n c.creds.uid c.creds.gid)

-- the rules of those that stay stay
rules_apart : (id other : ℕ) (rs : List Rule) → (other == id) ≡ false → rules_of other (but_those (λ (r : Rule). r.id == id) rs) ≡ rules_of other rs
rules_apart id other [] apart = refl
rules_apart id other (r ∷ rs) apart = go (r.id == id) refl (rules_apart id other rs apart)
  where
    go : (b : Bool) → (r.id == id) ≡ b → rules_of other (but_those (λ (r : Rule). r.id == id) rs) ≡ rules_of other rs → rules_of other (cond (not b) (r ∷ but_those (λ (r : Rule). r.id == id) rs) (but_those (λ (r : Rule). r.id == id) rs)) ≡ cond (r.id == other) (r ∷ rules_of other rs) (rules_of other rs)
    go true e ih = let out : (r.id == other) ≡ false = grind (arith, nat_tests) in rw out ih
    go false e ih = ap (λ ys. cond (r.id == other) (r ∷ ys) ys) ih

admits_apart : (table : Table) (id other : ℕ) (t : Told) → (other == id) ≡ false → admits (without_conn table id) other t ≡ admits table other t
admits_apart table id other t apart = ap (some_of (rule_admits t)) (rules_apart id other table.rules apart)

pub admits_without : (ids : List ℕ) (table : Table) (other : ℕ) (t : Told) → is_among ids other ≡ false → admits (rules_without table ids) other t ≡ admits table other t
admits_without [] table other t apart = refl
admits_without (id ∷ ids) table other t apart =
    let both = or_parts (id == other) (is_among ids other) apart in
    admits_without ids (without_conn table id) other t both.1 ∙ admits_apart table id other t (turned other id ∙ both.0)

-- two desks tell a connection the same notices where it sees the same names and asks for the same
pub told_alike : (a b : Desk) (s : Subject) (c : Conn) → is_some (telling s) ≡ true → ((n : List ℕ) → may_see_name a c n ≡ may_see_name b c n) → ((t : Told) → asks_for a c t ≡ asks_for b c t) → is_told a s c ≡ is_told b s c
unfolding is_shown
told_alike a b (broadcast x f) c e sees asks = absurd cc
told_alike a b (id_add i) c e sees asks = ap (λ t. is_monitor c.kind || false || (is_ordinary c.kind && (sees_ids c i && t))) (asks (told.id_add i))
told_alike a b (id_remove i) c e sees asks = ap (λ t. is_monitor c.kind || false || (is_ordinary c.kind && (sees_ids c i && t))) (asks (told.id_remove i))
told_alike a b (new_owner x) c e sees asks =
    ap (λ t. is_monitor c.kind || false || (is_ordinary c.kind && (t && asks_for a c (change_told x)))) (sees x.name)
    ∙ ap (λ t. is_monitor c.kind || false || (is_ordinary c.kind && (may_see_name b c x.name && t))) (asks (change_told x))
told_alike a b (reply_timeout asker cookie) c e sees asks = refl
told_alike a b (reply_dead asker cookie) c e sees asks = refl

-- so those that stay are told as before
told_without : (d : Desk) (s : Subject) (ids : List ℕ) (c : Conn) → is_some (telling s) ≡ true → is_among ids c.id ≡ false → is_told (without_conns d ids) s c ≡ is_told d s c
unfolding without_conns
told_without d s ids c e apart = told_alike (without_conns d ids) d s c e (sees_without d ids c) (λ t. admits_without ids d.rules c.id t apart)

-- where a test agrees with another on those that stay, it chooses the same of them
pub chosen_of_rest : {X : Type 0} (gone p q : X → Bool) (xs : List X) → AllByRecursion (λ x. gone x ≡ false → p x ≡ q x) xs → filter p (but_those gone xs) ≡ filter (λ x. not (gone x) && q x) xs
chosen_of_rest gone p q [] a = refl
chosen_of_rest gone p q (x ∷ xs) a = go (gone x) refl (chosen_of_rest gone p q xs a.1)
  where
    go : (b : Bool) → gone x ≡ b → filter p (but_those gone xs) ≡ filter (λ y. not (gone y) && q y) xs → filter p (cond (not b) (x ∷ but_those gone xs) (but_those gone xs)) ≡ cond (not b && q x) (x ∷ filter (λ y. not (gone y) && q y) xs) (filter (λ y. not (gone y) && q y) xs)
    go true e ih = ih
    go false e ih = ap (λ b. cond b (x ∷ filter p (but_those gone xs)) (filter p (but_those gone xs))) (a.0 e) ∙ ap (λ ys. cond (q x) (x ∷ ys) ys) ih

pub audience_without : (leavers : List ℕ) (d : Desk) (s : Subject) → is_some (telling s) ≡ true → audience (without_leavers leavers d) s ≡ those (still_told leavers d s) d.conns
unfolding audience without_conns
audience_without [] d s e = refl
audience_without (id ∷ ids) d s e =
    chosen_of_rest (λ (c : Conn). is_among (id ∷ ids) c.id) (is_told (without_conns d (id ∷ ids)) s) (is_told d s) d.conns
    (each (λ (c : Conn). is_among (id ∷ ids) c.id ≡ false → is_told (without_conns d (id ∷ ids)) s c ≡ is_told d s c) (λ c apart. told_without d s (id ∷ ids) c e apart) d.conns)

-- a notice goes to those that stay and are told
pub posts_without : (leavers : List ℕ) (d : Desk) (n : News) → posts (without_leavers leavers d) (news_subject n) ≡ map (posted (telling_of n)) (those (still_told leavers d (news_subject n)) d.conns)
posts_without leavers d (news.Came id) = ap (map (posted (telling_of (news.Came id)))) (audience_without leavers d (id_add id) refl)
posts_without leavers d (news.Left id) = ap (map (posted (telling_of (news.Left id)))) (audience_without leavers d (id_remove id) refl)
posts_without leavers d (news.Owner x) = ap (map (posted (telling_of (news.Owner x)))) (audience_without leavers d (new_owner x.now) refl)
posts_without leavers d (news.Dead asker cookie) = ap (map (posted (telling_of (news.Dead asker cookie)))) (audience_without leavers d (reply_dead asker cookie) refl)
posts_without leavers d (news.Late asker cookie) = ap (map (posted (telling_of (news.Late asker cookie)))) (audience_without leavers d (reply_timeout asker cookie) refl)
