-- The connections that stay where some leave: who they are, and which seats they have.
use Rattle.std.proofs.Common.{◌≡◌, ℕ, ◌<◌, Bool, false, cond, List, [], ◌∷◌, map, Some, None, refl, sym, ap, ◌∙◌, arith}
use Rattle.std.specs.Prelude.{◌==◌, ◌||◌, ◌&&◌, not}
use Rattle.std.specs.List.{AllByRecursion, IsDistinct}
use Rattle.std.proofs.lemmas.Bool.{eq-eqb, eqb-true}
use Rattle.std.proofs.lemmas.Bool.Decides.{nat_tests}
use Rattle.std.proofs.lemmas.Map.Views.{any-filter_same}
use Rattle.kd_model.specs.Words.{but_those, contains, first, some_of}
use Rattle.kd_model.proofs.Lists.{all_follow, all_of_filter, all_of_found}
use Rattle.kd_replies.specs.Requests.{is_among}
use Rattle.kd_commands.specs.declared.conn.Conn.{Conn}
use Rattle.kd_commands.specs.State.{Desk, conn_of, has_id, has_seat}
use Rattle.kd_commands.specs.Leaving.{ids_of, on_endpoint}
use Rattle.kd_commands.specs.Seating.{AreSeated}
use Rattle.kd_acts.proofs.Arrived.{each}
use Rattle.kd_commands.proofs.Finds.{all_both, filter_agrees, first_of_filter}

pub turned : (m n : ℕ) → (m == n) ≡ (n == m)
turned m n = grind (arith, nat_tests)

abbrev pub seats_of : List Conn → List ℕ
seats_of gone = map (λ (c : Conn). c.seat) gone

-- those that stay
abbrev pub without : List Conn → List Conn → List Conn
without gone cs = but_those (λ (c : Conn). is_among (ids_of gone) c.id) cs

-- ---- who has the id of one has its seat

abbrev Agree : Conn → Conn → Type 0
Agree a b = (a.id == b.id) ≡ (b.seat == a.seat)

agree_itself : (c : Conn) → Agree c c
agree_itself c = eq-eqb c.id c.id refl ∙ sym (eq-eqb c.seat c.seat refl)

apart_agree :
    (x : Conn) (cs : List Conn)
    → AllByRecursion (λ (c : Conn). (x.id == c.id) ≡ false) cs → AllByRecursion (λ (c : Conn). (x.seat == c.seat) ≡ false) cs
    → AllByRecursion (Agree x) cs × AllByRecursion (λ (c : Conn). Agree c x) cs
apart_agree x [] i s = (tt, tt)
apart_agree x (c ∷ cs) i s =
    let more = apart_agree x cs i.1 s.1 in
    ((i.0 ∙ sym (turned c.seat x.seat ∙ s.0), more.0), (turned c.id x.id ∙ i.0 ∙ sym s.0, more.1))

-- where ids and seats are those of one connection each
all_agree :
    (cs : List Conn) → IsDistinct (λ (a b : Conn). a.id == b.id) cs → IsDistinct (λ (a b : Conn). a.seat == b.seat) cs
    → AllByRecursion (λ (a : Conn). AllByRecursion (Agree a) cs) cs
unfolding IsDistinct
all_agree [] i s = tt
all_agree (x ∷ xs) i s =
    let one = apart_agree x xs i.0 s.0 in
    ((agree_itself x, one.0), all_both (λ (a : Conn). Agree a x) (λ (a : Conn). AllByRecursion (Agree a) xs) xs one.1 (all_agree xs i.1 s.1))

-- ---- some of the connections

-- one is among them by its id where it is by its seat
abbrev pub IsAlike : List Conn → Conn → Type 0
IsAlike gone c = is_among (ids_of gone) c.id ≡ contains c.seat (seats_of gone)

abbrev pub AreAlike : List Conn → List Conn → Type 0
AreAlike gone cs = AllByRecursion (IsAlike gone) cs

alike_of : (gone cs : List Conn) → AllByRecursion (λ (a : Conn). AllByRecursion (Agree a) cs) gone → AreAlike gone cs
alike_of [] cs a = each (IsAlike []) (λ c. refl) cs
alike_of (g ∷ gs) cs a =
    all_follow (λ (c : Conn). Agree g c × IsAlike gs c) (IsAlike (g ∷ gs)) cs
    (λ c h. ap (λ b. b || is_among (ids_of gs) c.id) h.0 ∙ ap (λ b. (c.seat == g.seat) || b) h.1)
    (all_both (Agree g) (IsAlike gs) cs a.0 (alike_of gs cs a.1))

-- one of the desk
pub one_alike : (d : Desk) (c : Conn) → AreSeated d → conn_of d c.id ≡ Some c → AreAlike (c ∷ []) d.conns
one_alike d c s live =
    let all : AllByRecursion (λ (a : Conn). AllByRecursion (Agree a) d.conns) d.conns = all_agree d.conns s.own_ids s.own_seats in
    alike_of (c ∷ []) d.conns (all_of_found (λ (a : Conn). AllByRecursion (Agree a) d.conns) (has_id c.id) d.conns c all live, tt)

-- all on an endpoint
pub endpoint_alike : (d : Desk) (e : ℕ) → AreSeated d → AreAlike (on_endpoint d e) d.conns
endpoint_alike d e s =
    let all : AllByRecursion (λ (a : Conn). AllByRecursion (Agree a) d.conns) d.conns = all_agree d.conns s.own_ids s.own_seats in
    alike_of (on_endpoint d e) d.conns (all_of_filter (λ (a : Conn). AllByRecursion (Agree a) d.conns) (λ (c : Conn). c.endpoint == e) d.conns all)

-- ---- those that stay

-- they have the seats that the others don't
pub seats_without :
    (s : ℕ) (gone cs : List Conn) → AreAlike gone cs
    → some_of (has_seat s) (without gone cs) ≡ (not (contains s (seats_of gone)) && some_of (has_seat s) cs)
seats_without s gone cs a =
    ap (some_of (has_seat s)) (filter_agrees by_id by_seat cs (all_follow (IsAlike gone) (λ (c : Conn). by_id c ≡ by_seat c) cs (λ c h. ap not h) a))
    ∙ any-filter_same (has_seat s) by_seat (not (contains s (seats_of gone))) (λ c e. ap (λ n. not (contains n (seats_of gone))) (eqb-true c.seat s e)) cs
  where
    by_id : Conn → Bool
    by_id c = not (is_among (ids_of gone) c.id)

    by_seat : Conn → Bool
    by_seat c = not (contains c.seat (seats_of gone))

-- and are found as before
pub found_without : (id : ℕ) (gone cs : List Conn) → first (has_id id) (without gone cs) ≡ cond (not (is_among (ids_of gone) id)) (first (has_id id) cs) None
found_without id gone cs =
    first_of_filter (has_id id) (λ (c : Conn). not (is_among (ids_of gone) c.id)) (not (is_among (ids_of gone) id))
    (λ c e. ap (λ n. not (is_among (ids_of gone) n)) (eqb-true c.id id e)) cs

-- ---- a new id

apart : (a b n : ℕ) → a < n → b ≡ n → (a == b) ≡ false
apart a b n h e = grind (arith, nat_tests)

-- no connection has the next id
pub none_new : (d : Desk) (id : ℕ) → AreSeated d → id ≡ d.next_id → AllByRecursion (λ (c : Conn). has_id id c ≡ false) d.conns
none_new d id s e =
    all_follow (λ (c : Conn). c.id < d.next_id) (λ (c : Conn). has_id id c ≡ false) d.conns (λ c h. apart c.id id d.next_id h e) s.old_ids
