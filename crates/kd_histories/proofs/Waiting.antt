-- Seats that wait for their own callers, through plans and through new buses.
use Rattle.std.specs.Prelude.{◌≡◌, ◌≢◌, ◌<◌, ◌⊎◌, ℕ, ◌==◌, ◌&&◌, ◌||◌, Bool, true, false, cond, not, List, [], ◌∷◌, ◌++◌, map, Option, Some, None, Result, Ok, refl, ◌≤◌, ◌+◌}
use Rattle.std.specs.List.{IsDistinct}
use Rattle.std.proofs.Common.{sym, ap, ◌∙◌, subst, eqb-true, eq-eqb, ne_eqb, inl, inr, arith}
use Rattle.std.proofs.lemmas.Bool.{false≢true}
use Rattle.std.proofs.lemmas.List.Folds.{list_any-append}
use Rattle.std.proofs.lemmas.Map.Views.{any-filter_same}
use Rattle.kd_types.specs.declared.creds.Kind.{Kind}
use Rattle.kd_types.specs.declared.refusal.Refusal.{Refusal}
use Rattle.kd_model.specs.Words.{but_those, contains, first, some_of}
use Rattle.kd_model.proofs.Lists.{all_follow, all_of_filter}
use Rattle.kd_model.proofs.Truth.{not_true}
use Rattle.kd_wire.specs.declared.command.Command.{Command}
use Rattle.kd_wire.specs.declared.command.Command.TheVariants as cmd
use Rattle.kd_commands.specs.declared.conn.Conn.{Conn}
use Rattle.kd_commands.specs.declared.who.WhoKind.{WhoKind}
use Rattle.kd_commands.specs.declared.who.WhoKind.TheVariants as who
use Rattle.kd_commands.specs.State.{Desk, conn_of, has_id, has_seat, opening_desk, unblocked}
use Rattle.kd_commands.specs.Leaving.{on_endpoint}
use Rattle.kd_commands.specs.Plans.{Plan}
use Rattle.kd_commands.specs.Seating.{AreSeated, IsElsewhere, IsPlaced, is_live}
use Rattle.kd_commands.specs.Step.{from_gone, from_old_keeper, from_fresh}
use Rattle.kd_commands.proofs.Finds.{none_pass, passes_none}
use Rattle.kd_commands.proofs.Members.{seats_of, turned, without}
use Rattle.kd_commands.proofs.Moves.{Moves, arrives, ends, learns, leaves, stays}
use Rattle.kd_commands.proofs.SeatSets.{in_set}
use Rattle.kd_histories.specs.Slots.{desk_behind, seeks_bus}
use Rattle.kd_types.specs.declared.creds.Creds.{Creds}

-- ---- a seat that waits

-- no live connection has it
pub waiting_is_unused : (d : Desk) (c : ℕ) → AreSeated d → contains c d.blocked ≡ true → is_live d c ≡ false
waiting_is_unused d c s waits =
    passes_none (has_seat c) d.conns
    (all_follow (λ (x : Conn). contains x.seat d.blocked ≡ false) (λ (x : Conn). has_seat c x ≡ false) d.conns
    (λ x h. not_true (x.seat == c) (λ t. false≢true (sym h ∙ (ap (λ n. contains n d.blocked) (eqb-true x.seat c t) ∙ waits)))) s.unblocked)

-- others learn that theirs are free
waits_still : (c s : ℕ) (bs : List ℕ) → c ≢ s → contains c (but_those (λ b. b == s) bs) ≡ contains c bs
waits_still c s bs ne =
    any-filter_same (λ b. c == b) (λ b. not (b == s)) (not (c == s)) (λ k e. ap (λ b. not (b == s)) (sym (eqb-true c k e))) bs
    ∙ ap (λ b. not b && contains c bs) (ne_eqb c s ne)

-- through any plan of another's
pub waits_through : (d : Desk) (m : WhoKind) (p : Plan) (c : ℕ) → c < 64 → Moves d m p → IsElsewhere c m → contains c d.blocked ≡ true → contains c p.next.blocked ≡ true
waits_through d m p c low (stays t) away waits = ap (contains c) t.blocked ∙ waits
waits_through d m p c low (arrives t) away waits = ap (contains c) t.blocked ∙ waits
waits_through d m p c low (leaves t) away waits = ap (contains c) t.blocked ∙ waits
waits_through d m p c low (ends t) away waits =
    let more : List ℕ = seats_of (on_endpoint d t.endpoint) in
    ap (contains c) t.blocked
    ∙ (in_set c (d.blocked ++ more) low ∙ (list_any-append (λ n. c == n) d.blocked more ∙ ap (λ b. b || contains c more) waits))
waits_through d m p c low (learns t) away waits =
    ap (contains c) t.blocked ∙ (waits_still c t.seat d.blocked (subst (IsElsewhere c) t.was away) ∙ waits)

-- ---- ids and connections, through any plan

ok_same : (p q : Plan) → ◌≡◌ {A = Result Plan Refusal} (Ok p) (Ok q) → p ≡ q
ok_same p q e = cc

-- at most one id is given
pub ids_through : (d : Desk) (m : WhoKind) (p : Plan) → Moves d m p → p.next.next_id ≤ d.next_id + 1
ids_through d m p (stays t) = let e = t.next_id in omega (arith, e)
ids_through d m p (arrives t) = let e = t.next_id in omega (arith, e)
ids_through d m p (leaves t) = let e = t.next_id in omega (arith, e)
ids_through d m p (ends t) = let e = t.next_id in omega (arith, e)
ids_through d m p (learns t) = let e = t.next_id in omega (arith, e)

-- only who was nothing becomes a connection
pub bare_through : (d : Desk) (m : WhoKind) (p : Plan) → Moves d m p → (m ≡ who.Fresh → ⊥) → d.conns ≡ [] → p.next.conns ≡ []
bare_through d m p (stays t) old bare = t.conns ∙ bare
bare_through d m p (arrives t) old bare = absurd (old t.was)
bare_through d m p (leaves t) old bare = t.conns ∙ ap (without (t.one ∷ [])) bare
bare_through d m p (ends t) old bare = t.conns ∙ ap (without (on_endpoint d t.endpoint)) bare
bare_through d m p (learns t) old bare = t.conns ∙ bare

-- and it does so by a HELLO
pub fresh_bare : (d : Desk) (creds : Creds) (x : Command) (p : Plan) → seeks_bus x ≡ false → from_fresh d creds x ≡ Ok p → p.next.conns ≡ d.conns
fresh_bare d creds (cmd.Hello flags size send_mask receive_mask is) p off e = let no : true ≡ false = off in absurd cc
fresh_bare d creds (cmd.EndpointMake is) p off e = let no : true ≡ false = off in absurd cc
fresh_bare d creds (cmd.Enter new) p off e = ap (λ (q : Plan). q.next.conns) (sym (ok_same _ p e))
fresh_bare d creds cmd.Close p off e = ap (λ (q : Plan). q.next.conns) (sym (ok_same _ p e))
fresh_bare d creds x p off e = absurd cc

-- ---- a caller of another bus learns that its seat is free

pub unblocked_seated : (d : Desk) (s : ℕ) → AreSeated d → AreSeated (unblocked s d)
unblocked_seated d s is = record {
  old_ids = is.old_ids;
  own_ids = is.own_ids;
  few_seats = is.few_seats;
  own_seats = is.own_seats;
  unblocked = all_follow (λ (x : Conn). contains x.seat d.blocked ≡ false) (λ (x : Conn). contains x.seat (but_those (λ b. b == s) d.blocked) ≡ false) d.conns
      (λ x h. passes_none (λ b. x.seat == b) (but_those (λ b. b == s) d.blocked)
      (all_of_filter (λ b. (x.seat == b) ≡ false) (λ b. not (b == s)) d.blocked (none_pass (λ b. x.seat == b) d.blocked h))) is.unblocked;
}

pub unblocked_waits : (d : Desk) (s c : ℕ) → c ≢ s → contains c d.blocked ≡ true → contains c (unblocked s d).blocked ≡ true
unblocked_waits d s c ne waits = waits_still c s d.blocked ne ∙ waits

pub unblocked_placed : (d : Desk) (s id c : ℕ) (kind : Kind) → c ≢ s → IsPlaced d id c kind → IsPlaced (unblocked s d) id c kind
unblocked_placed d s id c kind ne p = record {
  old_id = p.old_id;
  low = p.low;
  live = p.live;
  gone = λ none. unblocked_waits d s c ne (p.gone none);
}

-- its plan visits nobody
pub record Learned (d d' : Desk) (p : Plan) : Type 0 where
  pub parts : p.parts ≡ []
  pub next : p.next ≡ d'
  pub becomes : p.becomes ≡ who.Fresh

learned_by : (d d' : Desk) (q p : Plan) → ◌≡◌ {A = Result Plan Refusal} (Ok q) (Ok p) → Learned d d' q → Learned d d' p
learned_by d d' q p e l = subst (Learned d d') (ok_same q p e) l

pub gone_learns : (d : Desk) (s : ℕ) (x : Command) (p : Plan) → from_gone d s x ≡ Ok p → Learned d (unblocked s d) p
gone_learns d s cmd.Byebye p e = learned_by d (unblocked s d) _ p e (record { parts = refl; next = refl; becomes = refl })
gone_learns d s cmd.Close p e = learned_by d (unblocked s d) _ p e (record { parts = refl; next = refl; becomes = refl })
gone_learns d s x p e = absurd cc

pub keeper_learns : (d : Desk) (x : Command) (p : Plan) → from_old_keeper d x ≡ Ok p → Learned d d p
keeper_learns d cmd.Close p e = learned_by d d _ p e (record { parts = refl; next = refl; becomes = refl })
keeper_learns d x p e = absurd cc

-- ---- behind a new bus

pub behind_seated : (d : Desk) (creator size hashes : ℕ) → AreSeated (desk_behind d creator size hashes)
unfolding desk_behind opening_desk IsDistinct
behind_seated d creator size hashes = record { old_ids = tt; own_ids = tt; few_seats = tt; own_seats = tt; unblocked = tt }

pub behind_unused : (d : Desk) (creator size hashes c : ℕ) → is_live (desk_behind d creator size hashes) c ≡ false
unfolding desk_behind opening_desk
behind_unused d creator size hashes c = refl

behind_has : (d : Desk) (creator size hashes c : ℕ) → c < 64 → contains c (desk_behind d creator size hashes).blocked ≡ (contains c d.blocked || contains c (map (λ (x : Conn). x.seat) d.conns))
unfolding desk_behind
behind_has d creator size hashes c low =
    in_set c (d.blocked ++ map (λ (x : Conn). x.seat) d.conns) low
    ∙ list_any-append (λ n. c == n) d.blocked (map (λ (x : Conn). x.seat) d.conns)

seats_have : (c : ℕ) (cs : List Conn) → contains c (map (λ (x : Conn). x.seat) cs) ≡ some_of (has_seat c) cs
seats_have c [] = refl
seats_have c (x ∷ xs) = ap (λ b. b || contains c (map (λ (y : Conn). y.seat) xs)) (turned c x.seat) ∙ ap (λ b. (x.seat == c) || b) (seats_have c xs)

or_true : (b : Bool) → (b || true) ≡ true
or_true true = refl
or_true false = refl

-- what waited waits, and so do the seats of those that were live
pub waited_behind : (d : Desk) (creator size hashes c : ℕ) → c < 64 → contains c d.blocked ≡ true → contains c (desk_behind d creator size hashes).blocked ≡ true
waited_behind d creator size hashes c low waits = behind_has d creator size hashes c low ∙ ap (λ b. b || contains c (map (λ (x : Conn). x.seat) d.conns)) waits

pub lived_behind : (d : Desk) (creator size hashes c : ℕ) → c < 64 → is_live d c ≡ true → contains c (desk_behind d creator size hashes).blocked ≡ true
lived_behind d creator size hashes c low lives =
    behind_has d creator size hashes c low
    ∙ (ap (λ b. contains c d.blocked || b) (seats_have c d.conns ∙ lives) ∙ or_true (contains c d.blocked))

-- ---- a connection that is found is live at its seat

found_in : (id seat : ℕ) (cs : List Conn) (c : Conn) → first (has_id id) cs ≡ Some c → c.seat ≡ seat → some_of (has_seat seat) cs ≡ true
found_in id seat [] c e at = absurd cc
found_in id seat (x ∷ xs) c e at = go (has_id id x) (found_in id seat xs c) e
  where
    go : (b : Bool) → (first (has_id id) xs ≡ Some c → c.seat ≡ seat → some_of (has_seat seat) xs ≡ true) → cond b (Some x) (first (has_id id) xs) ≡ Some c → some_of (has_seat seat) (x ∷ xs) ≡ true
    go true later e = let same : x ≡ c = cc in ap (λ b. b || some_of (has_seat seat) xs) (eq-eqb x.seat seat (ap (λ (y : Conn). y.seat) same ∙ at))
    go false later e = ap (λ b. (x.seat == seat) || b) (later e at) ∙ or_true (x.seat == seat)

pub found_live : (d : Desk) (id seat : ℕ) (c : Conn) → conn_of d id ≡ Some c → c.seat ≡ seat → is_live d seat ≡ true
found_live d id seat c e at = found_in id seat d.conns c e at

-- whoever is placed at a seat is live there, or the seat waits
pub placed_either : (d : Desk) (id seat : ℕ) (kind : Kind) → IsPlaced d id seat kind → (is_live d seat ≡ true) ⊎ (contains seat d.blocked ≡ true)
placed_either d id seat kind p = go (conn_of d id) refl
  where
    go : (o : Option Conn) → conn_of d id ≡ o → (is_live d seat ≡ true) ⊎ (contains seat d.blocked ≡ true)
    go (Some c) e = inl (found_live d id seat c e (p.live c e).0)
    go None e = inr (p.gone e)
