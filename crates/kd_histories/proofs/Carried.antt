-- What a plan that is carried out does to who sits where, whoever its caller is: one of this bus, by
-- the laws of plans, or one of another bus, who learns that its seat is free.
use Rattle.std.specs.Prelude.{◌≡◌, ◌≢◌, ◌<◌, ◌⊎◌, ℕ, ◌&&◌, Bool, true, false, not, [], Option, Some, None, Result, Ok, Err, refl, ◌≤◌, ◌+◌, ◌==◌}
use Rattle.std.proofs.Common.{sym, ap, ◌∙◌, subst, inl, inr, ⊎_elim, arith}
use Rattle.kd_types.specs.declared.creds.Kind.{Kind}
use Rattle.kd_types.specs.declared.creds.Kind.TheVariants.{Ordinary}
use Rattle.kd_types.specs.declared.refusal.Refusal.{Refusal}
use Rattle.kd_types.specs.declared.refusal.Refusal.TheVariants.{NoSuchBus}
use Rattle.kd_model.specs.Words.{contains}
use Rattle.kd_wire.specs.declared.command.Command.{Command}
use Rattle.kd_commands.specs.declared.who.Who.{Who}
use Rattle.kd_commands.specs.declared.who.WhoKind.{WhoKind}
use Rattle.kd_commands.specs.declared.who.WhoKind.TheVariants as who
use Rattle.kd_commands.specs.State.{Desk, unblocked}
use Rattle.kd_commands.specs.Hello.{is_free}
use Rattle.kd_commands.specs.Plans.{Part, Plan}
use Rattle.kd_commands.specs.Seating.{AreSeated, IsElsewhere, IsKnown, IsLiveStill, IsLiveThen, IsNow, IsPlaced, IsRaisedFree, is_live, open_along}
use Rattle.kd_commands.specs.Step.{from_old, plan, from_fresh}
use Rattle.kd_commands.specs.Visits.{next_part}
use Rattle.kd_commands.proofs.Callers.{callers_move}
use Rattle.kd_commands.proofs.Moving.{moves}
use Rattle.kd_commands.proofs.Opens.{opens_are_live, opens_stay, raises_free}
use Rattle.kd_commands.proofs.Others.{others_stay}
use Rattle.kd_commands.proofs.Seating.{seating_stays}
use Rattle.kd_world.specs.Planner.{is_fresh}
use Rattle.kd_histories.specs.Slots.{finds_bus, planned, seeks_bus, has_bus}
use Rattle.kd_histories.specs.Seats.{arrives, departs, stays, departure, moved}
use Rattle.kd_histories.proofs.Waiting.{Learned, gone_learns, keeper_learns, unblocked_placed, unblocked_seated, unblocked_waits, waiting_is_unused, waits_through, ids_through, bare_through}
use Rattle.kd_model.proofs.Truth.{not_ok}

-- the seat isn't the caller's
abbrev pub IsAway : ℕ → WhoKind → Type 0
IsAway c who.Fresh = Unit {0}
IsAway c (who.Conn id s) = c ≢ s
IsAway c (who.Keeper e) = Unit {0}
IsAway c (who.Old None) = Unit {0}
IsAway c (who.Old (Some s)) = c ≢ s

-- the seat of a caller of another bus waits for it
abbrev pub IsAwaited : Desk → WhoKind → Type 0
IsAwaited d who.Fresh = Unit {0}
IsAwaited d (who.Conn id s) = Unit {0}
IsAwaited d (who.Keeper e) = Unit {0}
IsAwaited d (who.Old None) = Unit {0}
IsAwaited d (who.Old (Some s)) = contains s d.blocked ≡ true

pub record Carried (d : Desk) (m : WhoKind) (p : Plan) : Type 0 where
  pub kind : Kind
  pub seated : AreSeated p.next
  pub placed : (id seat : ℕ) (kind : Kind) → IsPlaced d id seat kind → IsAway seat m → IsPlaced p.next id seat kind
  pub waits : (c : ℕ) → c < 64 → IsAway c m → contains c d.blocked ≡ true → contains c p.next.blocked ≡ true
  pub now : IsNow d p.next kind m p.becomes
  pub left : (g c : ℕ) → moved g m p.becomes ≡ departs c → is_live p.next c ≡ false
  pub opens : IsLiveThen d p
  pub stops : IsLiveStill d p
  pub raises : IsRaisedFree d p
  pub ids : p.next.next_id ≤ d.next_id + 1
  pub bare : (m ≡ who.Fresh → ⊥) → d.conns ≡ [] → p.next.conns ≡ []

-- ---- a caller of this bus

-- who is away is elsewhere
elsewhere : (c : ℕ) (m : WhoKind) → IsAway c m → IsElsewhere c m
elsewhere c who.Fresh a = tt
elsewhere c (who.Conn id s) a = a
elsewhere c (who.Keeper e) a = tt
elsewhere c (who.Old None) a = tt
elsewhere c (who.Old (Some s)) a = tt

-- who departs has left its seat
now_left : (d d' : Desk) (kind : Kind) (m b : WhoKind) (g c : ℕ) → IsKnown d kind m → moved g m b ≡ departs c → IsNow d d' kind m b → is_live d' c ≡ false
now_left d d' kind who.Fresh who.Fresh g c is e now = absurd (let f : stays ≡ departs c = e in cc)
now_left d d' kind who.Fresh (who.Conn i s) g c is e now = absurd (let f : arrives g i s ≡ departs c = e in cc)
now_left d d' kind who.Fresh (who.Keeper x) g c is e now = absurd (let f : stays ≡ departs c = e in cc)
now_left d d' kind who.Fresh (who.Old x) g c is e now = absurd (let f : stays ≡ departs c = e in cc)
now_left d d' kind (who.Conn i s) who.Fresh g c is e now = let same : s ≡ c = let f : departs s ≡ departs c = e in cc in ap (is_live d') (sym same) ∙ now
now_left d d' kind (who.Conn i s) (who.Conn i' s') g c is e now = absurd (let f : stays ≡ departs c = e in cc)
now_left d d' kind (who.Conn i s) (who.Keeper x) g c is e now = let same : s ≡ c = let f : departs s ≡ departs c = e in cc in ap (is_live d') (sym same) ∙ now
now_left d d' kind (who.Conn i s) (who.Old x) g c is e now = absurd (let f : stays ≡ departs c = e in cc)
now_left d d' kind (who.Keeper x) b g c is e now = absurd (let f : stays ≡ departs c = e in cc)
now_left d d' kind (who.Old x) b g c is e now = absurd is

known_carried : (d : Desk) (k : Kind) (w : Who) (x : Command) (p : Plan) → AreSeated d → IsKnown d k w.member → plan d w x ≡ Ok p → Carried d w.member p
known_carried d k w x p s is e =
    let now = callers_move d k w x p s is e in
    record {
      kind = k;
      seated = seating_stays d k w x p s is e;
      placed = λ id seat kind was away. others_stay d k w x p s is e id seat kind was (elsewhere seat w.member away);
      waits = λ c low away was. waits_through d w.member p c low (moves d k w x p is e) (elsewhere c w.member away) was;
      now = now;
      left = λ g c out. now_left d p.next k w.member p.becomes g c is out now;
      opens = opens_are_live d k w x p s is e;
      stops = opens_stay d k w x p s is e;
      raises = raises_free d k w x p s is e;
      ids = ids_through d w.member p (moves d k w x p is e);
      bare = bare_through d w.member p (moves d k w x p is e);
    }

-- ---- a caller of another bus

plan_old : (d : Desk) (w : Who) (x : Command) (p : Plan) (o : Option ℕ) → w.member ≡ who.Old o → plan d w x ≡ Ok p → from_old d o x ≡ Ok p
unfolding plan
plan_old d w x p o e h = subst (λ (m : WhoKind). plan d (record { creds = w.creds; member = m }) x ≡ Ok p) e h

-- whom it visits nobody
module _ (d d' : Desk) (p : Plan) (l : Learned d d' p) where
  learned_live : ((seat : ℕ) → is_live d' seat ≡ is_live d seat) → IsLiveThen d p
  unfolding open_along
  learned_live same outs seat start all = ap (λ ps. open_along seat ps outs (is_live d seat)) l.parts ∙ (sym (same seat) ∙ ap (λ (e : Desk). is_live e seat) (sym l.next))

  learned_stops : IsLiveStill d p
  unfolding open_along
  learned_stops outs seat why start = ap (λ ps. open_along seat ps outs (is_live d seat)) l.parts

  learned_raises : IsRaisedFree d p
  unfolding next_part
  learned_raises outs q size next act = absurd (none (ap (λ ps. next_part [] ps outs) (sym l.parts) ∙ next))
    where
      none : ◌≡◌ {A = Option Part} None (Some q) → ⊥
      none e = cc

old_carried : (d : Desk) (o : Option ℕ) (x : Command) (p : Plan) → AreSeated d → IsAwaited d (who.Old o) → from_old d o x ≡ Ok p → Carried d (who.Old o) p
old_carried d None x p s waits e =
    let l = keeper_learns d x p e in
    record {
      kind = Ordinary;
      seated = subst AreSeated (sym l.next) s;
      placed = λ id seat kind was away. subst (λ (f : Desk). IsPlaced f id seat kind) (sym l.next) was;
      waits = λ c low away was. ap (λ (f : Desk). contains c f.blocked) l.next ∙ was;
      now = subst (λ b. IsNow d p.next Ordinary (who.Old None) b) (sym l.becomes) tt;
      left = λ g c out. absurd (let f : stays ≡ departs c = out in cc);
      opens = learned_live d d p l (λ seat. refl);
      stops = learned_stops d d p l;
      raises = learned_raises d d p l;
      ids = subst (λ (f : Desk). f.next_id ≤ d.next_id + 1) (sym l.next) (omega arith);
      bare = λ old none. ap (λ (f : Desk). f.conns) l.next ∙ none;
    }
old_carried d (Some a) x p s waits e =
    let l = gone_learns d a x p e in
    record {
      kind = Ordinary;
      seated = subst AreSeated (sym l.next) (unblocked_seated d a s);
      placed = λ id seat kind was away. subst (λ (f : Desk). IsPlaced f id seat kind) (sym l.next) (unblocked_placed d a id seat kind away was);
      waits = λ c low away was. ap (λ (f : Desk). contains c f.blocked) l.next ∙ unblocked_waits d a c away was;
      now = subst (λ b. IsNow d p.next Ordinary (who.Old (Some a)) b) (sym l.becomes) tt;
      left = λ g c out.
          let f : departs a ≡ departs c = sym (ap (departure a) l.becomes) ∙ out in
          let same : a ≡ c = cc in
          ap (λ (f : Desk). is_live f c) l.next ∙ (ap (is_live d) (sym same) ∙ waiting_is_unused d a s waits);
      opens = learned_live d (unblocked a d) p l (λ seat. refl);
      stops = learned_stops d (unblocked a d) p l;
      raises = learned_raises d (unblocked a d) p l;
      ids = subst (λ (f : Desk). f.next_id ≤ d.next_id + 1) (sym l.next) (omega arith);
      bare = λ old none. ap (λ (f : Desk). f.conns) l.next ∙ none;
    }

-- ---- any

pub carried :
    (d : Desk) (w : Who) (x : Command) (p : Plan) → AreSeated d → ((k : Kind) × IsKnown d k w.member) ⊎ ((o : Option ℕ) × (w.member ≡ who.Old o) × IsAwaited d (who.Old o))
    → plan d w x ≡ Ok p → Carried d w.member p
carried d w x p s (inl is) e = known_carried d is.0 w x p s is.1 e
carried d w x p s (inr old) e = subst (λ m. Carried d m p) (sym old.1) (old_carried d old.0 x p s old.2 (plan_old d w x p old.0 old.1 e))

-- what isn't refused for want of its bus is planned by the desk
pub planned_plan : (g : ℕ) (aim : Option ℕ) (d : Desk) (w : Who) (x : Command) (p : Plan) → planned g aim d w x ≡ Ok p → plan d w x ≡ Ok p
unfolding planned
planned_plan g aim d w x p e = go (is_fresh w.member && (seeks_bus x && not (finds_bus g aim))) e
  where
    go : (b : Bool) → ◌≡◌ {A = Result Plan Refusal} (elim b [ true ↦ Err (NoSuchBus g) | false ↦ plan d w x ]) (Ok p) → plan d w x ≡ Ok p
    go true e = absurd cc
    go false e = e

-- without a bus it isn't one that looks for it
pub planned_stays : (g : ℕ) (aim : Option ℕ) (d : Desk) (w : Who) (x : Command) (p : Plan) → w.member ≡ who.Fresh → has_bus g ≡ false → planned g aim d w x ≡ Ok p → seeks_bus x ≡ false
unfolding planned
planned_stays g aim d w x p fresh dead e = go (seeks_bus x) refl
  where
    finds_none : (o : Option ℕ) → finds_bus g o ≡ false
    finds_none None = dead
    finds_none (Some a) = ap (λ b. b && a == g) dead

    test : seeks_bus x ≡ true → (is_fresh w.member && (seeks_bus x && not (finds_bus g aim))) ≡ true
    test q = ap (λ m. is_fresh m && (seeks_bus x && not (finds_bus g aim))) fresh ∙ (ap (λ b. b && not (finds_bus g aim)) q ∙ ap not (finds_none aim))

    go : (b : Bool) → seeks_bus x ≡ b → seeks_bus x ≡ false
    go false q = q
    go true q = absurd (not_ok (subst (λ b. ◌≡◌ {A = Result Plan Refusal} (elim b [ true ↦ Err (NoSuchBus g) | false ↦ plan d w x ]) (Ok p)) (test q) e))

pub plan_fresh : (d : Desk) (w : Who) (x : Command) (p : Plan) → w.member ≡ who.Fresh → plan d w x ≡ Ok p → from_fresh d w.creds x ≡ Ok p
unfolding plan
plan_fresh d w x p e h = subst (λ (m : WhoKind). plan d (record { creds = w.creds; member = m }) x ≡ Ok p) e h

-- ---- who arrives took a free seat

pub now_free : (d d' : Desk) (kind : Kind) (m b : WhoKind) (g g' id c : ℕ) → moved g m b ≡ arrives g' id c → IsNow d d' kind m b → is_free d c ≡ true
now_free d d' kind who.Fresh who.Fresh g g' id c e now = absurd (let f : stays ≡ arrives g' id c = e in cc)
now_free d d' kind who.Fresh (who.Conn i s) g g' id c e now = let same : s ≡ c = let f : arrives g i s ≡ arrives g' id c = e in cc in
    ⊎_elim (λ old. absurd (let f : who.Fresh ≡ who.Conn i s = old.0 in cc)) (λ new. ap (is_free d) (sym same) ∙ new.1) now
now_free d d' kind who.Fresh (who.Keeper x) g g' id c e now = absurd (let f : stays ≡ arrives g' id c = e in cc)
now_free d d' kind who.Fresh (who.Old x) g g' id c e now = absurd (let f : stays ≡ arrives g' id c = e in cc)
now_free d d' kind (who.Conn i s) b g g' id c e now = absurd (never s b e)
  where
    never : (s : ℕ) (b : WhoKind) → departure s b ≡ arrives g' id c → ⊥
    never s who.Fresh e = cc
    never s (who.Conn i' s') e = cc
    never s (who.Keeper x) e = cc
    never s (who.Old x) e = cc
now_free d d' kind (who.Keeper x) b g g' id c e now = absurd (let f : stays ≡ arrives g' id c = e in cc)
now_free d d' kind (who.Old None) b g g' id c e now = absurd (let f : stays ≡ arrives g' id c = e in cc)
now_free d d' kind (who.Old (Some s)) b g g' id c e now = absurd (never s b e)
  where
    never : (s : ℕ) (b : WhoKind) → departure s b ≡ arrives g' id c → ⊥
    never s who.Fresh e = cc
    never s (who.Conn i' s') e = cc
    never s (who.Keeper x) e = cc
    never s (who.Old x) e = cc
