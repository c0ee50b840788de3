-- What a command does to a settled desk and to keepers, whoever gave it.
use Rattle.std.specs.Prelude.{◌≡◌, ◌≢◌, ◌⊎◌, ℕ, ◌==◌, Bool, true, false, cond, Option, Some, None, Result, Ok, Err, refl}
use Rattle.std.proofs.Common.{sym, ap, ◌∙◌, subst, eqb-true, eq-eqb, inl, inr, ⊎_elim, arith}
use Rattle.std.proofs.lemmas.Bool.{and_from, and_parts, false≢true, true≢false}
use Rattle.kd_types.specs.declared.creds.Kind.{Kind}
use Rattle.kd_types.specs.declared.creds.Kind.TheVariants.{Ordinary}
use Rattle.kd_types.specs.declared.refusal.Refusal.{Refusal}
use Rattle.kd_wire.specs.declared.command.Command.{Command}
use Rattle.kd_commands.specs.declared.who.Who.{Who}
use Rattle.kd_commands.specs.declared.who.WhoKind.{WhoKind}
use Rattle.kd_commands.specs.declared.who.WhoKind.TheVariants as who
use Rattle.kd_commands.specs.Plans.{Plan}
use Rattle.kd_commands.specs.State.{Desk, unblocked}
use Rattle.kd_commands.specs.Step.{Ended, ended, ended_by, from_old, plan}
use Rattle.kd_commands.specs.Visits.{first_ends}
use Rattle.kd_settled.specs.Owners.{is_there}
use Rattle.kd_settled.specs.Room.{IsAtHome}
use Rattle.kd_settled.specs.Settled.{IsSettled}
use Rattle.kd_settled.proofs.Always.{settled_stays}
use Rattle.kd_settled.proofs.Callers.{callers_are_at_home, keepers_are_new, keepers_keep, others_stay_at_home}
use Rattle.kd_histories.specs.Turns.{Left}
use Rattle.kd_histories.specs.Slots.{IsLeft, Slot, left_end, planned}
use Rattle.kd_histories.specs.Seats.{IsAt, Sitter}
use Rattle.kd_histories.specs.Known.{Knows}
use Rattle.kd_histories.proofs.Carried.{planned_plan}
use Rattle.kd_histories.proofs.Waiting.{Learned, gone_learns, keeper_learns}
use Rattle.kd_keepers.specs.Keeping.{Endpoint, IsKeeper, changed, ending, ends, is_same, keeping_after, makes, making, unchanged}
use Rattle.kd_keepers.specs.Known.{HasEndpoint, IsHome}
use Rattle.kd_keepers.proofs.Desks.{unblocked_settled}

-- ---- endpoints

pub same_is : (x y : Endpoint) → is_same x y ≡ true → x ≡ y
same_is x y t =
    let both = and_parts (x.generation == y.generation) (x.number == y.number) t in
    ap (λ (g : ℕ). record { generation = g; number = x.number }) (eqb-true x.generation y.generation both.0)
    ∙ ap (λ (n : ℕ). record { generation = y.generation; number = n }) (eqb-true x.number y.number both.1)

pub same_refl : (x : Endpoint) → is_same x x ≡ true
same_refl x = and_from (x.generation == x.generation) (x.number == x.number) (eq-eqb x.generation x.generation refl) (eq-eqb x.number x.number refl)

-- the keeper of this number in the bus of this generation
abbrev pub at : ℕ → ℕ → Endpoint
at g n = record { generation = g; number = n }

-- ---- changes

no_pass : (j : ℕ) → ◌≡◌ {A = Option ℕ} None (Some j) → ⊥
no_pass j e = cc

pub some_pass : (i j : ℕ) → ◌≡◌ {A = Option ℕ} (Some i) (Some j) → i ≡ j
some_pass i j e = cc

pub changed_same : (g : ℕ) (m : WhoKind) → changed g m m ≡ unchanged
changed_same g who.Fresh = refl
changed_same g (who.Conn id s) = refl
changed_same g (who.Keeper n) = refl
changed_same g (who.Old s) = refl

-- who ended an endpoint kept it
pub ends_own : (g : ℕ) (m b : WhoKind) (x : Endpoint) → changed g m b ≡ ends x → (m ≡ who.Keeper x.number) × (g ≡ x.generation)
ends_own g m b x h = go m b h
  where
    never : (b : WhoKind) → making g b ≡ ends x → ⊥
    never who.Fresh h = cc
    never (who.Conn id s) h = cc
    never (who.Keeper n) h = cc
    never (who.Old s) h = cc

    is : (n : ℕ) → ends (at g n) ≡ ends x → (who.Keeper n ≡ who.Keeper x.number) × (g ≡ x.generation)
    is n h = let same : at g n ≡ x = cc in (ap (λ (y : Endpoint). who.Keeper y.number) same, ap (λ (y : Endpoint). y.generation) same)

    its : (n : ℕ) (b : WhoKind) → ending (at g n) b ≡ ends x → (who.Keeper n ≡ who.Keeper x.number) × (g ≡ x.generation)
    its n who.Fresh h = is n h
    its n (who.Conn id s) h = is n h
    its n (who.Keeper k) h = absurd cc
    its n (who.Old s) h = is n h

    go : (m b : WhoKind) → changed g m b ≡ ends x → (m ≡ who.Keeper x.number) × (g ≡ x.generation)
    go who.Fresh b h = absurd (never b h)
    go (who.Conn id s) b h = absurd (never b h)
    go (who.Keeper n) b h = its n b h
    go (who.Old s) b h = absurd (never b h)

-- who made one is its keeper in this bus, and kept none before
pub record Makes (g : ℕ) (m b : WhoKind) (x : Endpoint) : Type 0 where
  pub generation : g ≡ x.generation
  pub becomes : b ≡ who.Keeper x.number
  pub was : (n : ℕ) → m ≢ who.Keeper n

pub makes_own : (g : ℕ) (m b : WhoKind) (x : Endpoint) → changed g m b ≡ makes x → Makes g m b x
makes_own g m b x h = go m b h
  where
    its : (b : WhoKind) → making g b ≡ makes x → (g ≡ x.generation) × (b ≡ who.Keeper x.number)
    its who.Fresh h = absurd cc
    its (who.Conn id s) h = absurd cc
    its (who.Keeper n) h = let same : at g n ≡ x = cc in (ap (λ (y : Endpoint). y.generation) same, ap (λ (y : Endpoint). who.Keeper y.number) same)
    its (who.Old s) h = absurd cc

    never : (n : ℕ) (b : WhoKind) → ending (at g n) b ≡ makes x → ⊥
    never n who.Fresh h = cc
    never n (who.Conn id s) h = cc
    never n (who.Keeper k) h = cc
    never n (who.Old s) h = cc

    made : (m b : WhoKind) → ((n : ℕ) → m ≢ who.Keeper n) → making g b ≡ makes x → Makes g m b x
    made m b was h = let y = its b h in record { generation = y.0; becomes = y.1; was = was }

    go : (m b : WhoKind) → changed g m b ≡ makes x → Makes g m b x
    go who.Fresh b h = made who.Fresh b (λ n q. absurd cc) h
    go (who.Conn id s) b h = made (who.Conn id s) b (λ n q. absurd cc) h
    go (who.Keeper n) b h = absurd (never n b h)
    go (who.Old s) b h = made (who.Old s) b (λ n q. absurd cc) h

-- ---- how a command ends: nothing changes, or its plan is carried out

abbrev pub EndsSo : Slot → Left → Ended → Type 0
EndsSo s l x =
    ((x.next ≡ s.desk) × (x.becomes ≡ l.who.member))
    ⊎ ((p : Plan) × (plan s.desk l.who l.command ≡ Ok p) × (x.next ≡ p.next) × (x.becomes ≡ p.becomes))

pub ends_so : (s : Slot) (l : Left) → EndsSo s l (left_end s l)
unfolding left_end
ends_so s l = go (planned s.generation l.aim s.desk l.who l.command) refl
  where
    by : (p : Plan) → plan s.desk l.who l.command ≡ Ok p → (o : Option Refusal) → EndsSo s l (ended s.desk l.who p o)
    by p e (Some why) = inl (refl, refl)
    by p e None = inr (p, e, refl, refl)

    go : (r : Result Plan Refusal) → planned s.generation l.aim s.desk l.who l.command ≡ r → EndsSo s l (ended_by s.desk l.who r l.outs)
    go (Err why) e = inl (refl, refl)
    go (Ok p) e = by p (planned_plan s.generation l.aim s.desk l.who l.command p e) (first_ends p.parts l.outs)

-- ---- who the caller is

abbrev pub Keepings : Type 0
Keepings = Endpoint → Option ℕ

-- at home, or of another bus
abbrev pub IsHomeOrOld : Desk → WhoKind → Type 0
IsHomeOrOld d m = ((k : Kind) × IsAtHome d k m) ⊎ ((o : Option ℕ) × (m ≡ who.Old o))

pub home_or_old : (s : Slot) (k : ℕ → Option Sitter) (up : ℕ → Bool) (n : Keepings) (j g : ℕ) (m : WhoKind) → Knows s k up → IsHome s n → g ≡ s.generation
    → ((c : ℕ) → IsAt c g j m (k c)) → ((x : Endpoint) → IsKeeper x g j m (n x)) → IsHomeOrOld s.desk m
home_or_old s k up n j g who.Fresh w h same sits own = inl (Ordinary, tt)
home_or_old s k up n j g (who.Conn id c) w h same sits own = inl ((w.placed c (record { pass = j; generation = g; id = id }) (sits c (eq-eqb c c refl))).now same)
home_or_old s k up n j g (who.Keeper e) w h same sits own = inl (Ordinary, (h.kept (at g e) j (own (at g e) (same_refl (at g e)))).there same)
home_or_old s k up n j g (who.Old o) w h same sits own = inr (o, refl)

-- ---- a plan that is carried out

-- the desk stays settled, it has each endpoint that is kept, one that was made is new, and a keeper
-- stays that of its endpoint
pub record Went (s : Slot) (n : Keepings) (j : ℕ) (m : WhoKind) (p : Plan) : Type 0 where
  pub settled : IsSettled p.next
  pub kept : (x : Endpoint) (i : ℕ) → keeping_after x j (changed s.generation m p.becomes) (n x) ≡ Some i → HasEndpoint (record s { desk = p.next }) x
  pub new : (e i : ℕ) → m ≢ who.Keeper e → p.becomes ≡ who.Keeper e → n (at s.generation e) ≡ Some i → ⊥
  pub stays : (x y : ℕ) → m ≡ who.Keeper x → p.becomes ≡ who.Keeper y → x ≡ y

-- by a caller that is at home
module _ (s : Slot) (n : Keepings) (j : ℕ) (kind : Kind) (w : Who) (c : Command) (p : Plan) (h : IsHome s n) (home : IsAtHome s.desk kind w.member) (e : plan s.desk w c ≡ Ok p) where
  abbrev s' : Slot
  s' = record s { desk = p.next }

  -- an endpoint that the caller doesn't keep
  others : (x : Endpoint) (i : ℕ) → n x ≡ Some i → (x.generation ≡ s.generation → w.member ≢ who.Keeper x.number) → HasEndpoint s' x
  others x i q ne = let was = h.kept x i q in record {
    past = was.past;
    there = λ same. others_stay_at_home s.desk kind w c p h.settled home e Ordinary (who.Keeper x.number) (was.there same) (ne same);
  }

  -- the caller's
  becomes_there : (i : ℕ) → p.becomes ≡ who.Keeper i → HasEndpoint s' (at s.generation i)
  becomes_there i b = record {
    past = omega arith;
    there = λ _. let then = callers_are_at_home s.desk kind w c p h.settled home e in subst (IsAtHome p.next then.0) b then.1;
  }

  stays_there : (i k : ℕ) → w.member ≡ who.Keeper i → p.becomes ≡ who.Keeper k → i ≡ k
  stays_there i k m b = ⊎_elim
      (λ kept. let same : who.Keeper i ≡ who.Keeper k = sym kept.0 ∙ b in cc)
      (λ gone. absurd (let no : who.Fresh ≡ who.Keeper k = sym gone.0 ∙ b in cc))
      (keepers_keep s.desk kind w c p h.settled home e i m)

  -- whoever kept none
  by_making : (b : WhoKind) → p.becomes ≡ b → ((i : ℕ) → w.member ≢ who.Keeper i) → (x : Endpoint) (i : ℕ) → keeping_after x j (making s.generation b) (n x) ≡ Some i → HasEndpoint s' x
  by_making who.Fresh is was x i q = others x i q (λ _. was x.number)
  by_making (who.Conn id r) is was x i q = others x i q (λ _. was x.number)
  by_making (who.Old o) is was x i q = others x i q (λ _. was x.number)
  by_making (who.Keeper k) is was x i q = go (is_same (at s.generation k) x) refl q
    where
      go : (b : Bool) → is_same (at s.generation k) x ≡ b → cond b (Some j) (n x) ≡ Some i → HasEndpoint s' x
      go true z q = subst (HasEndpoint s') (same_is (at s.generation k) x z) (becomes_there k is)
      go false z q = others x i q (λ _. was x.number)

  -- a keeper
  by_ending : (k : ℕ) (b : WhoKind) → w.member ≡ who.Keeper k → p.becomes ≡ b → (x : Endpoint) (i : ℕ) → keeping_after x j (ending (at s.generation k) b) (n x) ≡ Some i → HasEndpoint s' x
  by_ending k b its is x i q = go b is q
    where
      apart : is_same (at s.generation k) x ≡ false → x.generation ≡ s.generation → w.member ≢ who.Keeper x.number
      apart ne g z =
          let same : who.Keeper k ≡ who.Keeper x.number = sym its ∙ z in
          let number : k ≡ x.number = cc in
          false≢true (sym ne ∙ and_from (s.generation == x.generation) (k == x.number) (eq-eqb s.generation x.generation (sym g)) (eq-eqb k x.number number))

      ended_it : (b : Bool) → is_same (at s.generation k) x ≡ b → cond b None (n x) ≡ Some i → HasEndpoint s' x
      ended_it true z q = absurd (no_pass i q)
      ended_it false z q = others x i q (apart z)

      stayed : (b : Bool) → is_same (at s.generation k) x ≡ b → (y : ℕ) → p.becomes ≡ who.Keeper y → n x ≡ Some i → HasEndpoint s' x
      stayed true z y is q = subst (HasEndpoint s') (same_is (at s.generation k) x z) (becomes_there k (is ∙ ap who.Keeper (sym (stays_there k y its is))))
      stayed false z y is q = others x i q (apart z)

      go : (b : WhoKind) → p.becomes ≡ b → keeping_after x j (ending (at s.generation k) b) (n x) ≡ Some i → HasEndpoint s' x
      go who.Fresh is q = ended_it (is_same (at s.generation k) x) refl q
      go (who.Conn id r) is q = ended_it (is_same (at s.generation k) x) refl q
      go (who.Old o) is q = ended_it (is_same (at s.generation k) x) refl q
      go (who.Keeper y) is q = stayed (is_same (at s.generation k) x) refl y is q

  by_change : (m : WhoKind) → w.member ≡ m → (x : Endpoint) (i : ℕ) → keeping_after x j (changed s.generation m p.becomes) (n x) ≡ Some i → HasEndpoint s' x
  by_change who.Fresh is x i q = by_making p.becomes refl (λ k z. absurd (let no : who.Fresh ≡ who.Keeper k = sym is ∙ z in cc)) x i q
  by_change (who.Conn id r) is x i q = by_making p.becomes refl (λ k z. absurd (let no : who.Conn id r ≡ who.Keeper k = sym is ∙ z in cc)) x i q
  by_change (who.Keeper k) is x i q = by_ending k p.becomes is refl x i q
  by_change (who.Old o) is x i q = by_making p.becomes refl (λ k z. absurd (let no : who.Old o ≡ who.Keeper k = sym is ∙ z in cc)) x i q

  pub home_went : Went s n j w.member p
  home_went = record {
    settled = settled_stays s.desk kind w c p h.settled home e;
    kept = by_change w.member refl;
    new = λ k i ne b q. ⊎_elim
        (λ its. ne its)
        (λ none. true≢false (sym ((h.kept (at s.generation k) i q).there refl) ∙ none))
        (keepers_are_new s.desk kind w c p h.settled home e k b);
    stays = stays_there;
  }

-- by one of another bus
learned_went : (s : Slot) (n : Keepings) (j : ℕ) (o : Option ℕ) (d' : Desk) (p : Plan) → IsHome s n → IsSettled d' → d'.endpoints ≡ s.desk.endpoints → Learned s.desk d' p → Went s n j (who.Old o) p
learned_went s n j o d' p h settled same l = record {
  settled = subst IsSettled (sym l.next) settled;
  kept = λ x i q. let was = h.kept x i (sym (ap (λ b. keeping_after x j (making s.generation b) (n x)) l.becomes) ∙ q) in record {
    past = was.past;
    there = λ now. ap (λ labels. is_there labels x.number) (ap (λ (d : Desk). d.endpoints) l.next ∙ same) ∙ was.there now;
  };
  new = λ k i ne b q. let no : who.Fresh ≡ who.Keeper k = sym l.becomes ∙ b in cc;
  stays = λ x y its b. absurd (let no : who.Old o ≡ who.Keeper x = its in cc);
}

plan_old : (d : Desk) (w : Who) (c : Command) (p : Plan) (o : Option ℕ) → w.member ≡ who.Old o → plan d w c ≡ Ok p → from_old d o c ≡ Ok p
unfolding plan
plan_old d w c p o e h = subst (λ (m : WhoKind). plan d (record { creds = w.creds; member = m }) c ≡ Ok p) e h

old_went : (s : Slot) (n : Keepings) (j : ℕ) (o : Option ℕ) (c : Command) (p : Plan) → IsHome s n → from_old s.desk o c ≡ Ok p → Went s n j (who.Old o) p
old_went s n j None c p h e = learned_went s n j None s.desk p h h.settled refl (keeper_learns s.desk c p e)
old_went s n j (Some a) c p h e = learned_went s n j (Some a) (unblocked a s.desk) p h (unblocked_settled s.desk a h.settled) refl (gone_learns s.desk a c p e)

-- by any
pub went : (s : Slot) (n : Keepings) (j : ℕ) (w : Who) (c : Command) (p : Plan) → IsHome s n → IsHomeOrOld s.desk w.member → plan s.desk w c ≡ Ok p → Went s n j w.member p
went s n j w c p h (inl home) e = home_went s n j home.0 w c p h home.1 e
went s n j w c p h (inr old) e = subst (λ m. Went s n j m p) (sym old.1) (old_went s n j old.0 c p h (plan_old s.desk w c p old.0 old.1 e))

-- ---- the entry of a command

module _ (s : Slot) (n : Keepings) (j : ℕ) (l : Left) (h : IsHome s n) (is : IsLeft s l) (caller : IsHomeOrOld s.desk l.who.member) where
  abbrev pub After : Desk → WhoKind → Type 0
  After d b = IsHome (record s { desk = d }) (λ x. keeping_after x j (changed l.generation l.who.member b) (n x))

  -- nothing changed
  still : After s.desk l.who.member
  still = record {
    settled = h.settled;
    kept = λ x i q. h.kept x i (sym (ap (λ c. keeping_after x j c (n x)) (changed_same l.generation l.who.member)) ∙ q);
  }

  then : (p : Plan) → plan s.desk l.who l.command ≡ Ok p → After p.next p.becomes
  then p e = let it = went s n j l.who l.command p h caller e in record {
    settled = it.settled;
    kept = λ x i q. it.kept x i (sym (ap (λ (g : ℕ). keeping_after x j (changed g l.who.member p.becomes) (n x)) is.generation) ∙ q);
  }

  abbrev end : Ended
  end = left_end s l

  pub left_home : After end.next l.becomes
  left_home = subst (After end.next) (sym is.becomes) (⊎_elim
      (λ same. subst (λ d. After d end.becomes) (sym same.0) (subst (After s.desk) (sym same.1) still))
      (λ done. subst (λ d. After d end.becomes) (sym done.2) (subst (After done.0.next) (sym done.3) (then done.0 done.1)))
      (ends_so s l))

  -- whoever makes an endpoint makes one that nobody keeps
  pub makes_new : (x : Endpoint) → changed l.generation l.who.member l.becomes ≡ makes x → n x ≡ None
  makes_new x c = go (n x) refl
    where
      made : Makes l.generation l.who.member l.becomes x
      made = makes_own l.generation l.who.member l.becomes x c

      becomes : end.becomes ≡ who.Keeper x.number
      becomes = sym is.becomes ∙ made.becomes

      now : at s.generation x.number ≡ x
      now = ap (λ (g : ℕ). at g x.number) (sym is.generation ∙ made.generation)

      go : (o : Option ℕ) → n x ≡ o → n x ≡ None
      go None q = q
      go (Some i) q = absurd (⊎_elim
          (λ same. made.was x.number (sym same.1 ∙ becomes))
          (λ done. (went s n j l.who l.command done.0 h caller done.1).new x.number i (made.was x.number) (sym done.3 ∙ becomes) (ap n now ∙ q))
          (ends_so s l))

  -- a keeper stays that of its endpoint
  pub keeper_stays : (x y : ℕ) → l.who.member ≡ who.Keeper x → l.becomes ≡ who.Keeper y → x ≡ y
  keeper_stays x y its b =
      let becomes : end.becomes ≡ who.Keeper y = sym is.becomes ∙ b in
      ⊎_elim
      (λ same. let z : who.Keeper x ≡ who.Keeper y = sym its ∙ (sym same.1 ∙ becomes) in cc)
      (λ done. (went s n j l.who l.command done.0 h caller done.1).stays x y its (sym done.3 ∙ becomes))
      (ends_so s l)
