-- Hands agree with pools after somebody left the desk as another, or as what it was.
use Rattle.std.specs.Prelude.{◌≡◌, ◌≢◌, ◌&&◌, ℕ, Bool, true, false, not, cond, List, [], ◌∷◌, length, get_or, replicate, refl, Option, Some, None, option_map, unwrap_or}
use Rattle.std.proofs.Common.{ap, sym, subst, ◌∙◌, arith, inl, ⊎_elim}
use Rattle.std.proofs.lemmas.Bool.{true≢false}
use Rattle.std.proofs.lemmas.Grind.{common_steps}
use mathlib.Core.Logic.{dite}
use native.Mathlib.Decide.{ℕ_discrete}
use Rattle.kd_types.specs.declared.creds.Kind.{Kind}
use Rattle.kd_model.specs.Words.{contains, first, some_of}
use Rattle.kd_model.proofs.Truth.{not_true}
use Rattle.kd_acts.specs.State.{Hold, Pool}
use Rattle.kd_acts.specs.Lasting.{is_handed_in, is_open}
use Rattle.kd_commands.specs.declared.conn.Conn.{Conn}
use Rattle.kd_commands.specs.declared.who.WhoKind.{WhoKind}
use Rattle.kd_commands.specs.declared.who.WhoKind.TheVariants as who
use Rattle.kd_commands.specs.State.{Desk, conn_of, has_id, has_seat, is_holder}
use Rattle.kd_commands.specs.Hello.{is_free}
use Rattle.kd_commands.specs.Seating.{AreSeated, HasLeft, IsElsewhere, IsKnown, IsNow, IsPlaced, is_live}
use Rattle.kd_world.specs.Hands.{empty_hand}
use Rattle.kd_world.specs.Callers.{hand_after, kind_after}
use Rattle.kd_world.specs.Agreed.{is_told_handed}
use Rattle.kd_world.proofs.Agreeing.{Agrees, Face, Sits, but_at, each, has, here, same_seat, there}

abbrev pub face_after : Desk → Face → WhoKind → Face
face_after e f b = record { member = b; kind = kind_after e b f.kind; hand = hand_after b f.hand }

-- a list of one value alone has it everywhere
pub alike : {X : Type 0} (m k : ℕ) (x : X) → get_or (replicate m x) k x ≡ x
alike m k x = grind (arith, common_steps)

pub nothing_told : (n : ℕ) → is_told_handed (get_or empty_hand n None) ≡ false
nothing_told n = ap is_told_handed (alike 256 n None)

-- a connection that is found has its seat
found_sits : (id t : ℕ) (cs : List Conn) (c : Conn) → first (has_id id) cs ≡ Some c → c.seat ≡ t → some_of (has_seat t) cs ≡ true
found_sits id t [] c e s = absurd cc
found_sits id t (x ∷ xs) c e s = go (λ f. found_sits id t xs c f s) (has_id id x) e
  where
    go : (first (has_id id) xs ≡ Some c → some_of (has_seat t) xs ≡ true) → (b : Bool) → cond b (Some x) (first (has_id id) xs) ≡ Some c → some_of (has_seat t) (x ∷ xs) ≡ true
    go rest true e = let same : x.seat ≡ t = ap (λ (o : Option Conn). elim o [ None ↦ t | Some y ↦ y.seat ]) e ∙ s in grind (arith, same)
    go rest false e = let later = rest e in grind (arith, later)

-- a seat that somebody has isn't free
placed_taken : (d : Desk) (id t : ℕ) (k : Kind) → IsPlaced d id t k → is_free d t ≡ true → ⊥
placed_taken d id t k p free = go (conn_of d id) refl
  where
    taken : (a b : Bool) → (not a && not b) ≡ true → (a ≡ false) × (b ≡ false)
    taken true b e = absurd (true≢false (sym e))
    taken false true e = absurd (true≢false (sym e))
    taken false false e = (refl, refl)

    both : (is_live d t ≡ false) × (contains t d.blocked ≡ false)
    both = taken (is_live d t) (contains t d.blocked) free

    go : (o : Option Conn) → conn_of d id ≡ o → ⊥
    go None e = true≢false (sym (p.gone e) ∙ both.1)
    go (Some c) e = true≢false (sym (found_sits id t d.conns c e (p.live c e).0) ∙ both.0)

kind_stays : (e : Desk) (id s : ℕ) (k : Kind) → IsPlaced e id s k → kind_after e (who.Conn id s) k ≡ k
kind_stays e id s k p = go (conn_of e id) refl
  where
    go : (o : Option Conn) → conn_of e id ≡ o → unwrap_or (option_map (λ (c : Conn). c.kind) (conn_of e id)) k ≡ k
    go None f = ap (λ o. unwrap_or (option_map (λ (c : Conn). c.kind) o) k) f
    go (Some c) f = ap (λ o. unwrap_or (option_map (λ (c : Conn). c.kind) o) k) f ∙ (p.live c f).1

kind_found : (e : Desk) (id s : ℕ) (k : Kind) (c : Conn) → conn_of e id ≡ Some c → kind_after e (who.Conn id s) k ≡ c.kind
kind_found e id s k c f = ap (λ o. unwrap_or (option_map (λ (c : Conn). c.kind) o) k) f

fresh_sits_not : (m : WhoKind) (id s : ℕ) → m ≡ who.Fresh → m ≡ who.Conn id s → ⊥
fresh_sits_not m id s e f = true≢false (ap (λ (x : WhoKind). elim x [ who.Fresh ↦ true | who.Conn i t ↦ false | who.Keeper k ↦ false | who.Old o ↦ false ]) (sym e ∙ f))

closed_hands_none : (n : ℕ) (h : Hold) → is_open h ≡ false → is_handed_in n h ≡ false
closed_hands_none n h = go h.pool
  where
    go : (o : Option Pool) → is_open (record h { pool = o }) ≡ false → is_handed_in n (record h { pool = o }) ≡ false
    go None e = refl
    go (Some p) e = absurd (true≢false e)

-- nobody has a free seat
pub nobody_at : (d : Desk) (pool : ℕ → Hold) (face : ℕ → Face) (up : ℕ → Bool) → Agrees d pool face up → (s : ℕ) → is_free d s ≡ true → (j id : ℕ) → (face j).member ≡ who.Conn id s → ⊥
nobody_at d pool face up r s free j id m = placed_taken d id s (face j).kind (subst (IsKnown d (face j).kind) m (r.known j)) free

module _ (d e : Desk) (pool : ℕ → Hold) (face : ℕ → Face) (up : ℕ → Bool) (r : Agrees d pool face up) (i : ℕ) (b : WhoKind)
    (seated : AreSeated e) (stays : (id seat : ℕ) (kind : Kind) → IsPlaced d id seat kind → IsElsewhere seat (face i).member → IsPlaced e id seat kind)
    (move : IsNow d e (face i).kind (face i).member b) (opened : (s : ℕ) → up s ≡ is_live e s) where
  abbrev f : Face
  f = face i

  abbrev mine : Face
  mine = face_after e f b

  abbrev faces : ℕ → Face
  faces = but_at face i mine

  known_now : (b : WhoKind) → IsNow d e f.kind f.member b → IsKnown e (kind_after e b f.kind) b
  known_now who.Fresh m = tt
  known_now (who.Keeper k) m = tt
  known_now (who.Old s) m = m
  known_now (who.Conn id s) m = ⊎_elim
      (λ (x : (f.member ≡ who.Conn id s) × IsPlaced e id s f.kind). subst (IsPlaced e id s) (sym (kind_stays e id s f.kind x.1)) x.1)
      (λ (x : (f.member ≡ who.Fresh) × (is_free d s ≡ true) × ((c : Conn) × (conn_of e id ≡ Some c) × IsPlaced e id s c.kind)).
      subst (IsPlaced e id s) (sym (kind_found e id s f.kind x.2.0 x.2.1)) x.2.2) m

  bare_now : (n : ℕ) (b : WhoKind) → IsNow d e f.kind f.member b → has (face_after e f b) n ≡ true → Sits (face_after e f b)
  bare_now n who.Fresh m h = absurd (true≢false (sym h ∙ nothing_told n))
  bare_now n (who.Keeper k) m h = absurd (true≢false (sym h ∙ nothing_told n))
  bare_now n (who.Old s) m h = absurd m
  bare_now n (who.Conn id s) m h = let old = r.bare i n h in ⊎_elim
      (λ (x : (f.member ≡ who.Conn id s) × IsPlaced e id s f.kind). record { id = id; seat = s; member = refl; kind = ap is_holder (kind_stays e id s f.kind x.1) ∙ old.kind })
      (λ (x : (f.member ≡ who.Fresh) × (is_free d s ≡ true) × ((c : Conn) × (conn_of e id ≡ Some c) × IsPlaced e id s c.kind)).
      absurd (fresh_sits_not f.member old.id old.seat x.0 old.member)) m

  wide_now : (b : WhoKind) → length (hand_after b f.hand) ≡ 256
  wide_now who.Fresh = refl
  wide_now (who.Conn id s) = r.wide i
  wide_now (who.Keeper k) = refl
  wide_now (who.Old s) = refl

  -- whoever else has a seat has another
  else_there : (j id t : ℕ) (b : WhoKind) → j ≢ i → IsNow d e f.kind f.member b → (face j).member ≡ who.Conn id t → IsElsewhere t b
  else_there j id t who.Fresh ne m e = tt
  else_there j id t (who.Keeper k) ne m e = tt
  else_there j id t (who.Old s) ne m e = absurd m
  else_there j id t (who.Conn id' s) ne m at = ⊎_elim
      (λ (x : (f.member ≡ who.Conn id' s) × IsPlaced e id' s f.kind). subst (IsElsewhere t) x.0 (r.apart j i id t (λ z. ne (sym z)) at))
      (λ (x : (f.member ≡ who.Fresh) × (is_free d s ≡ true) × ((c : Conn) × (conn_of e id' ≡ Some c) × IsPlaced e id' s c.kind)).
      λ z. nobody_at d pool face up r s x.1 j id (at ∙ ap (who.Conn id) z)) m

  else_here : (j id s : ℕ) (b : WhoKind) → j ≢ i → IsNow d e f.kind f.member b → b ≡ who.Conn id s → IsElsewhere s (face j).member
  else_here j id s b ne m is = go (face j).member refl
    where
      go : (w : WhoKind) → (face j).member ≡ w → IsElsewhere s w
      go who.Fresh at = tt
      go (who.Keeper k) at = tt
      go (who.Old o) at = tt
      go (who.Conn id' t) at = let a : IsElsewhere t (who.Conn id s) = subst (IsElsewhere t) is (else_there j id' t b ne m at) in λ z. a (sym z)

  agreed_now : (id t n : ℕ) (b : WhoKind) → IsNow d e f.kind f.member b → b ≡ who.Conn id t → is_open (pool t) ≡ true → has (face_after e f b) n ≡ is_handed_in n (pool t)
  agreed_now id t n who.Fresh m at o = absurd (fresh_sits_not who.Fresh id t refl at)
  agreed_now id t n (who.Keeper k) m at o = absurd cc
  agreed_now id t n (who.Old s) m at o = absurd m
  agreed_now id t n (who.Conn id' s) m at o =
      let t_is : t ≡ s = same_seat (who.Conn id' s) id' s id t refl at in ⊎_elim
      (λ (x : (f.member ≡ who.Conn id' s) × IsPlaced e id' s f.kind). r.agreed i id' t n (x.0 ∙ ap (who.Conn id') (sym t_is)) o)
      (λ (x : (f.member ≡ who.Fresh) × (is_free d s ≡ true) × ((c : Conn) × (conn_of e id' ≡ Some c) × IsPlaced e id' s c.kind)).
      not_true (has f n) (λ h. let old = r.bare i n h in fresh_sits_not f.member old.id old.seat x.0 old.member)
      ∙ sym (ap (λ (z : ℕ). is_handed_in n (pool z)) t_is ∙ r.unowned s n (nobody_at d pool face up r s x.1))) m

  -- a seat that was left has no up pool
  left_closed : (id s : ℕ) (b : WhoKind) → IsNow d e f.kind f.member b → f.member ≡ who.Conn id s → (b ≡ f.member → ⊥) → is_open (pool s) ≡ false
  left_closed id s who.Fresh m at other = r.opens s ∙ opened s ∙ subst (HasLeft e) at m
  left_closed id s (who.Keeper k) m at other = r.opens s ∙ opened s ∙ subst (HasLeft e) at m
  left_closed id s (who.Old o) m at other = absurd m
  left_closed id s (who.Conn id' s') m at other = ⊎_elim
      (λ (x : (f.member ≡ who.Conn id' s') × IsPlaced e id' s' f.kind). absurd (other (sym x.0)))
      (λ (x : (f.member ≡ who.Fresh) × (is_free d s' ≡ true) × ((c : Conn) × (conn_of e id' ≡ Some c) × IsPlaced e id' s' c.kind)).
      absurd (fresh_sits_not f.member id s x.0 at)) m

  unowned_now : (s n : ℕ) → ((j id : ℕ) → (faces j).member ≡ who.Conn id s → ⊥) → is_handed_in n (pool s) ≡ false
  unowned_now s n nobody = go f.member refl
    where
      still : (j id : ℕ) → j ≢ i → (face j).member ≡ who.Conn id s → ⊥
      still j id ne at = nobody j id (ap (λ (g : Face). g.member) (there face i j mine ne) ∙ at)

      else : ((id : ℕ) → f.member ≡ who.Conn id s → ⊥) → is_handed_in n (pool s) ≡ false
      else never = r.unowned s n (λ j id at. dite (ℕ_discrete j i) (λ z. never id (ap (λ (k : ℕ). (face k).member) (sym z) ∙ at)) (λ ne. still j id ne at))

      go : (m : WhoKind) → f.member ≡ m → is_handed_in n (pool s) ≡ false
      go who.Fresh is = else (λ id at. fresh_sits_not f.member id s is at)
      go (who.Keeper k) is = else (λ id at. let z : who.Keeper k ≡ who.Conn id s = sym is ∙ at in cc)
      go (who.Old o) is = else (λ id at. let z : who.Old o ≡ who.Conn id s = sym is ∙ at in cc)
      go (who.Conn id t) is = dite (ℕ_discrete s t)
          (λ z. let at : f.member ≡ who.Conn id s = is ∙ ap (who.Conn id) (sym z) in
          closed_hands_none n (pool s) (left_closed id s b move at (λ w. nobody i id (ap (λ (g : Face). g.member) (here face i mine) ∙ w ∙ at))))
          (λ ne. else (λ id' at. ne (same_seat f.member id t id' s is at)))

  known_else : (j : ℕ) → j ≢ i → (w : WhoKind) → (face j).member ≡ w → IsKnown d (face j).kind w → IsKnown e (face j).kind w
  known_else j ne who.Fresh at k = tt
  known_else j ne (who.Keeper x) at k = tt
  known_else j ne (who.Old o) at k = k
  known_else j ne (who.Conn id t) at k = stays id t (face j).kind k (r.apart j i id t (λ z. ne (sym z)) at)

  pub moved : Agrees e pool faces (is_live e)
  moved = record {
    seated = seated;
    numbered = r.numbered;
    opens = λ s. r.opens s ∙ opened s;
    wide = each (λ j g. length g.hand ≡ 256) face i mine (wide_now b) (λ j _. r.wide j);
    known = each (λ j g. IsKnown e g.kind g.member) face i mine (known_now b move) (λ j ne. known_else j ne (face j).member refl (r.known j));
    bare = λ j n. each (λ j g. has g n ≡ true → Sits g) face i mine (bare_now n b move) (λ j _. r.bare j n) j;
    apart = λ j k id s ne. each (λ j g. k ≢ j → g.member ≡ who.Conn id s → IsElsewhere s (faces k).member) face i mine
        (λ ne at. subst (λ (g : Face). IsElsewhere s g.member) (sym (there face i k mine ne)) (else_here k id s b ne move at))
        (λ j nj ne at. each (λ k g. k ≢ j → IsElsewhere s g.member) face i mine (λ _. else_there j id s b nj move at) (λ k _ ne. r.apart j k id s ne at) k ne) j ne;
    agreed = λ j id t n. each (λ j g. g.member ≡ who.Conn id t → is_open (pool t) ≡ true → has g n ≡ is_handed_in n (pool t)) face i mine
        (agreed_now id t n b move) (λ j _. r.agreed j id t n) j;
    unowned = unowned_now;
  }

-- who is what it was
pub itself_now : (d : Desk) (k : Kind) (m : WhoKind) → IsKnown d k m → IsNow d d k m m
itself_now d k who.Fresh p = tt
itself_now d k (who.Conn id s) p = inl (refl, p)
itself_now d k (who.Keeper e) p = tt
itself_now d k (who.Old s) p = p
