-- Callers after every plan.
use Rattle.std.proofs.Common.{◌≡◌, ◌≢◌, ℕ, Bool, true, false, cond, List, [], ◌∷◌, Option, Some, None, Ok, refl, sym, ap, ◌∙◌, inl, inr}
use Rattle.std.specs.Prelude.{◌⊎◌, ◌==◌, ◌||◌, ◌&&◌, not}
use Rattle.std.specs.List.{AllByRecursion}
use Rattle.std.proofs.lemmas.Bool.{and_from, eqb-false, eqb-true, ne_eqb}
use Rattle.std.proofs.lemmas.Map.Views.{any-filter_same}
use Rattle.kd_types.specs.declared.creds.Creds.{Creds}
use Rattle.kd_types.specs.declared.creds.Kind.{Kind}
use Rattle.kd_model.specs.Words.{but_those, contains}
use Rattle.kd_model.proofs.Lists.{all_follow, all_of_filter, all_of_found}
use Rattle.kd_endpoint.specs.Labels.{Labels, after_add, after_remove, is_number}
use Rattle.kd_wire.specs.Commands.{opcode_in}
use Rattle.kd_wire.specs.Replies.{IsReplyTo}
use Rattle.kd_wire.specs.Opcodes.{opcode_number}
use Rattle.kd_wire.specs.declared.command.Command.{Command}
use Rattle.kd_wire.specs.declared.command.Command.TheVariants as cmd
use Rattle.kd_wire.specs.declared.reply.Reply.TheVariants as reply
use Rattle.kd_policy.specs.declared.owner.Owner.TheVariants as owner
use Rattle.kd_policy.specs.Policy.{put_refusal}
use Rattle.kd_commands.specs.declared.conn.Conn.{Conn}
use Rattle.kd_commands.specs.declared.who.Who.{Who}
use Rattle.kd_commands.specs.declared.who.WhoKind.{WhoKind}
use Rattle.kd_commands.specs.declared.who.WhoKind.TheVariants as who
use Rattle.kd_commands.specs.State.{Desk, conn_of, has_id, has_seat, seat_set, unblocked}
use Rattle.kd_commands.specs.Items.{entries_in}
use Rattle.kd_commands.specs.Policy.{policy_set}
use Rattle.kd_commands.specs.Endpoints.{label_in, next_endpoint, with_endpoint}
use Rattle.kd_commands.specs.Hello.{is_free, with_newcomer}
use Rattle.kd_commands.specs.Leaving.{byebye, close_conn, close_endpoint, on_endpoint, without_conns, without_endpoint}
use Rattle.kd_commands.specs.NameList.{name_list}
use Rattle.kd_commands.specs.Names.{with_claim, without_claim}
use Rattle.kd_commands.specs.Plans.{Plan, known}
use Rattle.kd_commands.specs.Seating.{IsElsewhere, IsNow, IsPlaced, is_live}
use Rattle.kd_commands.specs.Step.{from_conn, from_fresh, from_gone, from_keeper, from_old, plan}
use Rattle.kd_commands.specs.Tick.{tick}
use Rattle.kd_commands.proofs.Callers.{callers_move}
use Rattle.kd_commands.proofs.Finds.{none_pass, passes_none}
use Rattle.kd_commands.proofs.Members.{turned}
use Rattle.kd_commands.proofs.Moves.{Ends, Learns, Leaves, Moves, arrives, ends, learns, leaves, stays}
use Rattle.kd_commands.proofs.Moving.{moves}
use Rattle.kd_commands.proofs.Others.{others_stay}
use Rattle.kd_commands.proofs.Staying.{of_given, planned}
use Rattle.kd_settled.proofs.Settling.{of_unrefused}
use Rattle.kd_settled.specs.Callers.{CallersAreAtHome, IsApart, IsKept, KeepersAreNew, KeepersKeep, LeftSeatsAreFree, OldFreeTheirSeats, OthersStayAtHome, RepliesAnswer}
use Rattle.kd_settled.specs.Owners.{is_there}
use Rattle.kd_settled.specs.Room.{IsAtHome}
use Rattle.kd_settled.specs.Settled.{IsSettled}
use Rattle.kd_settled.proofs.Always.{at_home}
use Rattle.kd_settled.proofs.Cases.{Cases, of_command}
use Rattle.kd_settled.proofs.Coming.{made_new, made_there}
use Rattle.kd_settled.proofs.Endpoints.{gone_then, there_on, there_still}

-- ---- replies

abbrev Answers : Command → Plan → Type 0
Answers x p = IsReplyTo (opcode_number (opcode_in x)) p.reply

answered : (d : Desk) (m : WhoKind) → Cases d m Answers
unfolding byebye close_conn close_endpoint name_list tick
answered d m = record {
  enters = λ new. refl;
  closes = refl;
  comes = λ creds flags size send_mask receive_mask is none. refl;
  makes = λ creds is none. refl;
  says_byebye = λ c live. refl;
  says_close = λ c live. refl;
  lists = λ c flags. refl;
  ticks = λ c moment. refl;
  sends = λ c flags priority dst source payload_type cookie last is live none. refl;
  acquires = λ c flags n v live is. refl;
  releases = λ c n. refl;
  adds_rule = λ c replace cookie is. refl;
  removes_rule = λ c cookie. refl;
  seals = λ c bytes n. refl;
  unseals = λ c number. refl;
  sets = λ c is. refl;
  keeps = λ e is its. refl;
  ends = λ e its. refl;
  learns_byebye = λ seat. refl;
  learns_close = λ seat. refl;
}

pub replies_answer : RepliesAnswer
replies_answer d w x p e = of_command d w Answers (answered d w.member) x p e

-- ---- endpoints

-- none changes, one is made by whoever keeps it then, or its keeper removes it
abbrev EndpointsMove : Desk → WhoKind → Plan → Type 0
EndpointsMove d m p =
    ((p.next.endpoints ≡ d.endpoints) × ((e : ℕ) → p.becomes ≡ who.Keeper e → m ≡ who.Keeper e))
    ⊎ (((label : List ℕ) × (p.next.endpoints ≡ after_add d.endpoints label) × ((e : ℕ) → p.becomes ≡ who.Keeper e → is_there p.next.endpoints e ≡ true))
    ⊎ ((e : ℕ) × (m ≡ who.Keeper e) × (p.next.endpoints ≡ after_remove d.endpoints e) × (p.becomes ≡ who.Fresh)))

endpoints_move : (d : Desk) (m : WhoKind) → IsSettled d → Cases d m (λ x p. EndpointsMove d m p)
unfolding byebye close_conn close_endpoint name_list tick with_endpoint with_newcomer without_conns without_endpoint with_claim without_claim
endpoints_move d m s = record {
  enters = λ new. inl (refl, λ e h. absurd cc);
  closes = inl (refl, λ e h. absurd cc);
  comes = λ creds flags size send_mask receive_mask is none. inl (refl, λ e h. absurd cc);
  makes = λ creds is none. inr (inl (label_in is, refl, λ e h. let same : next_endpoint d ≡ e = cc in rw (sym same) (made_there d creds is s.reached.places none)));
  says_byebye = λ c live. inl (refl, λ e h. absurd cc);
  says_close = λ c live. inl (refl, λ e h. absurd cc);
  lists = λ c flags. inl (refl, λ e h. absurd cc);
  ticks = λ c moment. inl (refl, λ e h. absurd cc);
  sends = λ c flags priority dst source payload_type cookie last is live none. inl (refl, λ e h. absurd cc);
  acquires = λ c flags n v live is. inl (refl, λ e h. absurd cc);
  releases = λ c n. inl (refl, λ e h. absurd cc);
  adds_rule = λ c replace cookie is. inl (refl, λ e h. absurd cc);
  removes_rule = λ c cookie. inl (refl, λ e h. absurd cc);
  seals = λ c bytes n. inl (refl, λ e h. absurd cc);
  unseals = λ c number. inl (refl, λ e h. absurd cc);
  sets = λ c is. inl (refl, λ e h. absurd cc);
  keeps = λ n is its. inl (refl, λ e h. its ∙ h);
  ends = λ e its. inr (inr (e, its, refl, refl));
  learns_byebye = λ seat. inl (refl, λ e h. absurd cc);
  learns_close = λ seat. inl (refl, λ e h. absurd cc);
}

-- ---- others

endpoint_on : (d : Desk) (m : WhoKind) (p : Plan) (e : ℕ) → EndpointsMove d m p → is_there d.endpoints e ≡ true → m ≢ who.Keeper e → is_there p.next.endpoints e ≡ true
endpoint_on d m p e (inl moved) there other = ap (λ labels. is_there labels e) moved.0 ∙ there
endpoint_on d m p e (inr (inl moved)) there other = ap (λ labels. is_there labels e) moved.1 ∙ there_on d.endpoints moved.0 e there
endpoint_on d m p e (inr (inr moved)) there other =
    ap (λ labels. is_there labels e) moved.2 ∙ there_still d.endpoints moved.0 e (ne_eqb e moved.0 (λ same. other (moved.1 ∙ ap who.Keeper (sym same)))) there

pub others_stay_at_home : OthersStayAtHome
others_stay_at_home d k w x p s home e l m theirs apart = go m theirs apart
  where
    go : (o : WhoKind) → IsAtHome d l o → IsApart w.member o → IsAtHome p.next l o
    go who.Fresh at other = tt
    go (who.Conn id seat) at other = others_stay d k w x p s.seated (at_home d k w.member home) e id seat l at other
    go (who.Keeper n) at other = endpoint_on d w.member p n (of_command d w (λ y q. EndpointsMove d w.member q) (endpoints_move d w.member s) x p e) at other
    go (who.Old o) at other = at

-- ---- the caller

keeper_there : (d : Desk) (k : Kind) (m : WhoKind) (p : Plan) (e : ℕ) → IsAtHome d k m → EndpointsMove d m p → p.becomes ≡ who.Keeper e → is_there p.next.endpoints e ≡ true
keeper_there d k m p e home (inl moved) is =
    let theirs : is_there d.endpoints e ≡ true = rw (moved.1 e is) at home in
    ap (λ labels. is_there labels e) moved.0 ∙ theirs
keeper_there d k m p e home (inr (inl moved)) is = moved.2 e is
keeper_there d k m p e home (inr (inr moved)) is = absurd (let never : who.Fresh ≡ who.Keeper e = sym moved.3 ∙ is in cc)

pub callers_are_at_home : CallersAreAtHome
callers_are_at_home d k w x p s home e = go p.becomes refl (callers_move d k w x p s.seated (at_home d k w.member home) e)
  where
    go : (o : WhoKind) → p.becomes ≡ o → IsNow d p.next k w.member o → (l : Kind) × IsAtHome p.next l o
    go who.Fresh is now = (k, tt)
    go (who.Conn id seat) is (inl stayed) = (k, stayed.1)
    go (who.Conn id seat) is (inr came) = (came.2.0.kind, came.2.2)
    go (who.Keeper n) is now = (k, keeper_there d k w.member p n home (of_command d w (λ y q. EndpointsMove d w.member q) (endpoints_move d w.member s) x p e) is)
    go (who.Old o) is now = absurd now

-- ---- a keeper

kept : (d : Desk) (e : ℕ) (x : Command) (p : Plan) → is_there d.endpoints e ≡ true → from_keeper d e x ≡ planned p → IsKept p.next e p.becomes
unfolding policy_set close_endpoint without_endpoint without_conns
kept d e (cmd.PolicySet is) p there h = of_unrefused (λ (q : Plan). IsKept q.next e q.becomes) (put_refusal (owner.Endpoint e) (entries_in is)) _ p h (λ none. inl (refl, there))
kept d e cmd.Close p there h = of_given (λ (q : Plan). IsKept q.next e q.becomes) (close_endpoint d e) p h (inr (refl, gone_then d.endpoints e there))
kept d e x p there h = absurd cc

pub keepers_keep : KeepersKeep
unfolding plan
keepers_keep d k w x p s home e n is = go w.member is home e
  where
    go : (m : WhoKind) → m ≡ who.Keeper n → IsAtHome d k m
        → (elim m [
          | who.Fresh ↦ from_fresh d w.creds x
          | who.Conn id s ↦ elim (conn_of d id) [ Some c ↦ from_conn d c x | None ↦ from_gone d s x ]
          | who.Keeper o ↦ from_keeper d o x
          | who.Old s ↦ from_old d s x
        ]) ≡ planned p
        → IsKept p.next n p.becomes
    go who.Fresh same at h = absurd cc
    go (who.Conn id seat) same at h = absurd cc
    go (who.Keeper o) same at h = let one : o ≡ n = cc in rw one at (kept d o x p at h)
    go (who.Old o) same at h = absurd cc

-- ---- a new keeper

abbrev IsNew : Desk → WhoKind → Plan → Type 0
IsNew d m p = (e : ℕ) → p.becomes ≡ who.Keeper e → (m ≡ who.Keeper e) ⊎ (is_there d.endpoints e ≡ false)

new_keepers : (d : Desk) (m : WhoKind) → Cases d m (λ x p. IsNew d m p)
unfolding byebye close_conn close_endpoint name_list tick
new_keepers d m = record {
  enters = λ new e h. absurd cc;
  closes = λ e h. absurd cc;
  comes = λ creds flags size send_mask receive_mask is none e h. absurd cc;
  makes = λ creds is none e h. inr (let same : next_endpoint d ≡ e = cc in rw (sym same) (made_new d creds is none));
  says_byebye = λ c live e h. absurd cc;
  says_close = λ c live e h. absurd cc;
  lists = λ c flags e h. absurd cc;
  ticks = λ c moment e h. absurd cc;
  sends = λ c flags priority dst source payload_type cookie last is live none e h. absurd cc;
  acquires = λ c flags n v live is e h. absurd cc;
  releases = λ c n e h. absurd cc;
  adds_rule = λ c replace cookie is e h. absurd cc;
  removes_rule = λ c cookie e h. absurd cc;
  seals = λ c bytes n e h. absurd cc;
  unseals = λ c number e h. absurd cc;
  sets = λ c is e h. absurd cc;
  keeps = λ n is its e h. inl (its ∙ h);
  ends = λ n its e h. absurd cc;
  learns_byebye = λ seat e h. absurd cc;
  learns_close = λ seat e h. absurd cc;
}

pub keepers_are_new : KeepersAreNew
keepers_are_new d k w x p s home e = of_command d w (λ y q. IsNew d w.member q) (new_keepers d w.member) x p e

-- ---- seats

-- a seat that a connection left is none that waits
none_waits : (d : Desk) (m : WhoKind) (p : Plan) (id seat : ℕ) → IsSettled d → Moves d m p → m ≡ who.Conn id seat → p.becomes ≡ who.Fresh → contains seat p.next.blocked ≡ false
none_waits d m p id seat s (stays t) is fresh = absurd (stayed t.alike)
  where
    stayed : (p.becomes ≡ m) ⊎ ((e : ℕ) × (m ≡ who.Fresh) × (p.becomes ≡ who.Keeper e)) → ⊥
    stayed (inl same) = let never : who.Fresh ≡ who.Conn id seat = sym fresh ∙ same ∙ is in cc
    stayed (inr (e, was, now)) = let never : who.Fresh ≡ who.Conn id seat = sym was ∙ is in cc
none_waits d m p id seat s (arrives t) is fresh = absurd (let never : who.Fresh ≡ who.Conn t.one.id t.one.seat = sym fresh ∙ t.becomes in cc)
none_waits d m p id seat s (leaves t) is fresh =
    let same : who.Conn t.one.id t.one.seat ≡ who.Conn id seat = sym t.was ∙ is in
    let seats : t.one.seat ≡ seat = cc in
    ap (contains seat) t.blocked ∙ rw seats at (all_of_found (λ (c : Conn). contains c.seat d.blocked ≡ false) (has_id t.one.id) d.conns t.one s.seated.unblocked t.live)
none_waits d m p id seat s (ends t) is fresh = absurd (let never : who.Keeper t.endpoint ≡ who.Conn id seat = sym t.was ∙ is in cc)
none_waits d m p id seat s (learns t) is fresh =
    let same : who.Conn t.id t.seat ≡ who.Conn id seat = sym t.was ∙ is in
    let seats : t.seat ≡ seat = cc in
    ap (contains seat) (t.blocked ∙ ap (λ n. but_those (λ b. b == n) d.blocked) seats) ∙ passes_none (λ n. seat == n) (but_those (λ b. b == seat) d.blocked) (others seat d.blocked)
  where
    others : (n : ℕ) (ns : List ℕ) → AllByRecursion (λ b. (n == b) ≡ false) (but_those (λ b. b == n) ns)
    others n [] = tt
    others n (b ∷ bs) = go (b == n) refl (others n bs)
      where
        go : (t : Bool) → (b == n) ≡ t → AllByRecursion (λ c. (n == c) ≡ false) (but_those (λ c. c == n) bs)
            → AllByRecursion (λ c. (n == c) ≡ false) (cond (not t) (b ∷ but_those (λ c. c == n) bs) (but_those (λ c. c == n) bs))
        go true e ih = ih
        go false e ih = (turned n b ∙ e, ih)

pub left_seats_are_free : LeftSeatsAreFree
left_seats_are_free d k w x p s home e id seat is fresh =
    let known_one = at_home d k w.member home in
    let now : IsNow d p.next k w.member who.Fresh = rw fresh at (callers_move d k w x p s.seated known_one e) in
    let left : is_live p.next seat ≡ false = rw is at now in
    and_from (not (is_live p.next seat)) (not (contains seat p.next.blocked)) (ap not left)
    (ap not (none_waits d w.member p id seat s (moves d k w x p known_one e) is fresh))

-- ---- of a bus that was removed

pub old_free_their_seats : OldFreeTheirSeats
unfolding plan
old_free_their_seats d creds seat cmd.Byebye p e = of_given (λ (q : Plan). (q.parts ≡ []) × (q.next ≡ unblocked seat d) × (q.becomes ≡ who.Fresh)) (known reply.Byebye (unblocked seat d)) p e (refl, refl, refl)
old_free_their_seats d creds seat cmd.Close p e = of_given (λ (q : Plan). (q.parts ≡ []) × (q.next ≡ unblocked seat d) × (q.becomes ≡ who.Fresh)) (known reply.Close (unblocked seat d)) p e (refl, refl, refl)
old_free_their_seats d creds seat x p e = absurd cc
