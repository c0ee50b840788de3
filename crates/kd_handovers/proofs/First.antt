-- Only an acquire over an activator hands messages over, and that comes first.
use Rattle.std.proofs.Common.{◌≡◌, ℕ, Bool, true, false, List, [], ◌∷◌, ◌++◌, map, Option, Some, None, refl, inl, inr}
use Rattle.std.specs.Prelude.{max}
use Rattle.kd_model.specs.Words.{but_those}
use Rattle.kd_replies.specs.declared.request.Request.{Request}
use Rattle.kd_replies.specs.Requests.{due, is_due}
use Rattle.kd_commands.specs.declared.conn.Conn.{Conn}
use Rattle.kd_commands.specs.declared.who.Who.{Who}
use Rattle.kd_commands.specs.State.{Desk}
use Rattle.kd_commands.specs.Audience.{Subject, owner_change, reply_timeout}
use Rattle.kd_commands.specs.Hello.{Asked, arrival, first_owner, newcomer, with_newcomer}
use Rattle.kd_commands.specs.Leaving.{byebye, close_conn, close_endpoint, closing, leaving_notices, on_endpoint, without_conns, without_endpoint}
use Rattle.kd_commands.specs.Names.{activator_in, handover, seat_of_id, with_claim, without_claim}
use Rattle.kd_commands.specs.NameList.{name_list}
use Rattle.kd_commands.specs.Plans.{Part, notices}
use Rattle.kd_commands.specs.Tick.{tick}
use Rattle.kd_settled.proofs.Cases.{Cases, asked_by, of_command, sent_by}
use Rattle.kd_handovers.specs.Handovers.{AreStill, HandoversComeFirst, HandsOver, is_still}
use Rattle.kd_handovers.proofs.Plain.{IsPlain, left_all, notices_all, send_all}

-- ---- parts that are still

still : IsPlain (λ v. is_still v ≡ true)
still = record { posts = λ image. refl; offers = λ user len source must content. refl; closes = λ force. refl }

notices_still : (d : Desk) (ss : List Subject) → AreStill (notices d ss)
notices_still d ss = notices_all (λ v. is_still v ≡ true) still d ss

left_still : (d : Desk) (force : Bool) (gone : List Conn) (after : Desk) → AreStill (map (closing force) gone ++ notices after (leaving_notices d gone))
left_still d force gone after = left_all (λ v. is_still v ≡ true) still d force gone after

-- ---- a handover

handed : (d : Desk) (c : Conn) (o : Option ℕ) (ps : List Part) → AreStill ps → HandsOver (handover d c o ++ ps)
handed d c None ps a = inr a
handed d c (Some old) ps a = inl (record { from = seat_of_id d old; to = c.seat; rest = ps; parts = refl; still = a })

-- ---- any plan

cases : (d : Desk) (w : Who) → Cases d w.member (λ x p. HandsOver p.parts)
unfolding byebye close_conn close_endpoint name_list tick
cases d w = record {
  enters = λ new. inr tt;
  closes = inr tt;
  comes = λ creds flags size send_mask receive_mask is none.
      let a : Asked = asked_by flags size send_mask receive_mask is in
      let c : Conn = newcomer d creds a in
      inr (refl, notices_still (with_newcomer d c a) (arrival c ++ first_owner d c a));
  makes = λ creds is none. inr tt;
  says_byebye = λ c live. inr (left_still d false (c ∷ []) (without_conns d (c.id ∷ [])));
  says_close = λ c live. inr (left_still d true (c ∷ []) (without_conns d (c.id ∷ [])));
  lists = λ c flags. inr tt;
  ticks = λ c moment.
      let now : ℕ = max d.moment moment in
      inr (notices_still (record d { moment = now; requests = but_those (is_due now) d.requests }) (map (λ (q : Request). reply_timeout q.asker q.cookie) (due now d.requests)));
  sends = λ c flags priority dst source payload_type cookie last is live none. inr (send_all (λ v. is_still v ≡ true) still d c (sent_by flags priority dst payload_type cookie last is));
  acquires = λ c flags n v live is.
      let after : Desk = with_claim d c.id flags n v in
      let ss : List Subject = owner_change d.registry after.registry n in
      handed d c (activator_in v) (notices after ss) (notices_still after ss);
  releases = λ c n. let after : Desk = without_claim d c.id n in inr (notices_still after (owner_change d.registry after.registry n));
  adds_rule = λ c replace cookie is. inr tt;
  removes_rule = λ c cookie. inr tt;
  seals = λ c bytes n. inr tt;
  unseals = λ c number. inr tt;
  sets = λ c is. inr tt;
  keeps = λ e is its. inr tt;
  ends = λ e its. inr (left_still d true (on_endpoint d e) (without_endpoint d e));
  learns_byebye = λ seat. inr tt;
  learns_close = λ seat. inr tt;
}

pub handovers_come_first : HandoversComeFirst
handovers_come_first d w x p e = of_command d w (λ x p. HandsOver p.parts) (cases d w) x p e
