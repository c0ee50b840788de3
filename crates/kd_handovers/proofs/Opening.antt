-- Only a HELLO opens a pool, of the size that its frame gives.
use Rattle.std.proofs.Common.{◌≡◌, ◌≤◌, ◌==◌, ◌%◌, ◌∷◌, ℕ, Bool, true, false, List, [], ◌++◌, map, Option, Some, None, refl, sym, arith, rules, cond}
use Rattle.std.specs.Prelude.{◌&&◌, ◌||◌, IsTrue, is_none, max, nat_le, nat_lt, not}
use Rattle.std.specs.List.{list_any}
use Rattle.std.proofs.lemmas.Bool.{true≢false}
use Rattle.kd_model.proofs.Truth.{left_false, left_true, not_false, right_false, right_true}
use Rattle.kd_model.specs.Words.{but_those, first_that_holds}
use Rattle.kd_types.specs.declared.flags.HelloFlags.{HelloFlags}
use Rattle.kd_types.specs.declared.refusal.Refusal.{Refusal}
use Rattle.kd_types.specs.declared.refusal.Refusal.TheVariants.{BadFlags, DoubledItem, MissingItem}
use Rattle.kd_wire.specs.declared.item.WireItem.{WireItem}
use Rattle.kd_wire.specs.declared.opcode.Opcode.TheVariants.{Hello}
use Rattle.kd_wire.specs.declared.command.Command.{Command}
use Rattle.kd_wire.specs.declared.command.Command.TheVariants as cmd
use Rattle.kd_wire.specs.Commands.{command_words, flags_of, items_of, opcode_in}
use Rattle.kd_wire.specs.Frames.{frame_length}
use Rattle.kd_wire.specs.Kinds.{has_holder_flag, kinds_of, needed_kinds, single_kinds}
use Rattle.kd_wire.specs.Reading.{stand}
use Rattle.kd_wire.specs.Refusals.{command_flaw, flaw_of, has_bad_word, has_double, has_empty_group, has_unknown_flag, is_bad_access, is_pool_of, is_pool_size, is_two_kinds, lacks_one}
use Rattle.kd_wire.specs.WellFormed.{is_well_formed}
use Rattle.kd_replies.specs.declared.request.Request.{Request}
use Rattle.kd_replies.specs.Requests.{due, is_due}
use Rattle.kd_commands.specs.declared.conn.Conn.{Conn}
use Rattle.kd_commands.specs.declared.who.Who.{Who}
use Rattle.kd_commands.specs.State.{Desk}
use Rattle.kd_commands.specs.Audience.{Subject, owner_change, reply_timeout}
use Rattle.kd_commands.specs.Hello.{Asked, arrival, first_owner, newcomer, with_newcomer}
use Rattle.kd_commands.specs.Leaving.{byebye, close_conn, close_endpoint, on_endpoint, without_conns, without_endpoint}
use Rattle.kd_commands.specs.Names.{activator_in, handover, with_claim, without_claim}
use Rattle.kd_commands.specs.NameList.{name_list}
use Rattle.kd_commands.specs.Plans.{Part, Plan, notices}
use Rattle.kd_commands.specs.Tick.{tick}
use Rattle.kd_settled.proofs.Cases.{Cases, asked_by, of_command, sent_by}
use Rattle.kd_handovers.specs.Openings.{AreSmall, IsSmall, PoolsAreSmall}
use Rattle.kd_handovers.proofs.Plain.{IsPlain, left_all, notices_all, send_all}

-- ---- what a HELLO asks for

third_doesnt_hold : (a b c : Bool) (x y z : Refusal) → IsTrue (is_none (first_that_holds ((a, x) ∷ (b, y) ∷ (c, z) ∷ []))) → c ≡ false
third_doesnt_hold true b c x y z h = absurd (true≢false (sym h))
third_doesnt_hold false true c x y z h = absurd (true≢false (sym h))
third_doesnt_hold false false true x y z h = absurd (true≢false (sym h))
third_doesnt_hold false false false x y z h = refl

well_valued : (x : Command) → is_well_formed x ≡ true → has_unknown_flag (opcode_in x) (flags_of x) || has_bad_word (opcode_in x) (flags_of x) (command_words x) || list_any is_bad_access (items_of x) ≡ false
unfolding flaw_of
well_valued x h =
    let none : IsTrue (is_none (command_flaw x)) = right_true (nat_le (frame_length x) 131072 && stand (kinds_of (opcode_in x) (flags_of x)) [] (items_of x)) (is_none (command_flaw x)) h in
    third_doesnt_hold (has_double (single_kinds (opcode_in x) (flags_of x)) (items_of x)) (lacks_one (needed_kinds (opcode_in x) (flags_of x) (command_words x)) (items_of x) || has_empty_group (kinds_of (opcode_in x) (flags_of x)) (items_of x))
    (has_unknown_flag (opcode_in x) (flags_of x) || has_bad_word (opcode_in x) (flags_of x) (command_words x) || list_any is_bad_access (items_of x)) DoubledItem MissingItem BadFlags none

well_worded : (x : Command) → is_well_formed x ≡ true → has_bad_word (opcode_in x) (flags_of x) (command_words x) ≡ false
well_worded x h =
    let unknown : Bool = has_unknown_flag (opcode_in x) (flags_of x) in
    let bad : Bool = has_bad_word (opcode_in x) (flags_of x) (command_words x) in
    right_false unknown bad (left_false (unknown || bad) (list_any is_bad_access (items_of x)) (well_valued x h))

small : (holds : Bool) (pool : ℕ) → cond holds (pool == 0) (is_pool_size pool) ≡ true → pool ≤ 1048576
small true pool h = let none : pool ≡ 0 = search (rules, h) in omega (arith, none)
small false pool h = search (rules, right_true (nat_le 256 pool) (nat_le pool 1048576) (left_true (nat_le 256 pool && nat_le pool 1048576) (pool % 8 == 0) h))

no_bad_word : (flags pool send receive : ℕ) → has_bad_word Hello flags (pool ∷ send ∷ receive ∷ []) ≡ false → pool ≤ 1048576
no_bad_word flags pool send receive h =
    let two : Bool = is_two_kinds flags in
    let size : is_pool_of flags pool ≡ true = not_false (is_pool_of flags pool)
    (right_false two (not (is_pool_of flags pool)) (left_false (two || not (is_pool_of flags pool)) (nat_lt 15 send)
    (left_false (two || not (is_pool_of flags pool) || nat_lt 15 send) (nat_lt 15 receive) h))) in
    small (has_holder_flag flags) pool size

hello_small : (flags : HelloFlags) (pool send receive : ℕ) (is : List WireItem) → is_well_formed (cmd.Hello flags pool send receive is) ≡ true → pool ≤ 1048576
hello_small flags pool send receive is form = no_bad_word flags.0 pool send receive (well_worded (cmd.Hello flags pool send receive is) form)

-- ---- any plan

plain : IsPlain IsSmall
plain = record { posts = λ image. tt; offers = λ user len source must content. tt; closes = λ force. tt }

notices_small : (d : Desk) (ss : List Subject) → AreSmall (notices d ss)
notices_small d ss = notices_all IsSmall plain d ss

handed : (d : Desk) (c : Conn) (o : Option ℕ) (ps : List Part) → AreSmall ps → AreSmall (handover d c o ++ ps)
handed d c None ps a = a
handed d c (Some old) ps a = (tt, (tt, a))

abbrev Opens : Command → Plan → Type 0
Opens x p = is_well_formed x ≡ true → AreSmall p.parts

cases : (d : Desk) (w : Who) → Cases d w.member Opens
unfolding byebye close_conn close_endpoint name_list tick newcomer
cases d w = record {
  enters = λ new form. tt;
  closes = λ form. tt;
  comes = λ creds flags size send_mask receive_mask is none form.
      let a : Asked = asked_by flags size send_mask receive_mask is in
      let c : Conn = newcomer d creds a in
      (hello_small flags size send_mask receive_mask is form, notices_small (with_newcomer d c a) (arrival c ++ first_owner d c a));
  makes = λ creds is none form. tt;
  says_byebye = λ c live form. left_all IsSmall plain d false (c ∷ []) (without_conns d (c.id ∷ []));
  says_close = λ c live form. left_all IsSmall plain d true (c ∷ []) (without_conns d (c.id ∷ []));
  lists = λ c flags form. tt;
  ticks = λ c moment form.
      let now : ℕ = max d.moment moment in
      notices_small (record d { moment = now; requests = but_those (is_due now) d.requests }) (map (λ (q : Request). reply_timeout q.asker q.cookie) (due now d.requests));
  sends = λ c flags priority dst source payload_type cookie last is live none form. send_all IsSmall plain d c (sent_by flags priority dst payload_type cookie last is);
  acquires = λ c flags n v live is form.
      let after : Desk = with_claim d c.id flags n v in
      let ss : List Subject = owner_change d.registry after.registry n in
      handed d c (activator_in v) (notices after ss) (notices_small after ss);
  releases = λ c n form. let after : Desk = without_claim d c.id n in notices_small after (owner_change d.registry after.registry n);
  adds_rule = λ c replace cookie is form. tt;
  removes_rule = λ c cookie form. tt;
  seals = λ c bytes n form. tt;
  unseals = λ c number form. tt;
  sets = λ c is form. tt;
  keeps = λ e is its form. tt;
  ends = λ e its form. left_all IsSmall plain d true (on_endpoint d e) (without_endpoint d e);
  learns_byebye = λ seat form. tt;
  learns_close = λ seat form. tt;
}

pub pools_are_small : PoolsAreSmall
pools_are_small d w x p form e = of_command d w Opens (cases d w) x p e form
