-- What plans bring to pools, command by command.
use Rattle.std.proofs.Common.{◌≡◌, ◌==◌, ◌%◌, ◌∷◌, ℕ, Bool, true, false, List, [], ◌++◌, map, Option, Some, None, refl, sym, arith, rules, cond, length, length-append}
use Rattle.std.specs.Prelude.{◌&&◌, ◌||◌, IsTrue, is_none, max, nat_le, nat_lt, not}
use Rattle.std.specs.List.{list_any}
use Rattle.std.proofs.lemmas.Bool.{true≢false}
use Rattle.kd_item.proofs.Sizes.{spellings_even}
use Rattle.kd_image.proofs.Lengths.{length-image, length-padded, length-spelling, length-words, length_parts}
use Rattle.kd_image.specs.declared.attached.Attached.{Attached}
use Rattle.kd_image.specs.declared.message.Message.{Message}
use Rattle.kd_image.specs.declared.notice.Notice.{Notice}
use Rattle.kd_image.specs.Images.{any, front_length, image, laid, notice_image, padded}
use Rattle.kd_image.specs.Items.{contents, items, padded_length}
use Rattle.kd_model.proofs.Lists.{all_of_append}
use Rattle.kd_model.proofs.Truth.{left_false, not_false, right_false, right_true}
use Rattle.kd_model.specs.Words.{but_those, first_that_holds}
use Rattle.kd_types.specs.declared.flags.HelloFlags.{HelloFlags}
use Rattle.kd_types.specs.declared.refusal.Refusal.{Refusal}
use Rattle.kd_types.specs.declared.refusal.Refusal.TheVariants.{BadFlags, DoubledItem, MissingItem}
use Rattle.kd_wire.specs.declared.item.WireItem.{WireItem}
use Rattle.kd_wire.specs.declared.opcode.Opcode.TheVariants.{Hello}
use Rattle.kd_wire.specs.declared.command.Command.{Command}
use Rattle.kd_wire.specs.declared.command.Command.TheVariants as cmd
use Rattle.kd_wire.specs.Commands.{command_words, flags_of, items_of, opcode_in}
use Rattle.kd_wire.specs.Frames.{frame_length}
use Rattle.kd_wire.specs.Kinds.{has_holder_flag, kinds_of, needed_kinds, single_kinds}
use Rattle.kd_wire.specs.Reading.{stand}
use Rattle.kd_wire.specs.Refusals.{command_flaw, flaw_of, has_bad_word, has_double, has_empty_group, has_unknown_flag, is_bad_access, is_pool_of, is_pool_size, is_two_kinds, lacks_one}
use Rattle.kd_wire.specs.WellFormed.{is_well_formed}
use Rattle.kd_replies.specs.declared.request.Request.{Request}
use Rattle.kd_replies.specs.Requests.{due, is_due}
use Rattle.kd_sound.specs.Lengths.{IsLength}
use Rattle.kd_commands.specs.declared.conn.Conn.{Conn}
use Rattle.kd_commands.specs.declared.sent.Sent.{Sent}
use Rattle.kd_commands.specs.declared.who.Who.{Who}
use Rattle.kd_commands.specs.State.{Desk, monitors}
use Rattle.kd_commands.specs.Audience.{Subject, Telling, audience, owner_change, reply_timeout, telling}
use Rattle.kd_commands.specs.Hello.{Asked, arrival, first_owner, newcomer, with_newcomer}
use Rattle.kd_commands.specs.Items.{filter_among}
use Rattle.kd_commands.specs.Leaving.{byebye, close_conn, close_endpoint, closing, leaving_notices, on_endpoint, without_conns, without_endpoint}
use Rattle.kd_commands.specs.Messages.{attached, is_broadcast, message_of}
use Rattle.kd_commands.specs.Names.{activator_in, handover, with_claim, without_claim}
use Rattle.kd_commands.specs.NameList.{name_list}
use Rattle.kd_commands.specs.Plans.{Part, Plan, notices, posted, posted_to, posts}
use Rattle.kd_commands.specs.Send.{broadcast_receivers, offered_to, receiver, send_parts, unicast_parts}
use Rattle.kd_commands.specs.Tick.{tick}
use Rattle.kd_settled.proofs.Cases.{Cases, asked_by, of_command, sent_by}
use Rattle.kd_lengths.specs.Plans.{PartsHaveLengths, PlansHaveLengths}

-- ---- what a HELLO asks for

third_doesnt_hold : (a b c : Bool) (x y z : Refusal) → IsTrue (is_none (first_that_holds ((a, x) ∷ (b, y) ∷ (c, z) ∷ []))) → c ≡ false
third_doesnt_hold true b c x y z h = absurd (true≢false (sym h))
third_doesnt_hold false true c x y z h = absurd (true≢false (sym h))
third_doesnt_hold false false true x y z h = absurd (true≢false (sym h))
third_doesnt_hold false false false x y z h = refl

well_valued : (x : Command) → is_well_formed x ≡ true → has_unknown_flag (opcode_in x) (flags_of x) || has_bad_word (opcode_in x) (flags_of x) (command_words x) || list_any is_bad_access (items_of x) ≡ false
unfolding flaw_of
well_valued x h =
    let none : IsTrue (is_none (command_flaw x)) = right_true (nat_le (frame_length x) 131072 && stand (kinds_of (opcode_in x) (flags_of x)) [] (items_of x)) (is_none (command_flaw x)) h in
    third_doesnt_hold (has_double (single_kinds (opcode_in x) (flags_of x)) (items_of x)) (lacks_one (needed_kinds (opcode_in x) (flags_of x) (command_words x)) (items_of x) || has_empty_group (kinds_of (opcode_in x) (flags_of x)) (items_of x))
    (has_unknown_flag (opcode_in x) (flags_of x) || has_bad_word (opcode_in x) (flags_of x) (command_words x) || list_any is_bad_access (items_of x)) DoubledItem MissingItem BadFlags none

whole : (holds : Bool) (pool : ℕ) → cond holds (pool == 0) (is_pool_size pool) ≡ true → pool % 8 ≡ 0
whole true pool h = let none : pool ≡ 0 = search (rules, h) in omega (arith, none)
whole false pool h = search (rules, right_true (nat_le 256 pool && nat_le pool 1048576) (pool % 8 == 0) h)

hello_whole : (flags : HelloFlags) (pool send receive : ℕ) (is : List WireItem) → is_well_formed (cmd.Hello flags pool send receive is) ≡ true → pool % 8 ≡ 0
hello_whole flags pool send receive is form = whole (has_holder_flag flags.0) pool size
  where
    x : Command
    x = cmd.Hello flags pool send receive is

    two : Bool
    two = is_two_kinds flags.0

    unknown : Bool
    unknown = has_unknown_flag Hello flags.0

    words : has_bad_word Hello flags.0 (pool ∷ send ∷ receive ∷ []) ≡ false
    words =
        right_false unknown (has_bad_word Hello flags.0 (pool ∷ send ∷ receive ∷ []))
        (left_false (unknown || has_bad_word Hello flags.0 (pool ∷ send ∷ receive ∷ [])) (list_any is_bad_access is) (well_valued x form))

    size : is_pool_of flags.0 pool ≡ true
    size = not_false (is_pool_of flags.0 pool)
        (right_false two (not (is_pool_of flags.0 pool)) (left_false (two || not (is_pool_of flags.0 pool)) (nat_lt 15 send)
        (left_false (two || not (is_pool_of flags.0 pool) || nat_lt 15 send) (nat_lt 15 receive) words)))

-- ---- how long notices and images are

notice_fits : (n : Notice) (dst : ℕ) → IsLength (length (notice_image n dst))
unfolding notice_image
notice_fits n dst = (rw (length-append, length-words, length-spelling) (omega arith), rw (length-append, length-words, length-spelling) (omega arith))

padded_even : (n : ℕ) → padded_length n % 8 ≡ 0
padded_even n = omega arith

laid_even : (ps : List (List ℕ)) → length (laid ps) % 8 ≡ 0
laid_even [] = refl
laid_even (p ∷ ps) = omega (arith, length-append (padded p) (laid ps), length-padded p, padded_even (length p), laid_even ps)

image_fits : (m : Message) (source dst : ℕ) (a : Attached) → IsLength (length (image m source dst a))
unfolding front_length
image_fits m source dst a =
    let long = length-image m source dst a in
    (omega (arith, long, length_parts m a), omega (arith, long, length_parts m a, spellings_even (items 0 (contents m a)), laid_even m.payloads))

-- ---- the parts of plans

posted_fit : (t : Telling) (cs : List Conn) → PartsHaveLengths (map (posted t) cs)
posted_fit t [] = tt
posted_fit t (c ∷ cs) = (notice_fits t.notice t.dst, posted_fit t cs)

told_fit : (o : Option Telling) (cs : List Conn) → PartsHaveLengths (posted_to cs o)
told_fit None cs = tt
told_fit (Some t) cs = posted_fit t cs

notices_fit : (d : Desk) (ss : List Subject) → PartsHaveLengths (notices d ss)
notices_fit d [] = tt
notices_fit d (s ∷ ss) = all_of_append _ (posts d s) (notices d ss) (told_fit (telling s) (audience d s)) (notices_fit d ss)

offered_fit : (d : Desk) (s : Conn) (m : Sent) (dst : ℕ) (must : Bool) (rs : List Conn) → PartsHaveLengths (map (offered_to d s m dst must) rs)
offered_fit d s m dst must [] = tt
offered_fit d s m dst must (r ∷ rs) = (image_fits (message_of m) s.id dst (attached d s r), offered_fit d s m dst must rs)

unicast_fit : (d : Desk) (s : Conn) (m : Sent) (o : Option Conn) → PartsHaveLengths (unicast_parts d s m o)
unicast_fit d s m None = tt
unicast_fit d s m (Some r) = (image_fits (message_of m) s.id r.id (attached d s r), offered_fit d s m r.id false (monitors d))

send_fit : (d : Desk) (s : Conn) (m : Sent) → PartsHaveLengths (send_parts d s m)
unfolding send_parts
send_fit d s m =
    let shown : List Part = map (offered_to d s m any false) (broadcast_receivers d s (filter_among m.items)) in
    elim (is_broadcast m) as (λ b. PartsHaveLengths (elim b [ true ↦ shown | false ↦ unicast_parts d s m (receiver d m) ])) [
      | true ↦ offered_fit d s m any false (broadcast_receivers d s (filter_among m.items))
      | false ↦ unicast_fit d s m (receiver d m)
    ]

left_fit : (d : Desk) (force : Bool) (gone : List Conn) (after : Desk) → PartsHaveLengths (map (closing force) gone ++ notices after (leaving_notices d gone))
left_fit d force gone after = each gone
  where
    each : (cs : List Conn) → PartsHaveLengths (map (closing force) cs ++ notices after (leaving_notices d gone))
    each [] = notices_fit after (leaving_notices d gone)
    each (c ∷ cs) = (tt, each cs)

handed : (d : Desk) (c : Conn) (o : Option ℕ) (ps : List Part) → PartsHaveLengths ps → PartsHaveLengths (handover d c o ++ ps)
handed d c None ps a = a
handed d c (Some old) ps a = (tt, (tt, a))

abbrev Brings : Command → Plan → Type 0
Brings x p = is_well_formed x ≡ true → PartsHaveLengths p.parts

cases : (d : Desk) (w : Who) → Cases d w.member Brings
unfolding byebye close_conn close_endpoint name_list tick newcomer
cases d w = record {
  enters = λ new form. tt;
  closes = λ form. tt;
  comes = λ creds flags size send_mask receive_mask is none form.
      let a : Asked = asked_by flags size send_mask receive_mask is in
      let c : Conn = newcomer d creds a in
      (hello_whole flags size send_mask receive_mask is form, notices_fit (with_newcomer d c a) (arrival c ++ first_owner d c a));
  makes = λ creds is none form. tt;
  says_byebye = λ c live form. left_fit d false (c ∷ []) (without_conns d (c.id ∷ []));
  says_close = λ c live form. left_fit d true (c ∷ []) (without_conns d (c.id ∷ []));
  lists = λ c flags form. tt;
  ticks = λ c moment form.
      let now : ℕ = max d.moment moment in
      notices_fit (record d { moment = now; requests = but_those (is_due now) d.requests }) (map (λ (q : Request). reply_timeout q.asker q.cookie) (due now d.requests));
  sends = λ c flags priority dst source payload_type cookie last is live none form. send_fit d c (sent_by flags priority dst payload_type cookie last is);
  acquires = λ c flags n v live is form.
      let after : Desk = with_claim d c.id flags n v in
      let ss : List Subject = owner_change d.registry after.registry n in
      handed d c (activator_in v) (notices after ss) (notices_fit after ss);
  releases = λ c n form. let after : Desk = without_claim d c.id n in notices_fit after (owner_change d.registry after.registry n);
  adds_rule = λ c replace cookie is form. tt;
  removes_rule = λ c cookie form. tt;
  seals = λ c bytes n form. tt;
  unseals = λ c number form. tt;
  sets = λ c is form. tt;
  keeps = λ e is its form. tt;
  ends = λ e its form. left_fit d true (on_endpoint d e) (without_endpoint d e);
  learns_byebye = λ seat form. tt;
  learns_close = λ seat form. tt;
}

pub plans_have_lengths : PlansHaveLengths
plans_have_lengths d w x p form e = of_command d w Brings (cases d w) x p e form
