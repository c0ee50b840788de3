-- A run over frames is a run of legal events.
use Rattle.std.proofs.Common.{◌≡◌, ℕ, zero, suc, ◌≤◌, inl, inr, true, false, List, [], ◌∷◌, ◌++◌, length, Option, Some, None, Result, Ok, Err, refl, sym, ap, subst, ◌∙◌, arith}
use Rattle.kd_types.specs.declared.refusal.Refusal.{Refusal}
use Rattle.kd_wire.specs.declared.command.Command.{Command}
use Rattle.kd_wire.specs.declared.command.Command.TheVariants as cmd
use Rattle.kd_wire.specs.declared.port.Port.TheVariants.{Replay}
use Rattle.kd_wire.specs.Ports.{takes_opcode}
use Rattle.kd_wire.specs.Commands.{opcode_in}
use Rattle.kd_wire.specs.WellFormed.{is_well_formed}
use Rattle.kd_model.proofs.Truth.{both_true, option_cases}
use Rattle.std.proofs.lemmas.List.{append_assoc}
use Rattle.kd_wire.proofs.Formed.{judged}
use Rattle.kd_commands.specs.Plans.{Plan}
use Rattle.kd_core.specs.declared.event.Answer.TheVariants as answer
use Rattle.kd_wire.specs.declared.reply.Reply.{Reply}
use Rattle.kd_world.specs.State.{World}
use Rattle.kd_world.specs.Answers.{Says, says, taken_answer}
use Rattle.kd_world.specs.Holding.{holds_desk}
use Rattle.kd_world.specs.Legal.{Event, take, visit, leave, publishes, receives, reads, frees, is_caller, is_for_desk, legal}
use Rattle.kd_world.specs.Step.{step}
use Rattle.kd_world.specs.Runs.{all_legal, world_after}
use Rattle.kd_world.specs.Whole.{Whole, left_and_published, next_publish, next_seat, part_count, pending_count, published, publishings, visits, visits_run, whole}
use Rattle.kd_replay.specs.Turns.{IsReady, Turn, mode_of, replay_world, replied, reply_of, slice_number, turn}
use Rattle.kd_replay.specs.Events.{IsRunBy, events_at_desk, events_held, events_of, publishes_of, replies_along, told_by, visits_of}
use Rattle.kd_replay.specs.Frames.{IsRead}
use Rattle.kd_replay.specs.Transcript.{Answered, AreRun, Ends, IsFrameRun, IsTurn}
use Rattle.kd_replay.proofs.Holding.{callers_stay, free_behind_leave, opens_ready, ready_behind_free, ready_behind_publish, ready_behind_read, ready_behind_receive}
use Rattle.kd_replay.proofs.Along.{runs_append}
use Rattle.kd_replay.proofs.Visits.{remaining, fuel_at_first, visited_one, leave_may}
use Rattle.kd_replay.proofs.Publishes.{publish_may}
use Rattle.kd_replay.proofs.Takes.{answer_of, holder_of, plan_of, taken, take_may, taken_events, turned_away}
use Rattle.kd_replay.proofs.Modes.{free_may, read_may, receive_may}

legal_append : (w : World) (es fs : List Event) → all_legal w es ≡ true → all_legal (world_after w es) fs ≡ true → all_legal w (es ++ fs) ≡ true
unfolding all_legal world_after
legal_append w [] fs a b = b
legal_append w (e ∷ es) fs a b =
    let h = both_true (legal w e) (all_legal (step w e) es) a in
    let more : all_legal (step w e) (es ++ fs) ≡ true = legal_append (step w e) es fs h.1 b in
    rw (h.0, more) refl

replies_append : (w : World) (es fs : List Event) → replies_along w (es ++ fs) ≡ replies_along w es ++ replies_along (world_after w es) fs
unfolding replies_along world_after
replies_append w [] fs = refl
replies_append w (e ∷ es) fs =
    ap (told_by e (says w e) ++◌) (replies_append (step w e) es fs) ∙ sym (append_assoc (told_by e (says w e)) (replies_along (step w e) es) (replies_along (world_after (step w e) es) fs))

here : (w : World) → IsRunBy w [] [] w
unfolding all_legal world_after replies_along
here w = record { legal = refl; ends = refl; replies = refl }

by_one : (w : World) (e : Event) → legal w e ≡ true → IsRunBy w (e ∷ []) (told_by e (says w e) ++ []) (step w e)
unfolding all_legal world_after replies_along
by_one w e h = record { legal = rw h refl; ends = refl; replies = refl }

join : (w mid end : World) (es fs : List Event) (rs more : List Reply) → IsRunBy w es rs mid → IsRunBy mid fs more end → IsRunBy w (es ++ fs) (rs ++ more) end
join w mid end es fs rs more a b = record {
  legal = legal_append w es fs a.legal (subst (λ (x : World). all_legal x fs ≡ true) a.ends b.legal);
  ends = b.ends ∙ ap (λ (x : World). world_after x fs) a.ends ∙ sym (runs_append w es fs);
  replies = ap (λ xs. xs ++ more) a.replies ∙ ap (replies_along w es ++◌) (b.replies ∙ ap (λ (x : World). replies_along x fs) a.ends) ∙ sym (replies_append w es fs);
}

-- a world that these events reach, in which nobody holds the desk
record IsGood (w : World) (es : List Event) (rs : List Reply) (end : World) : Type 0 where
  path : IsRunBy w es rs end
  ready : IsReady end

-- behind all visits
record IsSeen (w : World) (es : List Event) (end : World) (n : ℕ) : Type 0 where
  path : IsRunBy w es [] end
  none : next_seat end ≡ None
  holds : holds_desk end n ≡ true
  callers : length end.callers ≡ length w.callers

seen : (k n : ℕ) (w : World) → is_caller n ≡ true → holds_desk w n ≡ true → remaining w ≤ k → IsSeen w (visits_of k n w) (visits k n w) n
unfolding visits visits_of
seen zero n w c h enough =
    elim (option_cases (next_seat w)) [
      | inl e ↦ record { path = here w; none = e; holds = h; callers = refl }
      | inr some ↦ absurd (let bad : ⊥ = omega (arith, (visited_one w n some.0 some.1 h).fewer, enough) in bad)
    ]
seen (suc k) n w c h enough =
    elim (option_cases (next_seat w)) [
      | inl e ↦
          let opened : visits (suc k) n w ≡ w = ap (λ (o : Option ℕ). elim o [ None ↦ w | Some t ↦ visits k n (step w (visit n t)) ]) e in
          let none : visits_of (suc k) n w ≡ [] = ap (λ (o : Option ℕ). elim o [ None ↦ [] | Some t ↦ visit n t ∷ visits_of k n (step w (visit n t)) ]) e in
          subst (λ (x : World). IsSeen w (visits_of (suc k) n w) x n) (sym opened) (subst (λ es. IsSeen w es w n) (sym none) (record { path = here w; none = e; holds = h; callers = refl }))
      | inr some ↦
          let v = visited_one w n some.0 some.1 h in
          let e : Event = visit n some.0 in
          let mid : World = step w e in
          let rest = seen k n mid c v.holds (omega (arith, v.fewer, enough)) in
          let opened : visits (suc k) n w ≡ visits k n mid = ap (λ (o : Option ℕ). elim o [ None ↦ w | Some t ↦ visits k n (step w (visit n t)) ]) some.1 in
          let events : visits_of (suc k) n w ≡ e ∷ visits_of k n mid = ap (λ (o : Option ℕ). elim o [ None ↦ [] | Some t ↦ visit n t ∷ visits_of k n (step w (visit n t)) ]) some.1 in
          let path : IsRunBy w (e ∷ visits_of k n mid) [] (visits k n mid) = join w mid (visits k n mid) (e ∷ []) (visits_of k n mid) [] [] (by_one w e (v.may c)) rest.path in
          subst (λ (x : World). IsSeen w (visits_of (suc k) n w) x n) (sym opened)
          (subst (λ es. IsSeen w es (visits k n mid) n) (sym events) (record { path = path; none = rest.none; holds = rest.holds; callers = rest.callers ∙ callers_stay w e }))
    ]

told : (m n : ℕ) (w : World) → is_caller n ≡ true → IsReady w → IsGood w (publishes_of m n w) [] (publishings m n w)
unfolding publishings publishes_of
told zero n w c r = record { path = here w; ready = r }
told (suc m) n w c r =
    elim (option_cases (next_publish w n)) [
      | inl e ↦
          let opened : publishings (suc m) n w ≡ w = ap (λ (o : Option (ℕ × ℕ)). elim o [ None ↦ w | Some p ↦ publishings m n (step w (publishes n p.0 p.1)) ]) e in
          let none : publishes_of (suc m) n w ≡ [] = ap (λ (o : Option (ℕ × ℕ)). elim o [ None ↦ [] | Some p ↦ publishes n p.0 p.1 ∷ publishes_of m n (step w (publishes n p.0 p.1)) ]) e in
          subst (λ (x : World). IsGood w (publishes_of (suc m) n w) [] x) (sym opened) (subst (λ es. IsGood w es [] w) (sym none) (record { path = here w; ready = r }))
      | inr some ↦
          let e : Event = publishes n some.0.0 some.0.1 in
          let mid : World = step w e in
          let rest = told m n mid c (ready_behind_publish w n some.0.0 some.0.1 r) in
          let opened : publishings (suc m) n w ≡ publishings m n mid = ap (λ (o : Option (ℕ × ℕ)). elim o [ None ↦ w | Some p ↦ publishings m n (step w (publishes n p.0 p.1)) ]) some.1 in
          let events : publishes_of (suc m) n w ≡ e ∷ publishes_of m n mid = ap (λ (o : Option (ℕ × ℕ)). elim o [ None ↦ [] | Some p ↦ publishes n p.0 p.1 ∷ publishes_of m n (step w (publishes n p.0 p.1)) ]) some.1 in
          let path : IsRunBy w (e ∷ publishes_of m n mid) [] (publishings m n mid) = join w mid (publishings m n mid) (e ∷ []) (publishes_of m n mid) [] [] (by_one w e (publish_may w n some.0.0 some.0.1 c r some.1)) rest.path in
          subst (λ (x : World). IsGood w (publishes_of (suc m) n w) [] x) (sym opened) (subst (λ es. IsGood w es [] (publishings m n mid)) (sym events) (record { path = path; ready = rest.ready }))
    ]

-- behind a take that wasn't refused
behind : (w : World) (n : ℕ) → is_caller n ≡ true → holds_desk w n ≡ true → length w.callers ≡ 64
    → IsGood w (events_held w n) (reply_of (left_and_published (visits_run w n) n).answer ∷ []) (left_and_published (visits_run w n) n).next
behind w n c h len =
    let v = seen (part_count w) n w c h (fuel_at_first w w.holder refl) in
    let mid : World = visits_run w n in
    let gone : World = step mid (leave n) in
    let p = told (pending_count gone n) n gone c (free_behind_leave mid n (v.callers ∙ len)) in
    record {
      path =
          join w mid (published gone n) (visits_of (part_count w) n w) (leave n ∷ publishes_of (pending_count gone n) n gone) [] (reply_of (says mid (leave n)) ∷ []) v.path
          (join mid gone (published gone n) (leave n ∷ []) (publishes_of (pending_count gone n) n gone) (reply_of (says mid (leave n)) ∷ []) [] (by_one mid (leave n) (leave_may mid n v.none v.holds c)) p.path);
      ready = p.ready;
    }

-- what a take needs
record MayTake (w : World) (n : ℕ) (x : Command) : Type 0 where
  caller : is_caller n ≡ true
  ready : IsReady w
  desk : is_for_desk x ≡ true
  form : is_well_formed x ≡ true

told_taking : (w : World) (n : ℕ) (x : Command) (r : Result Plan Refusal) → r ≡ plan_of w n x → says w (take n x) ≡ taken_answer r
unfolding says
told_taking w n x r is = ap taken_answer (sym is)

desk_by : (w : World) (n : ℕ) (x : Command) (r : Result Plan Refusal) → r ≡ plan_of w n x → MayTake w n x → IsGood w (events_at_desk w n x) (reply_of (whole w n x).answer ∷ []) (whole w n x).next
desk_by w n x (Err why) is m =
    let away = turned_away w n x why m.ready (answer_of w n x (Err why) is) in
    let one : IsRunBy w (take n x ∷ []) (told_by (take n x) (says w (take n x)) ++ []) (step w (take n x)) = by_one w (take n x) (take_may w n x m.caller m.ready m.desk m.form) in
    let reply : told_by (take n x) (says w (take n x)) ++ [] ≡ reply_of (whole w n x).answer ∷ [] =
    ap (λ (a : Says). told_by (take n x) a ++ []) (told_taking w n x (Err why) is) ∙ ap (λ (r : Reply). r ∷ []) (sym away.reply) in
    let path = subst (λ rs. IsRunBy w (take n x ∷ []) rs (step w (take n x))) reply one in
    let events : events_at_desk w n x ≡ take n x ∷ [] = taken_events w n x None (holder_of w n x (Err why) is) in
    subst (λ (v : World). IsGood w (events_at_desk w n x) (reply_of (whole w n x).answer ∷ []) v) (sym away.next)
    (subst (λ es. IsGood w es (reply_of (whole w n x).answer ∷ []) (step w (take n x))) (sym events) (record { path = path; ready = away.ready }))
desk_by w n x (Ok p) is m =
    let inside = taken w n x (λ why e. let never : answer.Taken ≡ answer.Refused why = sym (answer_of w n x (Ok p) is) ∙ e in absurd cc) in
    let held : World = step w (take n x) in
    let end : Whole = left_and_published (visits_run held n) n in
    let g = behind held n m.caller inside.holds (callers_stay w (take n x) ∙ m.ready.callers) in
    let one : IsRunBy w (take n x ∷ []) (told_by (take n x) (says w (take n x)) ++ []) held = by_one w (take n x) (take_may w n x m.caller m.ready m.desk m.form) in
    let silent : told_by (take n x) (says w (take n x)) ++ [] ≡ [] = ap (λ (a : Says). told_by (take n x) a ++ []) (told_taking w n x (Ok p) is) in
    let path : IsRunBy w (take n x ∷ events_held held n) (reply_of end.answer ∷ []) end.next = join w held end.next (take n x ∷ []) (events_held held n) [] (reply_of end.answer ∷ []) (subst (λ rs. IsRunBy w (take n x ∷ []) rs held) silent one) g.path in
    let events : events_at_desk w n x ≡ take n x ∷ events_held held n = inside.events in
    subst (λ (t : Whole). IsGood w (events_at_desk w n x) (reply_of t.answer ∷ []) t.next) (sym inside.turn)
    (subst (λ es. IsGood w es (reply_of end.answer ∷ []) end.next) (sym events) (record { path = path; ready = g.ready }))

at_the_desk : (w : World) (n : ℕ) (x : Command) → MayTake w n x → IsGood w (events_at_desk w n x) ((replied (whole w n x)).reply ∷ []) (replied (whole w n x)).next
at_the_desk w n x m = desk_by w n x (plan_of w n x) refl m

turn_good : (w : World) (n : ℕ) (x : Command) → is_caller n ≡ true → IsReady w → takes_opcode Replay (opcode_in x) ≡ true → is_well_formed x ≡ true → IsGood w (events_of w n x) ((turn w n x).reply ∷ []) (turn w n x).next
unfolding turn events_of
turn_good w n (cmd.Recv flags limit) c r run f = record { path = by_one w (receives n (mode_of flags limit)) (receive_may w n (cmd.Recv flags limit) flags limit limit c r f refl); ready = ready_behind_receive w n (mode_of flags limit) r }
turn_good w n (cmd.Read sealed number) c r run f = record { path = by_one w (reads n (slice_number number) sealed) (read_may w n (slice_number number) sealed c r); ready = ready_behind_read w n (slice_number number) sealed r }
turn_good w n (cmd.Free number) c r run f = record { path = by_one w (frees n (slice_number number)) (free_may w n (slice_number number) c r); ready = ready_behind_free w n (slice_number number) r }
turn_good w n (cmd.MakeBus size hashes bus) c r run f = let never : false ≡ true = run in absurd cc
turn_good w n (cmd.Hello flags pool send receive is) c r run f = at_the_desk w n _ (record { caller = c; ready = r; desk = refl; form = f })
turn_good w n (cmd.Send flags priority dst source payload_type cookie last is) c r run f = at_the_desk w n _ (record { caller = c; ready = r; desk = refl; form = f })
turn_good w n cmd.Byebye c r run f = at_the_desk w n _ (record { caller = c; ready = r; desk = refl; form = f })
turn_good w n cmd.Close c r run f = at_the_desk w n _ (record { caller = c; ready = r; desk = refl; form = f })
turn_good w n (cmd.NameAcquire flags name) c r run f = at_the_desk w n _ (record { caller = c; ready = r; desk = refl; form = f })
turn_good w n (cmd.NameRelease name) c r run f = at_the_desk w n _ (record { caller = c; ready = r; desk = refl; form = f })
turn_good w n (cmd.NameList flags) c r run f = at_the_desk w n _ (record { caller = c; ready = r; desk = refl; form = f })
turn_good w n (cmd.MatchAdd replace cookie is) c r run f = at_the_desk w n _ (record { caller = c; ready = r; desk = refl; form = f })
turn_good w n (cmd.MatchRemove cookie) c r run f = at_the_desk w n _ (record { caller = c; ready = r; desk = refl; form = f })
turn_good w n (cmd.PolicySet is) c r run f = at_the_desk w n _ (record { caller = c; ready = r; desk = refl; form = f })
turn_good w n (cmd.EndpointMake is) c r run f = at_the_desk w n _ (record { caller = c; ready = r; desk = refl; form = f })
turn_good w n (cmd.Tick moment) c r run f = at_the_desk w n _ (record { caller = c; ready = r; desk = refl; form = f })
turn_good w n (cmd.Seal bytes) c r run f = at_the_desk w n _ (record { caller = c; ready = r; desk = refl; form = f })
turn_good w n (cmd.Unseal number) c r run f = at_the_desk w n _ (record { caller = c; ready = r; desk = refl; form = f })
turn_good w n (cmd.Enter creds) c r run f = at_the_desk w n _ (record { caller = c; ready = r; desk = refl; form = f })

ends_of : (w : World) (es : List Event) (rs : List Reply) (end : World) → IsRunBy w es rs end → Ends w es end
ends_of w es rs end r = record { legal = r.legal; ends = r.ends }

-- the events of a frame end in the world behind it
pub frame_ends : (w : World) (frame : List ℕ) (es : List Event) (t : Turn) → IsFrameRun w frame es t → Ends w es t.next
frame_ends w frame es t (inl ((why, e, is), none)) =
    subst (λ (l : List Event). Ends w l t.next) (sym none) (subst (λ (u : Turn). Ends w [] u.next) (sym is) (ends_of w [] [] w (here w)))
frame_ends w frame es t (inr (caller, command, read, is, same, path)) = ends_of w es (t.reply ∷ []) t.next path

-- one frame
record HasRun (w : World) (frame : List ℕ) (t : Turn) : Type 0 where
  events : List Event
  run : IsFrameRun w frame events t
  path : Ends w events t.next
  ready : IsReady t.next

-- a frame that is no refused one is run by the events of its command
pub command_run : (w : World) (frame : List ℕ) (t : Turn) (caller : ℕ) (command : Command) → IsReady w → IsRead frame caller command → t ≡ turn w caller command → IsFrameRun w frame (events_of w caller command) t
command_run w frame t caller command r read is =
    let g = turn_good w caller command read.admitted r read.run (judged command read.form) in
    inr (caller, command, read, is, refl, subst (λ (u : Turn). IsRunBy w (events_of w caller command) (u.reply ∷ []) u.next) (sym is) g.path)

frame_good : (w : World) (frame : List ℕ) (t : Turn) → IsReady w → IsTurn w frame t → HasRun w frame t
frame_good w frame t r (inl (why, e, is)) =
    record { events = []; run = inl ((why, e, is), refl); path = subst (λ (u : Turn). Ends w [] u.next) (sym is) (ends_of w [] [] w (here w)); ready = subst (λ (u : Turn). IsReady u.next) (sym is) r }
frame_good w frame t r (inr (caller, command, read, is)) =
    let es : List Event = events_of w caller command in
    let g = turn_good w caller command read.admitted r read.run (judged command read.form) in
    let path : IsRunBy w es (t.reply ∷ []) t.next = subst (λ (u : Turn). IsRunBy w es (u.reply ∷ []) u.next) (sym is) g.path in
    record { events = es; run = command_run w frame t caller command r read is; path = ends_of w es (t.reply ∷ []) t.next path; ready = subst (λ (u : Turn). IsReady u.next) (sym is) g.ready }

pub ends_join : (w mid end : World) (es fs : List Event) → Ends w es mid → Ends mid fs end → Ends w (es ++ fs) end
ends_join w mid end es fs a b = record {
  legal = legal_append w es fs a.legal (subst (λ (x : World). all_legal x fs ≡ true) a.ends b.legal);
  ends = b.ends ∙ ap (λ (x : World). world_after x fs) a.ends ∙ sym (runs_append w es fs);
}

-- all frames
frames_good : (w : World) (fs : List (List ℕ)) (written : List ℕ) (end : World) → IsReady w → Answered w fs written end → AreRun w fs end
frames_good w [] written end r (none, is) = ([], (refl, is), subst (λ (v : World). Ends w [] v) (sym is) (ends_of w [] [] w (here w)))
frames_good w (f ∷ fs) written end r (t, more, turned, is, rest) =
    let g = frame_good w f t r turned in
    let m = frames_good t.next fs more end g.ready rest in
    (g.events ++ m.0, (t, g.events, m.0, g.run, refl, m.1), ends_join w t.next end g.events m.0 g.path m.2)

pub frames_reach : (fs : List (List ℕ)) (written : List ℕ) (end : World) → Answered replay_world fs written end → AreRun replay_world fs end
frames_reach fs written end h = frames_good replay_world fs written end opens_ready h
