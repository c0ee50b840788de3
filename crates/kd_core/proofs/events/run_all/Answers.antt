use Rattle.std.proofs.Common.{rules, arith, ◌≡◌, ◌≤◌, ◌+◌, ◌^◌, ◌++◌, ◌∷◌, ◌∙◌, [], Err, length, length-append, append_assoc, map, refl, sym, ap}
use Rattle.std.proofs.lemmas.List.{length-map, map-append}
use Rattle.kd_world.specs.Answers.{says}
use Rattle.kd_core.specs.Running.{Running, event_of, said, stepped}
use Rattle.kd_core.specs.Along.{first_barred, ran, said_along}
use Rattle.kd_core.proofs.Alongs.{legal_more, ran_more, said_more, steps_along}
use Rattle.kd_core.proofs.Stopping.{HaveStopped, stopped_by, stopped_in}
use Rattle.kd_core.proofs.events.run_all.Goals as goal
use Rattle.kd_world.specs.Legal.{legal}

pub events-init : goal.events-init
unfolding first_barred ran said_along
events-init c = (refl, search rules, record { legal = refl; world = refl }, c.into_iter-event-iterator.ensures.into_iter_gives.0)

pub run_next-requires : goal.run_next-requires
run_next-requires c =
    let r : Running = c.args.world.now in
    let ys = c.events.yielded in
    let i = c.events.invariant in
    let rest = c.next.new.self.rest.items in
    let all : ys ++ c.in-Some.event ∷ rest ≡ c.args.events.items = ap (ys ++◌) (sym c.in-Some.ensures.steps.0) ∙ i.3 in
    let count : length ys + length (c.in-Some.event ∷ rest) ≡ length c.args.events.items = sym (length-append ys (c.in-Some.event ∷ rest)) ∙ ap length all in
    let steps : c.events.world.steps ≡ r.steps + length ys = ap (λ (s : Running). s.steps) i.2.world ∙ steps_along r (map event_of ys) ∙ ap (r.steps +◌) (length-map ys event_of) in
    let few : r.steps + length c.args.events.items ≤ 2 ^ 54 = c.requires.steps in
    record { steps = omega (arith, count, steps, few) }

pub returns-in_err-run_next-clause-legal : goal.returns-in_err-run_next-clause-legal
returns-in_err-run_next-clause-legal c =
    let r : Running = c.args.world.now in
    let ys = c.events.yielded in
    let i = c.events.invariant in
    let x = c.in-Some.event in
    let rest = c.next.new.self.rest.items in
    let e = c.in_err-run_next.field-0.0 in
    let w = c.in_err-run_next.ensures in
    let all : ys ++ x ∷ rest ≡ c.args.events.items = ap (ys ++◌) (sym c.in-Some.ensures.steps.0) ∙ i.3 in
    let told : HaveStopped r c.events.world (map event_of c.args.events.items) e =
    stopped_in event_of r c.events.world ys x rest c.args.events.items c.events.index e all i.2 i.0
    record { illegal = λ n same. w.illegal n (ap Err same); memory = λ n same. w.memory n (ap Err same) } in
    let by = stopped_by r c.events.world (map event_of c.args.events.items) e c.from_residual.result c.from_residual.ensures told in
    by.run.legal

pub returns-in_err-run_next-clause-run : goal.returns-in_err-run_next-clause-run
returns-in_err-run_next-clause-run c =
    let r : Running = c.args.world.now in
    let ys = c.events.yielded in
    let i = c.events.invariant in
    let x = c.in-Some.event in
    let rest = c.next.new.self.rest.items in
    let e = c.in_err-run_next.field-0.0 in
    let w = c.in_err-run_next.ensures in
    let all : ys ++ x ∷ rest ≡ c.args.events.items = ap (ys ++◌) (sym c.in-Some.ensures.steps.0) ∙ i.3 in
    let told : HaveStopped r c.events.world (map event_of c.args.events.items) e =
    stopped_in event_of r c.events.world ys x rest c.args.events.items c.events.index e all i.2 i.0
    record { illegal = λ n same. w.illegal n (ap Err same); memory = λ n same. w.memory n (ap Err same) } in
    let by = stopped_by r c.events.world (map event_of c.args.events.items) e c.from_residual.result c.from_residual.ensures told in
    w.err ∙ by.run.world

pub returns-in_err-run_next-clause-illegal : goal.returns-in_err-run_next-clause-illegal
returns-in_err-run_next-clause-illegal c =
    let r : Running = c.args.world.now in
    let ys = c.events.yielded in
    let i = c.events.invariant in
    let x = c.in-Some.event in
    let rest = c.next.new.self.rest.items in
    let e = c.in_err-run_next.field-0.0 in
    let w = c.in_err-run_next.ensures in
    let all : ys ++ x ∷ rest ≡ c.args.events.items = ap (ys ++◌) (sym c.in-Some.ensures.steps.0) ∙ i.3 in
    let told : HaveStopped r c.events.world (map event_of c.args.events.items) e =
    stopped_in event_of r c.events.world ys x rest c.args.events.items c.events.index e all i.2 i.0
    record { illegal = λ n same. w.illegal n (ap Err same); memory = λ n same. w.memory n (ap Err same) } in
    let by = stopped_by r c.events.world (map event_of c.args.events.items) e c.from_residual.result c.from_residual.ensures told in
    by.illegal

pub events-preserved : goal.events-preserved
events-preserved c =
    let r : Running = c.args.world.now in
    let ys = c.events.yielded in
    let i = c.events.invariant in
    let e = c.in-Some.event in
    let rest = c.next.new.self.rest.items in
    let o = c.in_ok-run_next.ensures in
    let one_more : map event_of (ys ++ e ∷ []) ≡ map event_of ys ++ event_of e ∷ [] = map-append event_of ys (e ∷ []) in
    let answer : said (event_of e) (says c.events.world.world (event_of e)) ≡ said (event_of e) (says (ran r (map event_of ys)).world (event_of e)) =
    ap (λ (s : Running). said (event_of e) (says s.world (event_of e))) i.2.world in (
      (let index : c.events.index ≡ length ys = i.0 in omega (arith, index, length-append ys (e ∷ []))),
      o.answer ∙ ap (λ xs. xs ++ said (event_of e) (says c.events.world.world (event_of e)) ∷ []) i.1 ∙ ap (λ a. said_along r.world (map event_of ys) ++ a ∷ []) answer
          ∙ sym (said_more r (map event_of ys) (event_of e)) ∙ ap (said_along r.world) (sym one_more),
      record {
        legal = ap (first_barred r.world) one_more ∙ legal_more r (map event_of ys) (event_of e) i.2.legal (ap (λ (s : Running). legal s.world (event_of e)) (sym i.2.world) ∙ o.may);
        world = o.ok ∙ ap (λ (s : Running). stepped s (event_of e)) i.2.world ∙ sym (ran_more r (map event_of ys) (event_of e)) ∙ ap (ran r) (sym one_more);
      },
      append_assoc ys (e ∷ []) rest ∙ ap (ys ++◌) (sym c.in-Some.ensures.steps.0) ∙ i.3,
    )
