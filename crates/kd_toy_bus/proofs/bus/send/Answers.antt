use Rattle.std.specs.Prelude.{None}
use Rattle.std.proofs.Common.{◌≡◌, ℕ, suc, ◌+◌, ◌≢◌, [], ◌∷◌, ◌++◌, sym, ap, subst, ◌∙◌, arith, slice_index}
use Rattle.kd_hands.specs.Views.{part}
use Rattle.kd_hands.specs.Locks.{Fact, hands_after}
use Rattle.kd_toy_bus.specs.declared.act.Act.TheVariants.{Send, Offer}
use Rattle.kd_toy_bus.specs.declared.locked.Locked.TheVariants as locked
use Rattle.kd_toy_bus.specs.Bus.{Tie, offer, stands, lends, out, keeper, slip_hand, empties, keeper_after, kept_from, pool_after, pool_of, offered, is_seated, sits, made_by_one}
use Rattle.kd_toy_bus.proofs.Chains.{desk_adds, pool_adds, seen_is, none_held, last_word, desk_put, opened_is, idle_again, own_is, seated_after}
use Rattle.kd_toy_bus.proofs.Puts.{pool_is, stands_as, knows, knows_still, kept_still, idle_leaves, offer_owes, send_leaves, one_part}
use Rattle.kd_toy_bus.proofs.bus.send.Goals as goal

pub put-requires-clause-stands : goal.put-requires-clause-stands
put-requires-clause-stands g c =
    let list = (part c.take.new.self.view 0).seen in
    knows_still list c.in-Desk.desk (c.take.new.self.view.name, c.of.result) (knows list c.in-Desk.desk c.in-Desk.ensures.took.value) (λ i. ap (λ a. keeper_after i c.take.new.self.view.name a (kept_from i None list)) c.of.ensures)

pub put-requires-clause-tie : goal.put-requires-clause-tie
put-requires-clause-tie g c = idle_leaves c.of.result c.take.new.self.view c.in-Desk.ensures.took.holds c.of.ensures (c.in-Desk.ensures.took.shut (c.requires.idle.holds 0))

pub returns-then-not-desk-seat-clause-seats : goal.returns-then-not-desk-seat-clause-seats
returns-then-not-desk-seat-clause-seats g c = λ i.
    let took = c.in-Desk.ensures.took in
    let put = c.put.ensures.passed in
    let own = ap (λ p. p.own) put.here ∙ ap (λ xs. xs ++ ((c.take.new.self.view.name, c.of.result) ∷ [])) took.own in
    seated_after i (part c.args.pass.now.view 0).own (part c.put.new.self.view 0).own (c.take.new.self.view.name, c.of.result) own ∙ ap (λ a. sits i a (is_seated i (part c.args.pass.now.view 0).own)) c.of.ensures

pub put-requires-2-clause-stands : goal.put-requires-2-clause-stands
put-requires-2-clause-stands g c =
    let eq : suc c.args.seat ≡ c.args.seat + 1 = omega arith in
    let l : ℕ = c.args.seat + 1 in
    let seen = (part c.take-2.new.self.view l).seen in
    let same = ap (λ p. p.seen) c.sweep-marks.ensures.swept.here in
    let now = (part c.sweep-marks.new.self.view l).seen in
    let pool = pool_is c.args.seat l eq seen c.in-Pool.pool c.in-Pool.ensures.took.value in
    stands_as c.args.seat l eq now _ _ (ap (λ a. pool_after a (pool_of now)) c.of-2.ensures ∙ (ap (offered c.has_slice-swept.result) (ap pool_of same ∙ pool) ∙ sym c.offered.ensures))

pub put-requires-2-clause-tie : goal.put-requires-2-clause-tie
put-requires-2-clause-tie g c =
    let eq : suc c.args.seat ≡ c.args.seat + 1 = omega arith in
    let l : ℕ = c.args.seat + 1 in
    let far : l ≢ 0 = λ z. omega arith in
    let marks = c.sweep-marks.result in
    let one = c.in-Desk.ensures.took in
    let two = c.in-Pool.ensures.took in
    let swept = c.sweep-marks.ensures.swept in
    let near : 0 ≢ l = λ z. omega arith in
    let desk = ap (λ p. p.holds) (swept.others 0 near ∙ two.others 0 near) ∙ one.holds in
    let pool = ap (λ p. p.holds) swept.here ∙ two.holds in
    offer_owes c.args.seat l eq c.of-2.result c.sweep-marks.new.self.view pool c.has_slice-swept.result desk c.of-2.ensures
    (last_word (part c.sweep-marks.new.self.view l) (part c.take-2.new.self.view l) (slice_index marks 0) (slice_index marks 1) (slice_index marks 2) (slice_index marks 3) swept.here two.swept ∙ sym c.has_slice-swept.ensures)

pub put-requires-3-clause-stands : goal.put-requires-3-clause-stands
put-requires-3-clause-stands g c =
    let l : ℕ = c.args.seat + 1 in
    let near : 0 ≢ l = λ z. omega arith in
    let list = (part c.take.new.self.view 0).seen in
    let same = ap (λ p. p.seen) (c.put-2.ensures.passed.others 0 near ∙ (c.sweep-marks.ensures.swept.others 0 near ∙ c.in-Pool.ensures.took.others 0 near)) in
    subst (λ xs. stands 0 (xs ++ ((c.put-2.new.self.view.name, c.of-3.result) ∷ [])) (locked.Desk c.in-Desk.desk)) (sym same)
    (knows_still list c.in-Desk.desk (c.put-2.new.self.view.name, c.of-3.result) (knows list c.in-Desk.desk c.in-Desk.ensures.took.value) (λ i. ap (λ a. keeper_after i c.put-2.new.self.view.name a (kept_from i None list)) c.of-3.ensures))

pub put-requires-3-clause-tie : goal.put-requires-3-clause-tie
put-requires-3-clause-tie g c =
    let eq : suc c.args.seat ≡ c.args.seat + 1 = omega arith in
    let l : ℕ = c.args.seat + 1 in
    let far : l ≢ 0 = λ z. omega arith in
    let one = c.in-Desk.ensures.took in
    let two = c.in-Pool.ensures.took in
    let swept = c.sweep-marks.ensures.swept in
    let put = c.put-2.ensures.passed in
    let v₅ = c.put-2.new.self.view in
    let opened = opened_is stands (Fact Tie lends out keeper) (hands_after slip_hand empties) l far (locked.Desk c.in-Desk.desk) (locked.Pool c.in-Pool.pool) c.of-2.result c.of-3.result c.sweep-marks.result c.args.pass.now.view c.take.new.self.view c.take-2.new.self.view c.sweep-marks.new.self.view v₅ v₅ one two swept put c.requires.idle.holds in
    let held = ap (λ p. p.holds) (desk_put stands (Fact Tie lends out keeper) (hands_after slip_hand empties) l far (locked.Desk c.in-Desk.desk) (locked.Pool c.in-Pool.pool) c.of-2.result c.of-3.result c.sweep-marks.result c.args.pass.now.view c.take.new.self.view c.take-2.new.self.view c.sweep-marks.new.self.view v₅ v₅ one two swept put c.requires.idle.holds) ∙ one.holds in
    send_leaves c.args.seat c.of-3.result v₅ held c.of-3.ensures (one_part c.args.seat l c.sweep-marks.new.self.view.name c.of-2.result offer v₅.opened eq (ap made_by_one c.of-2.ensures) opened)

pub returns-clause-idle : goal.returns-clause-idle
returns-clause-idle g c =
    let l : ℕ = c.args.seat + 1 in
    let far : l ≢ 0 = λ z. omega arith in
    record {
      same = c.put-3.ensures.gate ∙ (c.put-2.ensures.gate ∙ (c.sweep-marks.ensures.gate ∙ (c.in-Pool.ensures.gate ∙ (c.in-Desk.ensures.gate ∙ c.requires.idle.same))));
      four = c.requires.idle.four;
      held = none_held l c.args.pass.now.held c.take.new.self.held c.take-2.new.self.held c.sweep-marks.new.self.held c.put-2.new.self.held c.put-3.new.self.held c.requires.idle.held c.in-Desk.ensures.held c.in-Pool.ensures.held c.sweep-marks.ensures.held c.put-2.ensures.held c.put-3.ensures.held;
      holds = idle_again stands (Fact Tie lends out keeper) (hands_after slip_hand empties) l far (locked.Desk c.in-Desk.desk) (locked.Pool c.in-Pool.pool) c.of-2.result c.of-3.result c.sweep-marks.result c.args.pass.now.view c.take.new.self.view c.take-2.new.self.view c.sweep-marks.new.self.view c.put-2.new.self.view c.put-3.new.self.view c.in-Desk.ensures.took c.in-Pool.ensures.took c.sweep-marks.ensures.swept c.put-2.ensures.passed c.requires.idle.holds c.put-3.ensures.passed;
    }

pub returns-clause-seats : goal.returns-clause-seats
returns-clause-seats g c = λ i.
    let l : ℕ = c.args.seat + 1 in
    let far : l ≢ 0 = λ z. omega arith in
    let own = own_is stands (Fact Tie lends out keeper) (hands_after slip_hand empties) l far (locked.Desk c.in-Desk.desk) (locked.Pool c.in-Pool.pool) c.of-2.result c.of-3.result c.sweep-marks.result c.args.pass.now.view c.take.new.self.view c.take-2.new.self.view c.sweep-marks.new.self.view c.put-2.new.self.view c.put-3.new.self.view c.in-Desk.ensures.took c.in-Pool.ensures.took c.sweep-marks.ensures.swept c.put-2.ensures.passed c.requires.idle.holds c.put-3.ensures.passed in
    seated_after i (part c.args.pass.now.view 0).own (part c.put-3.new.self.view 0).own (c.put-2.new.self.view.name, c.of-3.result) own ∙ ap (λ a. sits i a (is_seated i (part c.args.pass.now.view 0).own)) c.of-3.ensures

pub returns-clause-sent : goal.returns-clause-sent
returns-clause-sent g c = λ _.
    let l : ℕ = c.args.seat + 1 in
    let far : l ≢ 0 = λ z. omega arith in
    desk_adds stands (Fact Tie lends out keeper) (hands_after slip_hand empties) l far (locked.Desk c.in-Desk.desk) (locked.Pool c.in-Pool.pool) c.of-2.result c.of-3.result c.sweep-marks.result c.args.pass.now.view c.take.new.self.view c.take-2.new.self.view c.sweep-marks.new.self.view c.put-2.new.self.view c.put-3.new.self.view c.in-Desk.ensures.took c.in-Pool.ensures.took c.sweep-marks.ensures.swept c.put-2.ensures.passed c.requires.idle.holds c.put-3.ensures.passed (Send c.args.seat) c.of-3.ensures

pub returns-clause-offered : goal.returns-clause-offered
returns-clause-offered g c = λ _.
    let l : ℕ = c.args.seat + 1 in
    let far : l ≢ 0 = λ z. omega arith in
    (c.has_slice-swept.result, pool_adds stands (Fact Tie lends out keeper) (hands_after slip_hand empties) l far (locked.Desk c.in-Desk.desk) (locked.Pool c.in-Pool.pool) c.of-2.result c.of-3.result c.sweep-marks.result c.args.pass.now.view c.take.new.self.view c.take-2.new.self.view c.sweep-marks.new.self.view c.put-2.new.self.view c.put-3.new.self.view c.in-Desk.ensures.took c.in-Pool.ensures.took c.sweep-marks.ensures.swept c.put-2.ensures.passed c.requires.idle.holds c.put-3.ensures.passed (Offer c.has_slice-swept.result) c.of-2.ensures)

pub returns-clause-told : goal.returns-clause-told
returns-clause-told g c =
    let l : ℕ = c.args.seat + 1 in
    let far : l ≢ 0 = λ z. omega arith in
    let list = (part c.take.new.self.view 0).seen in
    let name = c.put-2.new.self.view.name in
    sym c.if-not-desk-seat.false ∙ kept_still list c.in-Desk.desk c.args.seat (name, c.of-3.result) (part c.put-3.new.self.view 0).seen (knows list c.in-Desk.desk c.in-Desk.ensures.took.value) c.requires.seat
    (ap (λ a. keeper_after c.args.seat name a (kept_from c.args.seat None list)) c.of-3.ensures) (seen_is stands (Fact Tie lends out keeper) (hands_after slip_hand empties) l far (locked.Desk c.in-Desk.desk) (locked.Pool c.in-Pool.pool) c.of-2.result c.of-3.result c.sweep-marks.result c.args.pass.now.view c.take.new.self.view c.take-2.new.self.view c.sweep-marks.new.self.view c.put-2.new.self.view c.put-3.new.self.view c.in-Desk.ensures.took c.in-Pool.ensures.took c.sweep-marks.ensures.swept c.put-2.ensures.passed c.requires.idle.holds c.put-3.ensures.passed)

pub returns-then-not-desk-seat-clause-told : goal.returns-then-not-desk-seat-clause-told
returns-then-not-desk-seat-clause-told g c =
    let list = (part c.take.new.self.view 0).seen in
    let name = c.take.new.self.view.name in
    let still = kept_still list c.in-Desk.desk c.args.seat (name, c.of.result) (part c.put.new.self.view 0).seen (knows list c.in-Desk.desk c.in-Desk.ensures.took.value) c.requires.seat
    (ap (λ a. keeper_after c.args.seat name a (kept_from c.args.seat None list)) c.of.ensures) (ap (λ p. p.seen) c.put.ensures.passed.here) in
    sym c.if-not-desk-seat.true ∙ still
