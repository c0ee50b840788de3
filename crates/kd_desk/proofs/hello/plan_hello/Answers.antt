-- The parts are those of the plan that is asked for.
use Rattle.std.proofs.Common.{◌≡◌, ◌<◌, ◌∙◌, sym, ap, subst, length, List, None, Some, arith}
use Rattle.std.specs.Prelude.{◌%◌}
use Rattle.std.specs.List.{AllByRecursion}
use Rattle.kd_model.specs.Words.{first_that_holds}
use Rattle.kd_wire.specs.declared.item.WireItem.{WireItem}
use Rattle.kd_commands.specs.declared.conn.Conn.{Conn}
use Rattle.kd_commands.specs.State.{Desk}
use Rattle.kd_commands.specs.Hello.{Asked, endpoint_of, hello, newcomer}
use Rattle.kd_commands.specs.Items.{endpoint_in}
use Rattle.kd_tables.specs.declared.change.Brought.{Brought}
use Rattle.kd_desk.specs.Arriving.{IsBrought, asked, refusals_of_newcomer}
use Rattle.kd_tables.specs.Drafts.{Fits, HasRoomFor}
use Rattle.kd_tables.specs.Room.{IsSeated}
use Rattle.kd_desk.proofs.Arrivals.{hello_contents, hello_nowhere, hello_planned, hello_refused, hello_visits, seated, size_asked, takes_brought}
use Rattle.kd_desk.proofs.Quiet.{not_refused, refused_by}
use Rattle.kd_desk.proofs.Refused.{refused_with}
use Rattle.kd_desk.proofs.hello.plan_hello.Goals as goal

pub returns-in_default : goal.returns-in_default
returns-in_default c =
    let d : Desk = c.args.desk.now in
    hello_nowhere d c.args.creds.now (asked c.args.wanted) (ap (λ (l : List WireItem). endpoint_of d (endpoint_in l)) (sym c.items.ensures) ∙ sym c.endpoint_of.ensures ∙ c.in_default.is)

pub returns-in_err-judge_newcomer : goal.returns-in_err-judge_newcomer
returns-in_err-judge_newcomer c =
    let d : Desk = c.args.desk.now in
    let a : Asked = asked c.args.wanted in
    let x : Conn = c.in_ok-conn.conn in
    let b : Brought = c.in_ok-brought.brought in
    let why = c.in_err-judge_newcomer.field-0.0 in
    let at : endpoint_of d (endpoint_in a.items) ≡ Some c.in-Some.endpoint = ap (λ (l : List WireItem). endpoint_of d (endpoint_in l)) (sym c.items.ensures) ∙ sym c.endpoint_of.ensures ∙ c.in-Some.is in
    let by : IsBrought x.kind a.items b = subst (λ (l : List WireItem). IsBrought x.kind l b) c.items-2.ensures c.in_ok-brought.ensures in
    refused_with d (hello d c.args.creds.now a) c.from_residual-in_err-judge_newcomer.result why c.from_residual-in_err-judge_newcomer.ensures.1
    (hello_refused d c.args.creds.now a x b c.in-Some.endpoint why c.in_ok-conn.ensures by at (refused_by (first_that_holds (refusals_of_newcomer d x b)) why c.in_err-judge_newcomer.ensures))

pub returns : goal.returns
unfolding Fits
returns c =
    let d : Desk = c.args.desk.now in
    let creds = c.args.creds.now in
    let a : Asked = asked c.args.wanted in
    let x : Conn = c.in_ok-conn.conn in
    let b : Brought = c.in_ok-brought.brought in
    let ps = c.in_ok-parts.parts.items in
    let at : endpoint_of d (endpoint_in a.items) ≡ Some c.in-Some.endpoint = ap (λ (l : List WireItem). endpoint_of d (endpoint_in l)) (sym c.items.ensures) ∙ sym c.endpoint_of.ensures ∙ c.in-Some.is in
    let by : IsBrought x.kind a.items b = subst (λ (l : List WireItem). IsBrought x.kind l b) c.items-2.ensures c.in_ok-brought.ensures in
    let is : x ≡ newcomer d creds a = c.in_ok-conn.ensures in
    let none : first_that_holds (refusals_of_newcomer d x b) ≡ None = not_refused (first_that_holds (refusals_of_newcomer d x b)) c.in_ok-judge_newcomer.ensures in
    let seats : AllByRecursion IsSeated d.conns = subst (λ (y : Desk). AllByRecursion IsSeated y.conns) c.desk.view_is c.desk.invariant.seats in
    let size : c.from.result ≡ d.rules.size = c.from.ensures ∙ c.desk.invariant.size ∙ ap (λ (y : Desk). y.rules.size) c.desk.view_is in
    let hashes : c.from-2.result ≡ d.hashes = c.from-2.ensures ∙ ap (λ (y : Desk). y.hashes) c.desk.view_is in
    let room : length d.conns < 64 = omega (arith, c.if-len-ge-SEATS.false, c.len.ensures, ap (λ (y : Desk). length y.conns) c.desk.view_is) in
    let tables : HasRoomFor d.registry d.policy x.id b = c.has_room_for.ensures c.if-not-has_room_for.false in
    let below : x.seat < 64 = seated d creds a x b is none in
    let eights : x.size % 8 ≡ 0 = rw (size_asked d creds a x is) c.requires.eights in (
      rw (size, hashes, c.itself-after.ensures) (hello_planned d creds a x b c.in-Some.endpoint ps c.new.result.items is by at none c.new.ensures.items c.in_ok-parts.ensures),
      (room, below, eights, omega (arith, c.requires.ids), takes_brought d x b none, tables),
      hello_visits d x b ps seats below eights c.in_ok-parts.ensures,
      hello_contents d x b ps c.new.result.items c.new.ensures.items seats below eights c.in_ok-parts.ensures,
    )
