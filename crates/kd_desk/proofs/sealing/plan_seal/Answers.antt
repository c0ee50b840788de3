use Rattle.std.proofs.Common.{◌≡◌, ◌≤◌, ◌^◌, ◌-◌, ◌&&◌, ◌||◌, ℕ, true, List, length, nat_lt, Ok, Err, ap, sym, ◌∙◌}
use Rattle.kd_seal.specs.Book.{has_counted, seal_answer}
use Rattle.kd_wire.specs.declared.reply.Reply.TheVariants as reply
use Rattle.kd_commands.specs.State.{Desk}
use Rattle.kd_commands.specs.Seals.{seal}
use Rattle.kd_tables.specs.declared.change.Change.TheVariants as change
use Rattle.kd_desk.proofs.Quiet.{quiet_planned}
use Rattle.kd_desk.proofs.Refused.{refused_with}
use Rattle.kd_desk.proofs.Seals.{seal_fits, seal_planned, seal_refused}
use Rattle.kd_desk.proofs.sealing.plan_seal.Goals as goal

pub returns-in_err-number : goal.returns-in_err-number
returns-in_err-number c =
    let d : Desk = c.args.desk.now in
    let x = c.args.conn.now in
    let bytes : List ℕ = c.args.payload in
    let why = c.in_err-number.field-0.0 in
    let answer : Err why ≡ seal_answer d.seals x.id (length bytes) = c.in_err-number.ensures.answer ∙ ap (λ (l : List ℕ). seal_answer c.desk.inside.seals x.id (length l)) c.bytes.ensures ∙ ap (λ (y : Desk). seal_answer y.seals x.id (length bytes)) c.desk.view_is in
    refused_with d (seal d x bytes) c.from_residual.result why c.from_residual.ensures.1 (seal_refused d x bytes why answer)

pub returns : goal.returns
returns c =
    let d : Desk = c.args.desk.now in
    let x = c.args.conn.now in
    let bytes : List ℕ = c.args.payload in
    let number : ℕ = c.in_ok-number.number in
    let answer : Ok number ≡ seal_answer d.seals x.id (length bytes) = c.in_ok-number.ensures.answer ∙ ap (λ (l : List ℕ). seal_answer c.desk.inside.seals x.id (length l)) c.bytes.ensures ∙ ap (λ (y : Desk). seal_answer y.seals x.id (length bytes)) c.desk.view_is in
    let low : number ≤ 2 ^ 63 - 1 = c.if-number-gt-LAST.false in
    let room : (nat_lt (length d.seals.seals) 1024 && (has_counted d.seals x.id || nat_lt (length d.seals.counters) 64)) ≡ true =
    sym (ap (λ (y : Desk). nat_lt (length y.seals.seals) 1024 && (has_counted y.seals x.id || nat_lt (length y.seals.counters) 64)) c.desk.view_is) ∙ sym c.has_room.ensures ∙ c.if-not-has_room.false in
    let whole : c.in_ok-sealed.sealed ≡ bytes = c.in_ok-sealed.ensures.whole ∙ c.into_vec.ensures in
    rw (c.quiet.ensures, c.itself.ensures, whole) (quiet_planned d x (reply.Seal number) (change.Seals x.id bytes) (seal d x bytes) (seal_fits d x.id bytes number answer low room) (seal_planned d x bytes number answer))
