use Rattle.std.proofs.Common.{[], ◌∷◌, refl, subst}
use Rattle.kd_wire.specs.declared.reply.Reply.TheVariants as replies
use Rattle.kd_client.specs.Exchanges.{Went, exchange, outcome}
use Rattle.kd_client.specs.Receptions.{free, unreceived, unread, unfreed, whole}
use Rattle.kd_client.proofs.Received.{given_err, given_ok, stopped_freeing, stopped_reading, went_unfreed, went_unread, went_whole}
use Rattle.kd_client.proofs.dialogue.Dialogue.next.Goals as goal

pub returns-in-Ok-Err-clause-ok : goal.returns-in-Ok-Err-clause-ok
returns-in-Ok-Err-clause-ok g c = (unreceived c.in-Ok-Err.refusal, tt, c.unreceived.ensures, (given_err c.in-Ok-Err.field-0 _ c.in-Ok-Err.refusal c.in-Ok-Err.field-0-is c.in-Ok-Err.ensures.refused))

pub returns-in-Ok-Err-read-clause-ok : goal.returns-in-Ok-Err-read-clause-ok
returns-in-Ok-Err-read-clause-ok g c =
    let s = given_ok c.in-Ok-Ok.field-0 _ c.in-Ok-Ok.number c.in-Ok-Ok.field-0-is c.in-Ok-Ok.ensures.ok in
    (unread s.0 c.in-Ok-Err-read.refusal, tt, refl, went_unread _ _ _ _ _ _ s.0 c.in-Ok-Ok.number c.in-Ok-Err-read.refusal s.1 s.2 (given_err c.in-Ok-Err-read.field-0 _ c.in-Ok-Err-read.refusal c.in-Ok-Err-read.field-0-is c.in-Ok-Err-read.ensures.refused))

pub returns-in-Err-read-clause-err : goal.returns-in-Err-read-clause-err
returns-in-Err-read-clause-err g c =
    let s = given_ok c.in-Ok-Ok.field-0 _ c.in-Ok-Ok.number c.in-Ok-Ok.field-0-is c.in-Ok-Ok.ensures.ok in
    stopped_reading _ _ _ _ _ s.0 c.in-Ok-Ok.number c.in-Err-read.error s.1 s.2 c.in-Err-read.ensures.err

pub returns-in-Ok-Ok-free-clause-ok : goal.returns-in-Ok-Ok-free-clause-ok
returns-in-Ok-Ok-free-clause-ok g c =
    let s = given_ok c.in-Ok-Ok.field-0 _ c.in-Ok-Ok.number c.in-Ok-Ok.field-0-is c.in-Ok-Ok.ensures.ok in
    let b = given_ok c.in-Ok-Ok-read.field-0 _ c.in-Ok-Ok-read.image c.in-Ok-Ok-read.field-0-is c.in-Ok-Ok-read.ensures.ok in
    (whole s.0 b.0 c.in-Ok-Ok-read.image, b.1, c.meaning.ensures, went_whole _ _ _ _ _ _ _ _ s.0 c.in-Ok-Ok.number b.0 c.in-Ok-Ok-read.image s.1 s.2 b.2 (subst (λ r. Went (g.L.Link.told c.read.new.self.link) (g.L.Link.told c.free.new.self.link) c.read.new.self.read c.free.new.self.read (exchange (free c.in-Ok-Ok.number) (outcome replies.Free r) ∷ [])) c.in-Ok-Ok-free.field-0-is c.in-Ok-Ok-free.ensures.ok))

pub returns-in-Ok-Err-free-clause-ok : goal.returns-in-Ok-Err-free-clause-ok
returns-in-Ok-Err-free-clause-ok g c =
    let s = given_ok c.in-Ok-Ok.field-0 _ c.in-Ok-Ok.number c.in-Ok-Ok.field-0-is c.in-Ok-Ok.ensures.ok in
    let b = given_ok c.in-Ok-Ok-read.field-0 _ c.in-Ok-Ok-read.image c.in-Ok-Ok-read.field-0-is c.in-Ok-Ok-read.ensures.ok in
    (unfreed s.0 b.0 c.in-Ok-Err-free.refusal, tt, refl, went_unfreed _ _ _ _ _ _ _ _ s.0 c.in-Ok-Ok.number b.0 c.in-Ok-Err-free.refusal s.1 s.2 b.2 (subst (λ r. Went (g.L.Link.told c.read.new.self.link) (g.L.Link.told c.free.new.self.link) c.read.new.self.read c.free.new.self.read (exchange (free c.in-Ok-Ok.number) (outcome replies.Free r) ∷ [])) c.in-Ok-Err-free.field-0-is c.in-Ok-Err-free.ensures.ok))

pub returns-in-Err-free-clause-err : goal.returns-in-Err-free-clause-err
returns-in-Err-free-clause-err g c =
    let s = given_ok c.in-Ok-Ok.field-0 _ c.in-Ok-Ok.number c.in-Ok-Ok.field-0-is c.in-Ok-Ok.ensures.ok in
    let b = given_ok c.in-Ok-Ok-read.field-0 _ c.in-Ok-Ok-read.image c.in-Ok-Ok-read.field-0-is c.in-Ok-Ok-read.ensures.ok in
    stopped_freeing _ _ _ _ _ _ _ s.0 c.in-Ok-Ok.number b.0 c.in-Err-free.error s.1 s.2 b.2 c.in-Err-free.ensures.err
