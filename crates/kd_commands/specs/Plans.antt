-- What a command comes to: a refusal, or a plan.
use Rattle.std.specs.Prelude.{ℕ, Bool, List, [], map, Option, Some, None, flat_map, Result, Ok, Err}
use Rattle.kd_types.specs.declared.refusal.Refusal.{Refusal}
use Rattle.kd_acts.specs.State.{Visit, post}
use Rattle.kd_commands.specs.declared.conn.Conn.{Conn}
use Rattle.kd_model.specs.Words.{first_that_holds}
use Rattle.kd_wire.specs.declared.reply.Reply.{Reply}
use Rattle.kd_image.specs.Images.{notice_image}
use Rattle.kd_commands.specs.declared.who.WhoKind.{WhoKind}
use Rattle.kd_commands.specs.declared.who.WhoKind.TheVariants as who
use Rattle.kd_commands.specs.State.{Desk}
use Rattle.kd_commands.specs.Audience.{Subject, audience, Telling, telling}

-- what is done to the pool of a seat
pub record Part : Type 0 where
  pub seat : ℕ
  pub act : Visit

-- of a command that the desk doesn't refuse: the visits, the reply, the desk after it, what its
-- caller is then
pub record Plan : Type 0 where
  pub parts : List Part
  pub reply : Reply
  pub next : Desk
  pub becomes : WhoKind

-- the first of the refusals that holds, else the plan
abbrev pub unless : List (Bool × Refusal) → Plan → Result Plan Refusal
unless tests p = elim (first_that_holds tests) [ Some r ↦ Err r | None ↦ Ok p ]

-- the refusal that a part of the desk has for it, else the plan
abbrev pub unless_refused : Option Refusal → Plan → Result Plan Refusal
unless_refused None p = Ok p
unless_refused (Some r) p = Err r

-- what a connection stays
abbrev pub itself : Conn → WhoKind
itself c = who.Conn c.id c.seat

-- ---- notices

-- a notice in the pool of one receiver
abbrev pub posted : Telling → Conn → Part
posted t c = record { seat = c.seat; act = post (notice_image t.notice t.dst) }

-- in the pools of all receivers
abbrev pub posted_to : List Conn → Option Telling → List Part
posted_to cs None = []
posted_to cs (Some t) = map (posted t) cs

-- one notice, to its audience by the desk after the command
abbrev pub posts : Desk → Subject → List Part
posts after s = posted_to (audience after s) (telling s)

-- notice by notice
abbrev pub notices : Desk → List Subject → List Part
notices after ss = flat_map (posts after) ss

-- ---- plans of one kind

-- a plan that visits nobody
abbrev pub quiet : Conn → Reply → Desk → Plan
quiet c r after = record { parts = []; reply = r; next = after; becomes = itself c }

-- a plan whose parts are notices
abbrev pub announced : Conn → Reply → Desk → List Subject → Plan
announced c r after ss = record {
  parts = notices after ss;
  reply = r;
  next = after;
  becomes = itself c;
}

-- a plan that visits nobody, of whoever is nothing on the bus or any more
abbrev pub known : Reply → Desk → Plan
known r after = record { parts = []; reply = r; next = after; becomes = who.Fresh }
