-- What a slip says.
use Rattle.std.specs.Prelude.{ℕ, Bool, true, false, List, [], Result, Ok, Err, Vec, slice_index}
use Rattle.std.specs.Global.{Global}
use Rattle.kd_types.specs.declared.refusal.Refusal.{Refusal}
use Rattle.kd_types.specs.declared.refusal.Refusal.TheVariants.{OutOfMemory}
use Rattle.kd_wire.specs.declared.reply.Reply.TheVariants as reply
use Rattle.kd_acts.specs.State.{Answer, by_desk, bytes_of, publish, read, receive, refused}
use Rattle.kd_tables.specs.Drafts.{content_at}
use Rattle.kd_histories.specs.Pools.{marked_numbers}
use Rattle.kd_pool.specs.Told.{receive_answer}
use Rattle.kd_holds.specs.Handing.{answer_told, answers_told, visit_met}
use Rattle.kd_holds.specs.Publishing.{publish_answer}
use Rattle.kd_histories.specs.Turns.{Turn, did, left, started, idle}
use Rattle.kd_bus.specs.declared.slip.Note.{Note}
use Rattle.kd_bus.specs.declared.slip.Note.TheVariants as note

-- the four words that a sweep found
abbrev pub words_in : List ℕ → ℕ → ℕ
words_in marks q = slice_index marks q

-- what a read is answered
abbrev pub read_told : Result (Vec ℕ Global) Refusal → Answer
read_told (Ok bytes) = bytes_of bytes.items
read_told (Err why) = refused why

-- whether it wanted memory
abbrev pub is_memory : Refusal → Bool
is_memory OutOfMemory = true
is_memory _ = false

abbrev pub is_wanting : Result (Vec ℕ Global) Refusal → Bool
is_wanting (Ok bytes) = false
is_wanting (Err why) = is_memory why

-- its entry; a read that wanted memory did nothing
abbrev pub read_turn : ℕ → ℕ → Bool → Result (Vec ℕ Global) Refusal → Turn
read_turn g n sealed r =
    elim (is_wanting r) [
      | true ↦ idle
      | false ↦ did (record {
        generation = g;
        freed = [];
        act = read n sealed;
        answer = read_told r;
      })
    ]

-- what its turn did
unfoldable pub turn_told : Note → Turn
turn_told (note.Left l) =
    left (record {
      generation = l.generation.value;
      aim = l.aim.value;
      who = l.who.value;
      command = l.command.value;
      outs = answers_told l.plan.value.parts l.outs.value.items l.made.value.drained;
      reply = l.reply.value;
      becomes = l.becomes.value;
    })
turn_told (note.Refused l) =
    left (record {
      generation = l.generation.value;
      aim = l.aim.value;
      who = l.who.value;
      command = l.command.value;
      outs = [];
      reply = reply.Refused l.why.value;
      becomes = l.becomes.value;
    })
turn_told (note.Started b) =
    started (record {
      generation = b.generation.value;
      creator = b.creator.value;
      size = b.param.value.size;
      hashes = b.param.value.hashes;
    })
turn_told (note.Visited x) =
    did (record {
      generation = x.generation.value;
      freed = marked_numbers (words_in x.marks.value);
      act =
          by_desk
          (visit_met (content_at x.index.value x.plan.value.contents) x.part.value
          x.made.value.drained);
      answer = answer_told x.part.value x.out.value x.made.value.drained;
    })
turn_told (note.Published p) =
    did (record {
      generation = p.generation.value;
      freed = [];
      act = publish p.pending.value.generation p.pending.value.number p.pending.value.content;
      answer = publish_answer p.published.value;
    })
turn_told (note.Received r) =
    did (record {
      generation = r.generation.value;
      freed = [];
      act = receive r.mode.value;
      answer = receive_answer r.got.value;
    })
turn_told (note.Read r) =
    read_turn r.generation.value r.number.value r.sealed.value r.read.value
turn_told note.Idle = idle
