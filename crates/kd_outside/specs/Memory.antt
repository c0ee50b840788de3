-- Bytes in memory: what a source, a sink and a link are made of, and what their calls make of them.
use Rattle.std.specs.Prelude.{ℕ, ◌+◌, ◌-◌, ◌++◌, Bool, true, ◌&&◌, not, List, [], ◌∷◌, min, length, take, drop, filter, nat_eq, nat_lt, if◌then◌else◌}
use Rattle.std.specs.List.{list_any}
use Rattle.std.specs.declared.option.Option.{Option}
use Rattle.std.specs.declared.option.Option.TheVariants.{Some}
use Rattle.kd_types.specs.declared.session_end.SessionEnd.{SessionEnd}
use Rattle.kd_model.specs.Words.{is_empty}
use Rattle.kd_outside.specs.Causes.{count_after}
use Rattle.kd_outside.specs.Told.{LinkState}

-- the calls of an object: the numbers of those that fail, counted from 1, how many were made, and
-- how many failed
pub record Calls : Type 0 where
  pub fails : List ℕ
  pub made : ℕ
  pub faults : ℕ

-- no call yet
abbrev pub no_calls : List ℕ → Calls
no_calls fails = record { fails = fails; made = 0; faults = 0 }

-- the next call is one of those that fail
abbrev pub fails_next : Calls → Bool
fails_next c = list_any (nat_eq (count_after c.made)) c.fails

-- after a call that didn't fail, and after one that did
abbrev pub with_call : Calls → Calls
with_call c = record c { made = count_after c.made }

abbrev pub with_fault : Calls → Calls
with_fault c = record c { made = count_after c.made; faults = count_after c.faults }

-- a source: its bytes, the places where a piece ends, how many bytes were read
pub record Tape : Type 0 where
  pub content : List ℕ
  pub cuts : List ℕ
  pub place : ℕ
  pub calls : Calls

-- a source of which nothing was read yet
abbrev pub new_tape : List ℕ → List ℕ → List ℕ → Tape
new_tape bytes cuts fails = record {
  content = bytes;
  cuts = cuts;
  place = 0;
  calls = no_calls fails;
}

-- the bytes that a source has left
abbrev pub unread_bytes : Tape → List ℕ
unread_bytes t = drop t.place t.content

-- the least of some numbers, where none is below the bound; else the bound
abbrev pub least_of : List ℕ → ℕ → ℕ
least_of [] bound = bound
least_of (n ∷ ns) bound = min n (least_of ns bound)

-- where a piece ends that begins here: at the least cut above the place, or at the end
abbrev pub piece_end : Tape → ℕ
piece_end t = least_of (filter (λ cut. nat_lt t.place cut) t.cuts) (length t.content)

-- how many bytes the next read takes, into so much room
abbrev pub piece_length : Tape → ℕ → ℕ
piece_length t room = min room (piece_end t - t.place)

-- a source after a read into so much room
abbrev pub after_read : ℕ → Tape → Tape
after_read room t =
    if fails_next t.calls
    then record t { calls = with_fault t.calls }
    else record t { place = t.place + piece_length t room; calls = with_call t.calls }

-- a sink: what it took, and how many bytes it has room for in all
pub record Shelf : Type 0 where
  pub held : List ℕ
  pub size : ℕ
  pub calls : Calls

-- a sink that took nothing yet
abbrev pub new_shelf : ℕ → List ℕ → Shelf
new_shelf size fails = record { held = []; size = size; calls = no_calls fails }

-- how many bytes a sink still takes
abbrev pub room_of : Shelf → ℕ
room_of s = s.size - length s.held

-- nothing of the piece fits
abbrev pub is_full_for : List ℕ → Shelf → Bool
is_full_for piece s = nat_eq (room_of s) 0 && not (is_empty piece)

-- the next write of this piece fails: by its number, or since nothing of it fits
abbrev pub refuses : List ℕ → Shelf → Bool
refuses piece s = if fails_next s.calls then true else is_full_for piece s

-- a sink after a write
abbrev pub after_write : List ℕ → Shelf → Shelf
after_write piece s =
    if refuses piece s
    then record s { calls = with_fault s.calls }
    else record s { held = s.held ++ take (room_of s) piece; calls = with_call s.calls }

-- a link: its source, its sink, and the end with which it came back
pub record Line : Type 0 where
  pub source : Tape
  pub sink : Shelf
  pub ended : Option SessionEnd

-- what is told of a link
abbrev pub line_state : Line → LinkState
line_state l = record {
  reading = record { bytes = Some (unread_bytes l.source); faults = l.source.calls.faults };
  writing = record { bytes = Some l.sink.held; faults = l.sink.calls.faults };
}
