-- Clocks, listeners and binders in memory: what each is made of, and what its calls make of it.
use Rattle.std.specs.Prelude.{⊤, ℕ, ◌+◌, ◌≤◌, ◌&&◌, Bool, true, false, not, List, [], ◌∷◌, map, nat_lt, option_map, unwrap_or, if◌then◌else◌}
use Rattle.std.specs.declared.option.Option.TheVariants.{Some}
use Rattle.kd_types.specs.declared.session_end.SessionEnd.{SessionEnd}
use Rattle.kd_types.specs.declared.session_end.SessionEnd.TheVariants.{Ended}
use Rattle.kd_model.specs.Words.{is_empty}
use Rattle.kd_outside.specs.Told.{ClockState, ListenerState, BinderState, Served, Bound, next_moment, later_moments}
use Rattle.kd_outside.specs.Memory.{Calls, Line, no_calls, fails_next, with_call, with_fault, line_state}
use Rattle.kd_outside.specs.Racks.{Rack, full_rack, next_of, with_one_out, with_one_back}

-- no moment is below the one before it
abbrev pub AreRising : List ℕ → Type 0
AreRising [] = ⊤
AreRising (m ∷ []) = ⊤
AreRising (m ∷ n ∷ ms) = (m ≤ n) × AreRising (n ∷ ms)

-- a clock: the moments to come, the latest that it told, its calls, and whether it is a spare one,
-- which its binder gave where none was to come
pub record ClockParts : Type 0 where
  pub coming : List ℕ
  pub latest : ℕ
  pub calls : Calls
  pub spare : Bool

-- a clock that told nothing yet
abbrev pub new_clock : List ℕ → List ℕ → ClockParts
new_clock moments fails = record {
  coming = moments;
  latest = 0;
  calls = no_calls fails;
  spare = false;
}

-- a clock without moments, which never fails
abbrev pub spare_clock : ClockParts
spare_clock = record { coming = []; latest = 0; calls = no_calls []; spare = true }

-- a clock that its binder keeps when it comes back
abbrev pub own_clock : ClockParts → ClockParts
own_clock c = record c { spare = false }

-- what is told of a clock
abbrev pub clock_state : ClockParts → ClockState
clock_state c = record { coming = Some c.coming; latest = c.latest; faults = c.calls.faults }

-- a clock after it was asked
abbrev pub after_now : ClockParts → ClockParts
after_now c =
    if fails_next c.calls
    then record c { calls = with_fault c.calls }
    else record c {
      coming = later_moments c.coming;
      latest = next_moment c.coming;
      calls = with_call c.calls;
    }

-- a listener: its links, how many it gave and how many came back, its calls, the path of its bind
pub record ListenerParts : Type 0 where
  pub links : Rack Line
  pub gave : ℕ
  pub returned : ℕ
  pub calls : Calls
  pub path : List ℕ

-- a listener that gave nothing yet, on no path
abbrev pub new_listener : List Line → List ℕ → ListenerParts
new_listener links fails = record {
  links = full_rack links;
  gave = 0;
  returned = 0;
  calls = no_calls fails;
  path = [];
}

-- a link that came back, with its end
abbrev pub served : Line → Served
served l = record { link = line_state l; end = unwrap_or l.ended Ended }

-- what is told of a listener
abbrev pub listener_state : ListenerParts → ListenerState
listener_state n = record {
  coming = Some (map line_state n.links.coming);
  back = Some (map served n.links.back);
  gave = n.gave;
  returned = n.returned;
  faults = n.calls.faults;
}

-- the next accept fails: by its number, or since no link is to come
abbrev pub gives_no_link : ListenerParts → Bool
gives_no_link n = if fails_next n.calls then true else is_empty n.links.coming

-- a listener after an accept
abbrev pub after_accept : ListenerParts → ListenerParts
after_accept n =
    if gives_no_link n
    then record n { calls = with_fault n.calls }
    else record n {
      links = with_one_out n.links;
      gave = n.gave + 1;
      calls = with_call n.calls;
    }

-- a listener to which a link came back
abbrev pub with_line : Line → SessionEnd → ListenerParts → ListenerParts
with_line l end n = record n {
  links = with_one_back (record l { ended = Some end }) n.links;
  returned = n.returned + 1;
}

-- a listener that was bound on a path
abbrev pub on_path : List ℕ → ListenerParts → ListenerParts
on_path path n = record n { path = path }

-- a binder: its listeners, how many it gave and how many came back; its clocks; its calls
pub record BinderParts : Type 0 where
  pub listeners : Rack ListenerParts
  pub gave : ℕ
  pub returned : ℕ
  pub clocks : Rack ClockParts
  pub calls : Calls

-- a binder that gave nothing yet
abbrev pub new_binder : List ListenerParts → List ClockParts → List ℕ → BinderParts
new_binder listeners clocks fails = record {
  listeners = full_rack listeners;
  gave = 0;
  returned = 0;
  clocks = full_rack clocks;
  calls = no_calls fails;
}

-- a listener that came back, with its path
abbrev pub bound : ListenerParts → Bound
bound n = record { path = n.path; listener = listener_state n }

-- what is told of a binder
abbrev pub binder_state : BinderParts → BinderState
binder_state b = record {
  listeners = Some (map listener_state b.listeners.coming);
  listeners_back = Some (map bound b.listeners.back);
  gave = b.gave;
  returned = b.returned;
  clocks = Some (map clock_state b.clocks.coming);
  clocks_back = Some (map clock_state b.clocks.back);
  lent = b.clocks.out;
  faults = b.calls.faults;
}

-- the next bind fails: by its number, or since no listener is to come
abbrev pub gives_no_listener : BinderParts → Bool
gives_no_listener b = if fails_next b.calls then true else is_empty b.listeners.coming

-- a binder after a bind
abbrev pub after_bind : BinderParts → BinderParts
after_bind b =
    if gives_no_listener b
    then record b { calls = with_fault b.calls }
    else record b {
      listeners = with_one_out b.listeners;
      gave = b.gave + 1;
      calls = with_call b.calls;
    }

-- the clock that a binder gives next
abbrev pub clock_of : BinderParts → ClockParts
clock_of b = unwrap_or (option_map own_clock (next_of b.clocks.coming)) spare_clock

-- a binder after it gave a clock
abbrev pub after_clock : BinderParts → BinderParts
after_clock b = if is_empty b.clocks.coming then b else record b { clocks = with_one_out b.clocks }

-- a clock that comes back is kept unless it is a spare one, or all that were given came back
abbrev pub keeps : ClockParts → BinderParts → Bool
keeps c b = not c.spare && nat_lt 0 b.clocks.out

-- the clocks of a binder after one came back
abbrev pub clocks_with : ClockParts → BinderParts → Rack ClockParts
clocks_with c b = if keeps c b then with_one_back c b.clocks else b.clocks

-- a binder to which a listener and its clock came back
abbrev pub after_back : ListenerParts → ClockParts → BinderParts → BinderParts
after_back n c b = record b {
  listeners = with_one_back n b.listeners;
  returned = b.returned + 1;
  clocks = clocks_with c b;
}
