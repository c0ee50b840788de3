-- Real objects: what they tell is their counts alone.
use Rattle.std.specs.Prelude.{ℕ}
use Rattle.std.specs.declared.option.Option.TheVariants.{None}
use Rattle.kd_outside.specs.Told.{LinkState, ListenerState, BinderState}

-- how often the reads and the writes of a link failed
pub record LinkFaults : Type 0 where
  pub reads : ℕ
  pub writes : ℕ

-- a link that tells no more
abbrev pub untold_link : LinkFaults → LinkState
untold_link f = record {
  reading = record { bytes = None; faults = f.reads };
  writing = record { bytes = None; faults = f.writes };
}

-- a listener that tells how many links it gave, how many came back, and how often it failed
abbrev pub untold_listener : ℕ → ℕ → ℕ → ListenerState
untold_listener gave returned faults = record {
  coming = None;
  back = None;
  gave = gave;
  returned = returned;
  faults = faults;
}

-- a binder that tells the same of its listeners, and nothing of its clocks
abbrev pub untold_binder : ℕ → ℕ → ℕ → BinderState
untold_binder gave returned faults = record {
  listeners = None;
  listeners_back = None;
  gave = gave;
  returned = returned;
  clocks = None;
  clocks_back = None;
  lent = 0;
  faults = faults;
}
