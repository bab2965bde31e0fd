-- A sink in memory that fails only where its room is used up: its state, and exactly what each write does.
use Rattle.std.specs.Prelude.{◌≡◌, ℕ, ◌-◌, ◌<◌, ◌++◌, List, [], length, take, min}
use Rattle.outside_io.specs.Counts.{raised}
use Rattle.outside_io.specs.declared.sink.Put.{Put}
use Rattle.outside_io.specs.declared.sink.Put.TheVariants.{Took, Fault}

pub record SteadyBytes : Type 0 where
  pub written : List ℕ
  -- how many further bytes there is room for
  pub room : ℕ
  pub faults : ℕ

-- a new sink
abbrev pub no_steady_bytes : ℕ → SteadyBytes
no_steady_bytes room = record { written = []; room = room; faults = 0 }

-- as much of the part as there is room for; a fault comes only where there is none, and it alone raises the count
abbrev pub WritesSteadily : SteadyBytes → List ℕ → Put → SteadyBytes → Type 0
WritesSteadily old part (Took n) new =
    (0 < n) × (n ≡ min (length part) old.room)
    × (new ≡ record old { written = old.written ++ take n part; room = old.room - n })
WritesSteadily old part Fault new = (old.room ≡ 0) × (new ≡ record old { faults = raised old.faults })
