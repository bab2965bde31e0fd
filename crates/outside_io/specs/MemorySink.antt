-- A sink in memory: its state, and exactly what each write does.
use Rattle.std.specs.Prelude.{◌≡◌, ℕ, ◌-◌, ◌<◌, ◌⊎◌, ◌++◌, true, false, List, [], length, take, min}
use Rattle.outside_io.specs.Counts.{raised, is_listed}
use Rattle.outside_io.specs.declared.sink.Put.{Put}
use Rattle.outside_io.specs.declared.sink.Put.TheVariants.{Took, Fault}

pub record MemoryBytes : Type 0 where
  pub written : List ℕ
  -- how many further bytes there is room for
  pub room : ℕ
  -- the numbers of the calls that are to fail
  pub fails : List ℕ
  -- the number of the next call
  pub calls : ℕ
  -- how many bytes one write takes at most
  pub most : ℕ
  pub faults : ℕ

-- a new sink
abbrev pub no_memory_bytes : List ℕ → ℕ → ℕ → MemoryBytes
no_memory_bytes fails most room = record { written = []; room = room; fails = fails; calls = 0; most = most; faults = 0 }

-- exactly what `write` answers, and what it leaves
abbrev pub WritesIn : MemoryBytes → List ℕ → Put → MemoryBytes → Type 0
WritesIn old part (Took n) new =
    (is_listed old.fails old.calls ≡ false) × (0 < n) × (n ≡ min old.most (min (length part) old.room))
    × (new ≡ record old { written = old.written ++ take n part; room = old.room - n; calls = raised old.calls })
WritesIn old part Fault new =
    ((is_listed old.fails old.calls ≡ true) ⊎ (old.room ≡ 0))
    × (new ≡ record old { calls = raised old.calls; faults = raised old.faults })
