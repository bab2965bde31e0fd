-- A source of files in memory: its state, and exactly what each call answers and leaves.
use Rattle.std.specs.Prelude.{◌≡◌, ℕ, ◌<◌, Bool, true, false, List, [], length, take, drop, min, Some, None, refl}
use Rattle.std.specs.Coded.{Coded, code_by, coded×, coded_list, coded_bool, coded_ℕ}
use Rattle.outside_io.specs.Counts.{raised, is_listed}
use Rattle.outside_io.specs.Files.{Files, file_of, no_files, files_code}
use Rattle.outside_io.specs.declared.shelf.Opened.{Opened}
use Rattle.outside_io.specs.declared.shelf.Opened.TheVariants as opened
use Rattle.outside_io.specs.declared.shelf.Got.{Got}
use Rattle.outside_io.specs.declared.shelf.Got.TheVariants as got

pub record MemoryFiles : Type 0 where
  pub holds : Files
  pub started : Bool
  pub rest : List ℕ
  -- the numbers of the calls that are to fail
  pub fails : List ℕ
  -- the number of the next call
  pub calls : ℕ
  -- how many bytes one read moves at most
  pub most : ℕ
  pub faults : ℕ
  pub misses : ℕ

abbrev pub memory_files_code : Coded MemoryFiles
memory_files_code =
    code_by
    (Files × (Bool × (List ℕ × (List ℕ × (ℕ × (ℕ × (ℕ × ℕ)))))))
    (coded× files_code (coded× coded_bool (coded× (coded_list coded_ℕ) (coded× (coded_list coded_ℕ) (coded× coded_ℕ (coded× coded_ℕ (coded× coded_ℕ coded_ℕ)))))))
    (λ s. (s.holds, (s.started, (s.rest, (s.fails, (s.calls, (s.most, (s.faults, s.misses))))))))
    (λ p. record {
      holds = p.0;
      started = p.1.0;
      rest = p.1.1.0;
      fails = p.1.1.1.0;
      calls = p.1.1.1.1.0;
      most = p.1.1.1.1.1.0;
      faults = p.1.1.1.1.1.1.0;
      misses = p.1.1.1.1.1.1.1;
    })
    (λ _. refl)

-- a new source: it holds no file, and none is started
abbrev pub no_memory_files : List ℕ → ℕ → MemoryFiles
no_memory_files fails most =
    record { holds = no_files; started = false; rest = []; fails = fails; calls = 0; most = most; faults = 0; misses = 0 }

-- the next call is to fail
abbrev pub is_next_listed : MemoryFiles → Bool
is_next_listed s = is_listed s.fails s.calls

-- exactly what `start` answers, and what it leaves
abbrev pub StartsIn : MemoryFiles → List ℕ → Opened → MemoryFiles → Type 0
StartsIn old name opened.Ready new =
    (is_next_listed old ≡ false)
    × ((bytes : List ℕ) × (file_of old.holds name ≡ Some bytes)
    × (new ≡ record old { started = true; rest = bytes; calls = raised old.calls }))
StartsIn old name opened.Missing new =
    (is_next_listed old ≡ false) × (file_of old.holds name ≡ None)
    × (new ≡ record old { started = false; rest = []; calls = raised old.calls; misses = raised old.misses })
StartsIn old name opened.Fault new =
    (is_next_listed old ≡ true)
    × (new ≡ record old { started = false; rest = []; calls = raised old.calls; faults = raised old.faults })

-- exactly what `read` answers, what it leaves, and what it puts at the front of the slice
abbrev pub ReadsIn : MemoryFiles → Got → MemoryFiles → List ℕ → Type 0
ReadsIn old (got.Bytes n) new buf =
    (is_next_listed old ≡ false) × (0 < n) × (n ≡ min old.most (min (length buf) (length old.rest)))
    × (take n buf ≡ take n old.rest)
    × (new ≡ record old { rest = drop n old.rest; calls = raised old.calls })
ReadsIn old got.End new buf = (is_next_listed old ≡ false) × (old.rest ≡ []) × (new ≡ record old { calls = raised old.calls })
ReadsIn old got.Fault new buf =
    (is_next_listed old ≡ true) × (new ≡ record old { calls = raised old.calls; faults = raised old.faults })
