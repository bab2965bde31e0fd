-- A source of files in memory that never fails: its state, and exactly what each call answers and leaves.
use Rattle.std.specs.Prelude.{◌≡◌, ℕ, ◌<◌, Bool, true, false, List, [], length, take, drop, min, Some, None, refl}
use Rattle.std.specs.Coded.{Coded, code_by, coded×, coded_list, coded_bool, coded_ℕ}
use Rattle.outside_io.specs.Counts.{raised}
use Rattle.outside_io.specs.Files.{Files, file_of, no_files, files_code}
use Rattle.outside_io.specs.declared.shelf.Opened.{Opened}
use Rattle.outside_io.specs.declared.shelf.Opened.TheVariants as opened
use Rattle.outside_io.specs.declared.shelf.Got.{Got}
use Rattle.outside_io.specs.declared.shelf.Got.TheVariants as got

pub record SteadyFiles : Type 0 where
  pub holds : Files
  pub started : Bool
  pub rest : List ℕ
  pub misses : ℕ

abbrev pub steady_files_code : Coded SteadyFiles
steady_files_code =
    code_by
    (Files × (Bool × (List ℕ × ℕ)))
    (coded× files_code (coded× coded_bool (coded× (coded_list coded_ℕ) coded_ℕ)))
    (λ s. (s.holds, (s.started, (s.rest, s.misses))))
    (λ p. record { holds = p.0; started = p.1.0; rest = p.1.1.0; misses = p.1.1.1 })
    (λ _. refl)

-- a new source: it holds no file, and none is started
abbrev pub no_steady_files : SteadyFiles
no_steady_files = record { holds = no_files; started = false; rest = []; misses = 0 }

-- a file that is held is ready, and any other is missing
abbrev pub StartsSteadily : SteadyFiles → List ℕ → Opened → SteadyFiles → Type 0
StartsSteadily old name opened.Ready new =
    (bytes : List ℕ) × (file_of old.holds name ≡ Some bytes) × (new ≡ record old { started = true; rest = bytes })
StartsSteadily old name opened.Missing new =
    (file_of old.holds name ≡ None) × (new ≡ record old { started = false; rest = []; misses = raised old.misses })
StartsSteadily old name opened.Fault new = ⊥

-- as many bytes as are left and as there is room for
abbrev pub ReadsSteadily : SteadyFiles → Got → SteadyFiles → List ℕ → Type 0
ReadsSteadily old (got.Bytes n) new buf =
    (0 < n) × (n ≡ min (length buf) (length old.rest)) × (take n buf ≡ take n old.rest)
    × (new ≡ record old { rest = drop n old.rest })
ReadsSteadily old got.End new buf = (old.rest ≡ []) × (new ≡ old)
ReadsSteadily old got.Fault new buf = ⊥
