-- What a source of files shows of itself: one record, in whose words its calls and all that stands on them are told.
use Rattle.std.specs.Prelude.{◌≡◌, ℕ, ◌++◌, Bool, List, Option, option_map}
use Rattle.outside_io.specs.Counts.{Rose, Counts}
use Rattle.outside_io.specs.Files.{Files}

pub record Seen : Type 0 where
  -- the files, where the source tells them
  pub holds : Option Files
  -- whether a file is being read
  pub started : Bool
  -- the bytes of the started file that are not yet read, told where `holds` is told
  pub rest : Option (List ℕ)
  -- The names that `start` was called with, in order, where the source tells them. The program's own sources keep no
  -- log. But no call can find out whether its source does, so what is proved of those that do binds it for all.
  pub log : Option (List (List ℕ))
  pub misses : ℕ
  pub faults : ℕ

-- a log after these names; whether it is told stays
abbrev pub logged : Option (List (List ℕ)) → List (List ℕ) → Option (List (List ℕ))
logged log names = option_map (λ told. told ++ names) log

-- what no call changes, and what never falls. How the log grew each call says for itself, exactly
pub record Moves (old new : Seen) : Type 0 where
  pub holds : new.holds ≡ old.holds
  pub misses : Counts old.misses new.misses
  pub faults : Counts old.faults new.faults

-- what a call may be judged by: the files before it, what is left of the file that was started last, whether the counts
-- rose meanwhile, and which names were started meanwhile, all of them and in this order
pub record Outside : Type 1 where
  pub holds : Option Files
  pub rest : Option (List ℕ)
  pub missed : Type 0
  pub faulted : Type 0
  pub started : List (List ℕ) → Type 0

abbrev pub since : Seen → Seen → Outside
since old new = record {
  holds = old.holds;
  rest = new.rest;
  missed = Rose old.misses new.misses;
  faulted = Rose old.faults new.faults;
  started = λ names. new.log ≡ logged old.log names;
}
