-- What is left of the file that is being read.
use Rattle.std.specs.Prelude.{ℕ, List, [], drop, Option, Some, None}
use Rattle.outside_io.specs.Files.{bytes_at}
use Rattle.outside_io.specs.declared.files.Place.{Place}

-- nothing where no file is started
abbrev pub left_at : List (List ℕ × List ℕ) → Option Place → List ℕ
left_at entries None = []
left_at entries (Some place) = drop place.at (bytes_at entries place.file)
