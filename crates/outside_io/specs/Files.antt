-- The files that a source holds: a finite map from names to bytes.
use Rattle.std.specs.Prelude.{ℕ, List, [], Option, slice_index_or}
use Rattle.std.specs.Ordering.{nat_cmp}
use Rattle.std.specs.Cmp.Lexicographic.{slice_cmp}
use Rattle.std.specs.Coded.{Coded, coded_list, coded_ℕ}
use Rattle.std.specs.FinMap as map

abbrev pub Files : Type 0
Files = map.FinMap (slice_cmp nat_cmp) (List ℕ)

-- the bytes of the file of that name, if it is held
abbrev pub file_of : Files → List ℕ → Option (List ℕ)
file_of files name = map.get files name

abbrev pub no_files : Files
no_files = map.empty

abbrev pub with_file : Files → List ℕ → List ℕ → Files
with_file files name bytes = map.insert files name bytes

-- the files of a list of names and bytes, in which no name stands twice
abbrev pub files_of : List (List ℕ × List ℕ) → Files
files_of entries = map.from_entries entries

abbrev pub files_code : Coded Files
files_code = map.code (coded_list coded_ℕ) (coded_list coded_ℕ)

-- the bytes of the file at that index of the list
abbrev pub bytes_at : List (List ℕ × List ℕ) → ℕ → List ℕ
bytes_at entries file = (slice_index_or entries file ([], [])).1
