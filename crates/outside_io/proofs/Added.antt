-- A file that is put into memory while none is started.
use Rattle.std.proofs.Common.{◌≡◌, ℕ, List, [], ◌∷◌, ◌++◌, Option, Some, None, is_some, false, refl, sym, ap, ◌∙◌}
use Rattle.std.specs.FinMap as map
use Rattle.std.specs.FinMap.{nat_cmp-IsAntisymmetric, slice_cmp-IsAntisymmetric}
use Rattle.std.specs.Cmp.Lexicographic.{nat_list_cmp_total}
use Rattle.outside_io.specs.Files.{file_of, files_of, with_file}
use Rattle.outside_io.specs.Places.{left_at}
use Rattle.outside_io.specs.declared.files.Place.{Place}

pub holds_one_more : (files more : List (List ℕ × List ℕ)) (name bytes : List ℕ) → file_of (files_of files) name ≡ None
    → more ≡ files ++ (name, bytes) ∷ [] → files_of more ≡ with_file (files_of files) name bytes
holds_one_more files more name bytes fresh is =
    ap files_of is
    ∙ map.from_entries_push nat_list_cmp_total (slice_cmp-IsAntisymmetric nat_cmp-IsAntisymmetric) files name bytes
    (sym (map.get-from_entries nat_list_cmp_total files name) ∙ fresh)

pub nothing_left : (files more : List (List ℕ × List ℕ)) (place : Option Place) → is_some place ≡ false → left_at more place ≡ left_at files place
nothing_left files more None idle = refl
nothing_left files more (Some place) idle = absurd (cc idle)
