-- Looking a name up in a list of names and bytes, entry by entry.
use Rattle.std.proofs.Common.{◌≡◌, ℕ, suc, ◌+◌, ◌<◌, ◌≤◌, true, false, List, [], length, drop, cond, nat_eq, get_or, Option, Some, None, ap, sym, ◌∙◌, refl, add-one}
use Rattle.std.proofs.Math.Seq.{drop-cons}
use Rattle.std.proofs.lemmas.List.{drop_all, get_or_default}
use Rattle.std.specs.FinMap as map
use Rattle.std.specs.Ordering.{nat_cmp}
use Rattle.std.specs.Cmp.Lexicographic.{pointwise, slice_cmp, nat_list_cmp_total, texts_ties}
use Rattle.outside_io.specs.Files.{Files, file_of, files_of, no_files, with_file, bytes_at}

-- with one more file, its own name finds it, and each other name finds what it found
pub found_with_file : (files : Files) (name bytes q : List ℕ)
    → file_of (with_file files name bytes) q ≡ cond (pointwise nat_eq q name) (Some bytes) (file_of files q)
found_with_file files name bytes q =
    map.get-insert nat_list_cmp_total files name bytes q ∙ ap (λ b. cond b (Some bytes) (file_of files q)) (sym (texts_ties q name))

pub not_found : (name : List ℕ) → file_of no_files name ≡ None
not_found name = map.get-empty (slice_cmp nat_cmp) name

module _ (entries : List (List ℕ × List ℕ)) (i : ℕ) (name : List ℕ) where
  -- what a search from the entry at i on finds, and from the next on
  abbrev left : Option (List ℕ)
  left = file_of (files_of (drop i entries)) name

  abbrev more : Option (List ℕ)
  more = file_of (files_of (drop (i + 1) entries)) name

  -- the entry at i answers for its own name
  found_from : (entry : List ℕ × List ℕ) → i < length entries → entry ≡ get_or entries i entry
      → left ≡ cond (pointwise nat_eq name entry.0) (Some entry.1) more
  found_from entry inside is =
      ap (λ es. file_of (files_of es) name) (drop-cons entries i entry inside)
      ∙ found_with_file (files_of (drop (suc i) entries)) _ _ name
      ∙ rw (← is, add-one i) refl

  pub found_here : (entry : List ℕ × List ℕ) → i < length entries → entry ≡ get_or entries i entry → pointwise nat_eq name entry.0 ≡ true → left ≡ Some (bytes_at entries i)
  found_here entry inside is same =
      found_from entry inside is ∙ ap (λ b. cond b (Some entry.1) more) same
      ∙ ap (λ e. Some e.1) (is ∙ get_or_default entries i entry ([], []) inside)

  pub not_here : (entry : List ℕ × List ℕ) → i < length entries → entry ≡ get_or entries i entry → pointwise nat_eq name entry.0 ≡ false → left ≡ more
  not_here entry inside is other = found_from entry inside is ∙ ap (λ b. cond b (Some entry.1) more) other

  pub none_beyond : length entries ≤ i → left ≡ None
  none_beyond beyond = ap (λ es. file_of (files_of es) name) (drop_all i entries beyond) ∙ not_found name
