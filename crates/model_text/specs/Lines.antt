-- The lines of a text and the words of a line.
use Rattle.std.specs.Prelude.{ℕ, ◌==◌, Bool, not, ◌||◌, List, [], ◌∷◌, length}
use Rattle.std.specs.List.{slice_split, before_first, filter}
use Rattle.std.specs.Str.Lines.{strip_carriage_return}

-- The text is cut at each LF (10). A last piece that is empty is no line.
abbrev pub without_empty_end : List (List ℕ) → List (List ℕ)
without_empty_end [] = []
without_empty_end ([] ∷ []) = []
without_empty_end ((b ∷ piece) ∷ []) = (b ∷ piece) ∷ []
without_empty_end (piece ∷ next ∷ rest) = piece ∷ without_empty_end (next ∷ rest)

unfoldable pub text_lines : List ℕ → List (List ℕ)
text_lines text = without_empty_end (slice_split (λ b. b == 10) text)

-- One CR (13) at the end goes, then a `#` (35) and all that follows it. The words are what spaces (32) and tabs (9) part.
abbrev pub is_blank : ℕ → Bool
is_blank b = (b == 32) || (b == 9)

unfoldable pub content : List ℕ → List ℕ
content line = before_first (λ b. b == 35) (strip_carriage_return line)

unfoldable pub line_words : List ℕ → List (List ℕ)
line_words line = filter (λ piece. not (length piece == 0)) (slice_split is_blank (content line))
