-- The changes text: curves that are put in the place of others in the grounded network of a model, one a line. Which text spells which changes,
-- and where it spells none, the first bad line and its first word. Lines, words, names and numbers are those of a text of the model, at the model's
-- scale, and so is the part of a line that lists a curve. The tests of a line are a list in order; a line is tested with the count of the changes
-- before it.
use Rattle.std.specs.Prelude.{◌≡◌, ℕ, ◌+◌, ◌<◌, ◌==◌, nat_le, Bool, false, not, ◌&&◌, ◌||◌, if◌then◌else◌, Option, None, Some, is_none, unwrap_or, List, [], ◌∷◌, ◌++◌, length, take, drop, slice_index_or, codes, IsTrue}
use Rattle.std.specs.List.{list_any, flat_map, enumerate_from}
use Rattle.std.specs.Option.{option_map}
use Rattle.std.specs.Str.{bytes_eq, is_utf8}
use Rattle.theory.specs.CurveList.{Listing}
use Rattle.theory.specs.Grounded.{Entries}
use Rattle.model_text.specs.Lines.{text_lines, line_words}
use Rattle.model_text.specs.Model.{node_names, arc_names, place_of}
use Rattle.model_text.specs.ModelText.{word_at, is_node_line, is_arc_line, part_items, part_listing, part_lacks_numbers, part_is_beyond, are_misshapen, has_fall, has_words, first_fault}
use Rattle.model_text.specs.Names.{is_name}
use Rattle.model_text.specs.declared.scale.Scale.{Scale}
use Rattle.model_text.specs.declared.fault.FaultWord.{FaultWord}
use Rattle.model_text.specs.declared.fault.FaultWord.TheVariants.{Utf8, Header, Keyword, Name, Number, Limit, Shape, Order, Unknown}

-- the arc of the grounded network, its curve from then on, and the number of the line
pub record Change : Type 0 where
  pub arc : ℕ
  pub curve : Listing
  pub line : ℕ

-- the most changes of a text
abbrev pub changes_most : ℕ
changes_most = 1000

-- ---- the changes that lines make: `node NAME LIST` or `arc NAME LIST`, each with or without `base B`

-- what stands after the name lists the curve
abbrev pub part_of : List (List ℕ) → List (List ℕ)
part_of words = drop 2 words

-- the grounded arc of that name: the ground arc of a node, or the arc itself, which stands behind those
unfoldable pub arc_of : Entries → Bool → List ℕ → Option ℕ
arc_of m node name =
    if node then place_of (node_names m) name else option_map (λ j. length m.nodes + j) (place_of (arc_names m) name)

abbrev pub change_of : Scale → Entries → Bool → ℕ → List (List ℕ) → Change
change_of s m node line words =
    record { arc = unwrap_or (arc_of m node (word_at words 1)) 0; curve = part_listing s (part_of words); line = line }

-- those of a line, by its number and its words; the header makes none, nor does a line without words
unfoldable pub changes_in : Scale → Entries → ℕ → List (List ℕ) → List Change
changes_in s m line words = if is_node_line words || is_arc_line words then change_of s m (is_node_line words) line words ∷ [] else []

-- those of lines that are counted from 1
unfoldable pub changes_of : Scale → Entries → List (List ℕ) → List Change
changes_of s m lines = flat_map (λ numbered. changes_in s m numbered.0 (line_words numbered.1)) (enumerate_from 1 lines)

-- ---- the tests of a line

-- the one name is missing, or is none
abbrev pub lacks_name : List (List ℕ) → Bool
lacks_name words = not (is_name (word_at words 1))

abbrev pub has_all : ℕ → Bool
has_all count = nat_le changes_most count

abbrev pub is_unknown : Entries → Bool → List (List ℕ) → Bool
is_unknown m node words = is_none (arc_of m node (word_at words 1))

-- of what lists the curve, where there may be no room for a change
abbrev pub curve_tests : Scale → Bool → Bool → List (List ℕ) → List (Bool × FaultWord)
curve_tests s node full part =
    (part_lacks_numbers s part, Number)
    ∷ (part_is_beyond s part, Limit)
    ∷ (full, Limit)
    ∷ (are_misshapen node (part_items s part), Shape)
    ∷ (has_fall (part_items s part), Order)
    ∷ []

-- of a node's line, or of an arc's, behind its keyword and with so many changes before it
abbrev pub named_tests : Scale → Entries → Bool → ℕ → List (List ℕ) → List (Bool × FaultWord)
named_tests s m node count words =
    (lacks_name words, Name)
    ∷ curve_tests s node (has_all count) (part_of words)
    ++ (is_unknown m node words, Unknown) ∷ []

-- a line after the header
unfoldable pub entry_tests : Scale → Entries → ℕ → List (List ℕ) → List (Bool × FaultWord)
entry_tests s m count words =
    (not (is_node_line words || is_arc_line words), Keyword)
    ∷ named_tests s m (is_node_line words) count words

unfoldable pub is_header : List (List ℕ) → Bool
is_header words = length words == 2 && bytes_eq (word_at words 0) (codes "changes") && bytes_eq (word_at words 1) (codes "1")

-- the first line with words is the header; a line without words is tested for its bytes alone
unfoldable pub line_tests : Scale → Entries → Bool → ℕ → List ℕ → List (Bool × FaultWord)
line_tests s m begun count line =
    (not (is_utf8 line), Utf8)
    ∷ (if has_words line then
    (if begun then entry_tests s m count (line_words line) else ((not (is_header (line_words line)), Header) ∷ []))
    else [])

unfoldable pub fault_at : Scale → Entries → List (List ℕ) → ℕ → Option FaultWord
fault_at s m lines k =
    let before = take k lines in
    first_fault (line_tests s m (list_any has_words before) (length (changes_of s m before)) (slice_index_or lines k []))

-- ---- the text

abbrev pub NoFaultBefore : Scale → Entries → List (List ℕ) → ℕ → Type 0
NoFaultBefore s m lines n = (k : ℕ) → k < n → fault_at s m lines k ≡ None

-- the text spells the changes of the model at its scale: it has a header, no line fails a test, and its lines make them in turn
pub record Spells (s : Scale) (m : Entries) (text : List ℕ) (changes : List Change) : Type 0 where
  pub begun : IsTrue (list_any has_words (text_lines text))
  pub no_fault : NoFaultBefore s m (text_lines text) (length (text_lines text))
  pub are : changes ≡ changes_of s m (text_lines text)

-- the first bad line, counted from 1, and its first word; a text without words lacks its header after the last line
pub data IsFirstFault (s : Scale) (m : Entries) (text : List ℕ) : ℕ → FaultWord → Type 0 where
  bad_line : {k : ℕ} {word : FaultWord} → k < length (text_lines text) → NoFaultBefore s m (text_lines text) k
      → fault_at s m (text_lines text) k ≡ Some word → IsFirstFault s m text (k + 1) word
  no_words : list_any has_words (text_lines text) ≡ false → NoFaultBefore s m (text_lines text) (length (text_lines text))
      → IsFirstFault s m text (length (text_lines text) + 1) Header
