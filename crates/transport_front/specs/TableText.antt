-- The text of a table: which text spells which table, and where it spells none, the first bad line and its first word. Lines, words, names and
-- numbers are those of a model text. The tests of a line are a list in order; a line is tested against the table that the lines before it
-- have made.
use Rattle.std.specs.Prelude.{◌≡◌, ℕ, ◌+◌, ◌%◌, ◌<◌, ◌==◌, nat_lt, nat_le, int_lt, ℤ, pos, Bool, true, false, not, ◌&&◌, ◌||◌, if◌then◌else◌, Option, None, Some, is_some, is_none, unwrap_or, List, [], ◌∷◌, ◌++◌, length, take, drop, map, slice_index_or, codes, IsTrue}
use Rattle.std.specs.List.{list_any, list_all, fold}
use Rattle.std.specs.Str.{bytes_eq, is_utf8}
use Rattle.theory.specs.Limits.{number_most, nodes_most, arcs_most}
use Rattle.theory.specs.Sums.{positive_part}
use Rattle.model_text.specs.Lines.{text_lines, line_words}
use Rattle.model_text.specs.Model.{place_of}
use Rattle.model_text.specs.ModelText.{word_at, is_over, has_words}
use Rattle.model_text.specs.Names.{is_name}
use Rattle.model_text.specs.NumberWords.{number_of}
use Rattle.transport_front.specs.declared.fault.TableWord.{TableWord}
use Rattle.transport_front.specs.declared.fault.TableWord.TheVariants.{Utf8, Header, Keyword, Name, Number, Limit, Order, Twice, Unknown}
use Rattle.transport_front.specs.declared.pair.Pair.{Pair}
use Rattle.transport_front.specs.Table.{Kind, Place, Lane, Table, pairs_most, size_of, has_fall, is_plant, is_shop, kind_at, place_names, lane_names}
use Rattle.transport_front.specs.Table.Kind.{plant, shop}

-- ---- the parts of a line: `plant NAME PAIRS`, `shop NAME DEMAND`, `lane NAME PLANT SHOP PAIRS`

unfoldable pub is_plant_line : List (List ℕ) → Bool
is_plant_line words = bytes_eq (word_at words 0) (codes "plant")

unfoldable pub is_shop_line : List (List ℕ) → Bool
is_shop_line words = bytes_eq (word_at words 0) (codes "shop")

unfoldable pub is_lane_line : List (List ℕ) → Bool
is_lane_line words = bytes_eq (word_at words 0) (codes "lane")

-- the words that are to be so many names, and those behind them
abbrev pub names_of : ℕ → List (List ℕ) → List (List ℕ)
names_of count words = take count (drop 1 words)

abbrev pub behind : ℕ → List (List ℕ) → List (List ℕ)
behind count words = drop count (drop 1 words)

abbrev pub numbers : List (List ℕ) → List ℤ
numbers words = map (λ word. unwrap_or (number_of word) (pos 0)) words

-- a size and its price, two numbers at a time
abbrev pub pairs_of : List ℤ → List Pair
pairs_of [] = []
pairs_of (size ∷ []) = []
pairs_of (size ∷ price ∷ rest) = record { size = positive_part size; price = price } ∷ pairs_of rest

abbrev pub line_pairs : ℕ → List (List ℕ) → List Pair
line_pairs count words = pairs_of (numbers (behind count words))

abbrev pub demand_of : List (List ℕ) → ℤ
demand_of words = unwrap_or (number_of (word_at words 0)) (pos 0)

-- ---- the table that lines make

abbrev pub no_table : Table
no_table = record { places = []; lanes = [] }

abbrev pub with_place : Table → List ℕ → Kind → Table
with_place t name kind = record t { places = t.places ++ record { name = name; kind = kind } ∷ [] }

abbrev pub with_lane : Table → List ℕ → ℕ → ℕ → List Pair → Table
with_lane t name tail head pairs = record t { lanes = t.lanes ++ record { name = name; from = tail; to = head; pairs = pairs } ∷ [] }

-- the position of the place of that name; 0 where there is none
abbrev pub position_of : Table → List ℕ → ℕ
position_of t name = unwrap_or (place_of (place_names t) name) 0

abbrev pub with_lane_line : Table → List (List ℕ) → Table
with_lane_line t words =
    with_lane t (word_at words 1) (position_of t (word_at words 2)) (position_of t (word_at words 3)) (line_pairs 3 words)

unfoldable pub with_line : Table → List (List ℕ) → Table
with_line t words =
    if is_plant_line words then with_place t (word_at words 1) (plant (line_pairs 1 words))
    else (if is_shop_line words then with_place t (word_at words 1) (shop (positive_part (demand_of (behind 1 words))))
    else (if is_lane_line words then with_lane_line t words
    else t))

unfoldable pub table_of : List (List ℕ) → Table
table_of lines = fold (λ t line. with_line t (line_words line)) no_table lines

-- ---- the tests of a line

abbrev pub lacks_names : ℕ → List (List ℕ) → Bool
lacks_names count words = nat_lt (length (names_of count words)) count || not (list_all is_name (names_of count words))

abbrev pub lacks_number : List (List ℕ) → Bool
lacks_number words = list_any (λ word. is_none (number_of word)) words

abbrev pub is_odd_or_none : ℕ → Bool
is_odd_or_none count = count == 0 || count % 2 == 1

-- a size below 1, or sizes that add up to too much
abbrev pub are_wrong_sizes : List Pair → Bool
are_wrong_sizes pairs = list_any (λ p. p.size == 0) pairs || nat_lt number_most (size_of pairs)

abbrev pub are_beyond : List ℤ → Bool
are_beyond listed = list_any is_over listed || nat_lt pairs_most (length (pairs_of listed)) || are_wrong_sizes (pairs_of listed)

-- of words that are to be pairs
abbrev pub pair_tests : List (List ℕ) → List (Bool × TableWord)
pair_tests words = (lacks_number words || is_odd_or_none (length words), Number) ∷ (are_beyond (numbers words), Limit) ∷ []

-- not exactly one number
abbrev pub is_no_demand : List (List ℕ) → Bool
is_no_demand [] = true
is_no_demand (word ∷ []) = is_none (number_of word)
is_no_demand (word ∷ other ∷ words) = true

abbrev pub demand_tests : List (List ℕ) → List (Bool × TableWord)
demand_tests words = (is_no_demand words, Number) ∷ (is_over (demand_of words) || int_lt (demand_of words) (pos 0), Limit) ∷ []

abbrev pub has_all_places : Table → Bool
has_all_places t = nat_le nodes_most (length t.places)

abbrev pub has_all_lanes : Table → Bool
has_all_lanes t = nat_le arcs_most (length t.lanes)

abbrev pub has_place : Table → List ℕ → Bool
has_place t name = is_some (place_of (place_names t) name)

abbrev pub has_lane : Table → List ℕ → Bool
has_lane t name = is_some (place_of (lane_names t) name)

-- a place of that name passes a test
abbrev pub passes_at : (Kind → Bool) → Table → Option ℕ → Bool
passes_at test t None = false
passes_at test t (Some i) = test (kind_at t i)

abbrev pub is_unknown : Table → List (List ℕ) → Bool
is_unknown t words =
    not (passes_at is_plant t (place_of (place_names t) (word_at words 2)) && passes_at is_shop t (place_of (place_names t) (word_at words 3)))

unfoldable pub plant_tests : Table → List (List ℕ) → List (Bool × TableWord)
plant_tests t words =
    (lacks_names 1 words, Name)
    ∷ (lacks_number (behind 1 words) || is_odd_or_none (length (behind 1 words)), Number)
    ∷ (are_beyond (numbers (behind 1 words)), Limit)
    ∷ (has_all_places t, Limit)
    ∷ (has_fall (line_pairs 1 words), Order)
    ∷ (has_place t (word_at words 1), Twice)
    ∷ []

unfoldable pub shop_tests : Table → List (List ℕ) → List (Bool × TableWord)
shop_tests t words =
    (lacks_names 1 words, Name)
    ∷ (is_no_demand (behind 1 words), Number)
    ∷ (is_over (demand_of (behind 1 words)) || int_lt (demand_of (behind 1 words)) (pos 0), Limit)
    ∷ (has_all_places t, Limit)
    ∷ (has_place t (word_at words 1), Twice)
    ∷ []

unfoldable pub lane_tests : Table → List (List ℕ) → List (Bool × TableWord)
lane_tests t words =
    (lacks_names 3 words, Name)
    ∷ (lacks_number (behind 3 words) || is_odd_or_none (length (behind 3 words)), Number)
    ∷ (are_beyond (numbers (behind 3 words)), Limit)
    ∷ (has_all_lanes t, Limit)
    ∷ (has_fall (line_pairs 3 words), Order)
    ∷ (has_lane t (word_at words 1), Twice)
    ∷ (is_unknown t words, Unknown)
    ∷ []

-- a line after the header
unfoldable pub entry_tests : Table → List (List ℕ) → List (Bool × TableWord)
entry_tests t words =
    if is_plant_line words then plant_tests t words
    else (if is_shop_line words then shop_tests t words
    else (if is_lane_line words then lane_tests t words
    else ((true, Keyword) ∷ [])))

unfoldable pub is_header : List (List ℕ) → Bool
is_header words = length words == 2 && bytes_eq (word_at words 0) (codes "transport") && bytes_eq (word_at words 1) (codes "1")

-- the first line with words is the header; a line without words is tested for its bytes alone
unfoldable pub line_tests : Bool → Table → List ℕ → List (Bool × TableWord)
line_tests begun t line =
    (not (is_utf8 line), Utf8)
    ∷ (if has_words line then
    (if begun then entry_tests t (line_words line) else ((not (is_header (line_words line)), Header) ∷ []))
    else [])

-- the word of the first test that the line fails
abbrev pub first_fault : List (Bool × TableWord) → Option TableWord
first_fault [] = None
first_fault ((fails, word) ∷ rest) = if fails then Some word else first_fault rest

unfoldable pub fault_at : List (List ℕ) → ℕ → Option TableWord
fault_at lines k =
    let before = take k lines in first_fault (line_tests (list_any has_words before) (table_of before) (slice_index_or lines k []))

-- ---- the text

abbrev pub NoFaultBefore : List (List ℕ) → ℕ → Type 0
NoFaultBefore lines n = (k : ℕ) → k < n → fault_at lines k ≡ None

-- the text spells the table: it has a header, no line fails a test, and its lines make the table
pub record Spells (text : List ℕ) (t : Table) : Type 0 where
  pub begun : IsTrue (list_any has_words (text_lines text))
  pub no_fault : NoFaultBefore (text_lines text) (length (text_lines text))
  pub is : t ≡ table_of (text_lines text)

-- the first bad line, counted from 1, and its first word; a text without words lacks its header after the last line
pub data IsFirstFault (text : List ℕ) : ℕ → TableWord → Type 0 where
  bad_line : {k : ℕ} {word : TableWord} → k < length (text_lines text) → NoFaultBefore (text_lines text) k
      → fault_at (text_lines text) k ≡ Some word → IsFirstFault text (k + 1) word
  no_words : list_any has_words (text_lines text) ≡ false → NoFaultBefore (text_lines text) (length (text_lines text))
      → IsFirstFault text (length (text_lines text) + 1) Header
