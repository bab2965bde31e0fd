-- The model text: which text spells which model at which scale, and where it spells none, the first bad line and its first word.
-- The tests of a line are a table; a line is tested against the model that the lines before it have made.
use Rattle.std.specs.Prelude.{◌≡◌, ℕ, ◌+◌, ◌-◌, ◌%◌, ◌<◌, ◌==◌, nat_lt, nat_le, ℤ, pos, Bool, true, false, not, ◌&&◌, ◌||◌, if◌then◌else◌, Option, None, Some, is_some, is_none, unwrap_or, unsigned_abs, List, [], ◌∷◌, length, take, drop, slice_index_or, codes}
use Rattle.std.specs.List.{list_any, list_all, fold, position_or_len, zip}
use Rattle.std.specs.Str.{bytes_eq, is_utf8}
use Rattle.theory.specs.declared.ext.Ext.{Ext}
use Rattle.theory.specs.declared.ext.Ext.TheVariants.{MinusInf, At, PlusInf}
use Rattle.theory.specs.Ends.{is_finite, is_below, whole}
use Rattle.theory.specs.CurveList.{Listing, item}
use Rattle.theory.specs.Grounded.{Entries}
use Rattle.theory.specs.Limits.{number_most, nodes_most, arcs_most, list_most}
use Rattle.model_text.specs.Model.{node_names, arc_names, place_of, no_entries, with_node, with_arc}
use Rattle.model_text.specs.declared.fault.FaultWord.{FaultWord}
use Rattle.model_text.specs.declared.fault.FaultWord.TheVariants.{Utf8, Header, Keyword, Name, Number, Limit, Shape, Order, Twice, Unknown, Loop}
use Rattle.model_text.specs.Names.{is_name}
use Rattle.model_text.specs.Lines.{text_lines, line_words}
use Rattle.model_text.specs.NumberWords.{fixed_of, item_of}
use Rattle.model_text.specs.Scale.{decimals_most, plain, with_decimals, cost_decimals}
use Rattle.model_text.specs.declared.scale.Scale.{Scale}

-- ---- the parts of a line: `node NAME LIST` or `arc NAME FROM TO LIST`, each with or without `base B`

abbrev pub word_at : List (List ℕ) → ℕ → List ℕ
word_at words k = slice_index_or words k []

unfoldable pub is_node_line : List (List ℕ) → Bool
is_node_line words = bytes_eq (word_at words 0) (codes "node")

unfoldable pub is_arc_line : List (List ℕ) → Bool
is_arc_line words = bytes_eq (word_at words 0) (codes "arc")

abbrev pub names_wanted : List (List ℕ) → ℕ
names_wanted words = if is_node_line words then 1 else 3

unfoldable pub line_names : List (List ℕ) → List (List ℕ)
line_names words = take (names_wanted words) (drop 1 words)

-- what stands after the names lists a curve
abbrev pub body : List (List ℕ) → List (List ℕ)
body words = drop (names_wanted words) (drop 1 words)

-- ---- the part of a line that lists a curve: `LIST` or `LIST base B`, split at the first word `base`

abbrev pub is_base_word : List ℕ → Bool
is_base_word word = bytes_eq word (codes "base")

abbrev pub part_list : List (List ℕ) → List (List ℕ)
part_list part = take (position_or_len is_base_word part) part

abbrev pub from_base : List (List ℕ) → List (List ℕ)
from_base part = drop (position_or_len is_base_word part) part

-- the items that words are; in turn they are points and slopes, with so many decimals each
abbrev pub items_of : ℕ → ℕ → List (List ℕ) → List Ext
items_of here next [] = []
items_of here next (word ∷ words) = unwrap_or (item_of here word) MinusInf ∷ items_of next here words

unfoldable pub part_items : Scale → List (List ℕ) → List Ext
part_items s part = items_of s.flow s.tension (part_list part)

unfoldable pub part_base : Scale → List (List ℕ) → ℤ
part_base s part = unwrap_or (fixed_of (cost_decimals s) (word_at (from_base part) 1)) (pos 0)

-- an empty list of a node stands for the one point 0
abbrev pub listing_of : List Ext → ℤ → Listing
listing_of items base = record { items = if length items == 0 then At (pos 0) ∷ [] else items; base = base }

-- the curve that the part lists
unfoldable pub part_listing : Scale → List (List ℕ) → Listing
part_listing s part = listing_of (part_items s part) (part_base s part)

unfoldable pub line_items : Scale → List (List ℕ) → List Ext
line_items s words = part_items s (body words)

unfoldable pub line_listing : Scale → List (List ℕ) → Listing
line_listing s words = part_listing s (body words)

-- ---- the model that lines make

-- the position of the node of that name; 0 where there is none
abbrev pub node_place : Entries → List ℕ → ℕ
node_place m name = unwrap_or (place_of (node_names m) name) 0

unfoldable pub with_line : Scale → Entries → List (List ℕ) → Entries
with_line s m words =
    if is_node_line words then with_node m (word_at words 1) (line_listing s words)
    else (if is_arc_line words
    then with_arc m (word_at words 1) (node_place m (word_at words 2)) (node_place m (word_at words 3)) (line_listing s words)
    else m)

-- ---- the tests of what lists a curve

abbrev pub is_minus_inf : Ext → Bool
is_minus_inf MinusInf = true
is_minus_inf (At a) = false
is_minus_inf PlusInf = false

abbrev pub is_plus_inf : Ext → Bool
is_plus_inf MinusInf = false
is_plus_inf (At a) = false
is_plus_inf PlusInf = true

abbrev pub is_over : ℤ → Bool
is_over z = nat_lt number_most (unsigned_abs z)

abbrev pub are_over : List Ext → Bool
are_over items = list_any (λ e. is_over (whole e)) items

-- `base` stands there and isn't followed by exactly one word that is a number
abbrev pub is_no_base : ℕ → List (List ℕ) → Bool
is_no_base decimals [] = false
is_no_base decimals (base ∷ word ∷ []) = is_none (fixed_of decimals word)
is_no_base decimals (base ∷ words) = true

-- a word is no item, where they are points and slopes in turn
abbrev pub lack_items : ℕ → ℕ → List (List ℕ) → Bool
lack_items here next [] = false
lack_items here next (word ∷ words) = is_none (item_of here word) || lack_items next here words

-- minus infinity stands elsewhere than in front, plus infinity elsewhere than at the end
abbrev pub is_misplaced : List Ext → Bool
is_misplaced items = list_any is_minus_inf (drop 1 items) || list_any is_plus_inf (take (length items - 1) items)

-- an even count of items, but for an empty list of a node; an infinity that stands wrong; an infinite single point
abbrev pub are_misshapen : Bool → List Ext → Bool
are_misshapen node items =
    (length items % 2 == 0 && not (node && length items == 0))
    || is_misplaced items
    || (length items == 1 && not (is_finite (item items 0)))

-- an item isn't above the item two places before it
unfoldable pub has_fall : List Ext → Bool
has_fall items = list_any (λ pair. not (is_below pair.0 pair.1)) (zip items (drop 2 items))

-- a list word is no item, or the base no number
unfoldable pub part_lacks_numbers : Scale → List (List ℕ) → Bool
part_lacks_numbers s part = lack_items s.flow s.tension (part_list part) || is_no_base (cost_decimals s) (from_base part)

-- too long a list; a number beyond the limit
unfoldable pub part_is_beyond : Scale → List (List ℕ) → Bool
part_is_beyond s part =
    nat_lt list_most (length (part_list part)) || are_over (part_items s part) || is_over (part_base s part)

-- of a part of a node's line, or of an arc's, in the order of the tests
abbrev pub part_tests : Scale → Bool → List (List ℕ) → List (Bool × FaultWord)
part_tests s node part =
    (part_lacks_numbers s part, Number)
    ∷ (part_is_beyond s part, Limit)
    ∷ (are_misshapen node (part_items s part), Shape)
    ∷ (has_fall (part_items s part), Order)
    ∷ []

-- ---- the tests of a line

unfoldable pub lacks_names : List (List ℕ) → Bool
lacks_names words = nat_lt (length (line_names words)) (names_wanted words) || not (list_all is_name (line_names words))

unfoldable pub lacks_numbers : Scale → List (List ℕ) → Bool
lacks_numbers s words = part_lacks_numbers s (body words)

unfoldable pub is_beyond : Scale → List (List ℕ) → Bool
is_beyond s words = part_is_beyond s (body words)

-- the model has no room for what the line adds
unfoldable pub is_full : Entries → List (List ℕ) → Bool
is_full m words =
    (is_node_line words && nat_le nodes_most (length m.nodes)) || (is_arc_line words && nat_le arcs_most (length m.arcs))

unfoldable pub is_misshapen : Scale → List (List ℕ) → Bool
is_misshapen s words = are_misshapen (is_node_line words) (line_items s words)

unfoldable pub is_twice : Entries → List (List ℕ) → Bool
is_twice m words =
    is_some (place_of (if is_node_line words then node_names m else arc_names m) (word_at words 1))

unfoldable pub is_unknown : Entries → List (List ℕ) → Bool
is_unknown m words =
    is_arc_line words && not (is_some (place_of (node_names m) (word_at words 2)) && is_some (place_of (node_names m) (word_at words 3)))

unfoldable pub is_loop : List (List ℕ) → Bool
is_loop words = is_arc_line words && bytes_eq (word_at words 2) (word_at words 3)

-- a line behind the front of the text, in the order of the tests
abbrev pub entry_tests : Scale → Entries → List (List ℕ) → List (Bool × FaultWord)
entry_tests s m words =
    (not (is_node_line words || is_arc_line words), Keyword)
    ∷ (lacks_names words, Name)
    ∷ (lacks_numbers s words, Number)
    ∷ (is_beyond s words, Limit)
    ∷ (is_full m words, Limit)
    ∷ (is_misshapen s words, Shape)
    ∷ (has_fall (line_items s words), Order)
    ∷ (is_twice m words, Twice)
    ∷ (is_unknown m words, Unknown)
    ∷ (is_loop words, Loop)
    ∷ []

-- ---- the front of a text: `network 1`, or `network 2` and then `decimals F T`

-- a word of one digit
abbrev pub digit_word : ℕ → List ℕ
digit_word digit = (48 + digit) ∷ []

unfoldable pub is_header : ℕ → List (List ℕ) → Bool
is_header version words =
    length words == 2 && bytes_eq (word_at words 0) (codes "network") && bytes_eq (word_at words 1) (digit_word version)

-- the digit that the word is, where it is one and not too great
abbrev pub decimals_of : List ℕ → Option ℕ
decimals_of [] = None
decimals_of (b ∷ []) = if nat_le 48 b && nat_le b (48 + decimals_most) then Some (b - 48) else None
decimals_of (b ∷ c ∷ word) = None

abbrev pub scale_by : Option ℕ → Option ℕ → Option Scale
scale_by (Some flow) (Some tension) = Some (with_decimals flow tension)
scale_by (Some flow) None = None
scale_by None tension = None

unfoldable pub scale_of : List (List ℕ) → Option Scale
scale_of words =
    if length words == 3 && bytes_eq (word_at words 0) (codes "decimals")
    then scale_by (decimals_of (word_at words 1)) (decimals_of (word_at words 2)) else None

-- ---- what lines make

-- nothing yet; `network 2`, which awaits its decimals; or a model with its scale
pub data Progress : Type 0 where
  nothing : Progress
  front : Progress
  made : Scale → Entries → Progress

abbrev pub behind_front : Option Scale → Progress
behind_front (Some s) = made s no_entries
behind_front None = front

unfoldable pub with_words : Progress → List (List ℕ) → Progress
with_words nothing words = if is_header 1 words then made plain no_entries else (if is_header 2 words then front else nothing)
with_words front words = behind_front (scale_of words)
with_words (made s m) words = made s (with_line s m words)

unfoldable pub progress_of : List (List ℕ) → Progress
progress_of lines = fold (λ progress line. with_words progress (line_words line)) nothing lines

abbrev pub is_made : Progress → Bool
is_made nothing = false
is_made front = false
is_made (made s m) = true

unfoldable pub has_words : List ℕ → Bool
has_words line = not (length (line_words line) == 0)

-- the tests of a line's words, by what the lines before it have made
abbrev pub words_tests : Progress → List (List ℕ) → List (Bool × FaultWord)
words_tests nothing words = (not (is_header 1 words || is_header 2 words), Header) ∷ []
words_tests front words = (is_none (scale_of words), Header) ∷ []
words_tests (made s m) words = entry_tests s m words

-- a line without words is tested for its bytes alone
unfoldable pub line_tests : Progress → List ℕ → List (Bool × FaultWord)
line_tests progress line =
    (not (is_utf8 line), Utf8) ∷ (if has_words line then words_tests progress (line_words line) else [])

-- the word of the first test that the line fails
abbrev pub first_fault : List (Bool × FaultWord) → Option FaultWord
first_fault [] = None
first_fault ((fails, word) ∷ rest) = if fails then Some word else first_fault rest

-- a line is tested against what the lines before it have made
unfoldable pub fault_at : List (List ℕ) → ℕ → Option FaultWord
fault_at lines k = first_fault (line_tests (progress_of (take k lines)) (slice_index_or lines k []))

-- ---- the text

abbrev pub NoFaultBefore : List (List ℕ) → ℕ → Type 0
NoFaultBefore lines n = (k : ℕ) → k < n → fault_at lines k ≡ None

-- the text spells the model at the scale: no line fails a test, and its lines make the model
pub record Spells (text : List ℕ) (s : Scale) (m : Entries) : Type 0 where
  pub no_fault : NoFaultBefore (text_lines text) (length (text_lines text))
  pub is : progress_of (text_lines text) ≡ made s m

-- the first bad line, counted from 1, and its first word; a text without its whole front lacks that after the last line
pub data IsFirstFault (text : List ℕ) : ℕ → FaultWord → Type 0 where
  bad_line : {k : ℕ} {word : FaultWord} → k < length (text_lines text) → NoFaultBefore (text_lines text) k
      → fault_at (text_lines text) k ≡ Some word → IsFirstFault text (k + 1) word
  no_front : is_made (progress_of (text_lines text)) ≡ false → NoFaultBefore (text_lines text) (length (text_lines text))
      → IsFirstFault text (length (text_lines text) + 1) Header
