-- The tests of one line, by what the reader asks in turn, and the lines so far with one line more.
use Rattle.std.specs.Prelude.{◌≡◌, ◌≢◌, ℕ, ◌+◌, ◌<◌, ◌==◌, Bool, true, false, not, ◌&&◌, ◌||◌, if◌then◌else◌, None, Some, Result, Ok, Err, List, [], ◌∷◌, ◌++◌, length, take, drop, codes, refl}
use Rattle.std.specs.Borrow.{Bor}
use Rattle.std.specs.List.{list_any, fold}
use Rattle.std.specs.Str.{bytes_eq, is_utf8}
use Rattle.std.proofs.Common.{arith, get_or, ◌∙◌, sym, ap}
use Rattle.std.proofs.lemmas.Bool.Decides.{nat_tests}
use Rattle.std.proofs.lemmas.Grind.{fold-append}
use Rattle.std.proofs.lemmas.List.{length-map}
use Rattle.std.proofs.lemmas.Slice.Eq.{bytes_eq-Decides}
use Rattle.model_text.specs.Lines.{line_words, text_lines}
use Rattle.model_text.specs.LineParts.{texts}
use Rattle.model_text.specs.ModelText.{has_words, word_at}
use Rattle.model_text.proofs.LineLemmas.{nothing}
use Rattle.model_text.proofs.LinesLemmas.{line-is, front-after}
use Rattle.transport_front.specs.declared.fault.TableWord.{TableWord}
use Rattle.transport_front.specs.declared.fault.TableWord.TheVariants.{Utf8, Header}
use Rattle.transport_front.specs.declared.fault.Refusal.{Refusal}
use Rattle.transport_front.specs.declared.fault.Refusal.TheVariants.{Fault, NoMemory}
use Rattle.transport_front.specs.Table.{Table}
use Rattle.transport_front.specs.TableText.{first_fault, line_tests, entry_tests, is_header, with_line, is_plant_line, is_shop_line, is_lane_line, no_table, table_of, fault_at, NoFaultBefore, bad_line}
use Rattle.transport_front.specs.Reading.{Passes, IsRightError, error_at}

-- ---- the header

pub header-is : (words : List (Bor (List ℕ))) → length words ≡ 2
    → is_header (texts words) ≡ (bytes_eq (get_or words 0 nothing).now (codes "transport") && bytes_eq (get_or words 1 nothing).now (codes "1"))
unfolding is_header
header-is [] two = absurd (omega arith)
header-is (a ∷ []) two = absurd (omega arith)
header-is (a ∷ b ∷ []) two = refl
header-is (a ∷ b ∷ c ∷ words) two = absurd (omega arith)

pub no_header : (words : List (Bor (List ℕ))) → length words ≢ 2 → is_header (texts words) ≡ false
unfolding is_header
no_header words other =
    let count : (length (texts words) == 2) ≡ false = rw (length-map words (λ word. word.now)) (grind (arith, nat_tests)) in
    rw count refl

-- ---- a line, as far as it is tested

module _ (begun : Bool) (t : Table) (line : List ℕ) where
  pub not_text : is_utf8 line ≡ false → first_fault (line_tests begun t line) ≡ Some Utf8
  unfolding line_tests
  not_text text = rw text refl

  pub blank : is_utf8 line ≡ true → has_words line ≡ false → first_fault (line_tests begun t line) ≡ None
  unfolding line_tests
  blank text words = rw (text, words) refl

  pub begins : is_utf8 line ≡ true → has_words line ≡ true → begun ≡ false
      → first_fault (line_tests begun t line) ≡ (if not (is_header (line_words line)) then Some Header else None)
  unfolding line_tests
  begins text words first = rw (text, words, first) refl

  pub goes_on : is_utf8 line ≡ true → has_words line ≡ true → begun ≡ true
      → first_fault (line_tests begun t line) ≡ first_fault (entry_tests t (line_words line))
  unfolding line_tests
  goes_on text words later = rw (text, words, later) refl

-- ---- lines that add nothing

adds-nothing : (t : Table) (words : List (List ℕ)) → is_plant_line words ≡ false → is_shop_line words ≡ false → is_lane_line words ≡ false → with_line t words ≡ t
unfolding with_line
adds-nothing t words one two three = rw (one, two, three) refl

pub blank_adds : (t : Table) (words : List (List ℕ)) → length words ≡ 0 → with_line t words ≡ t
unfolding is_plant_line is_shop_line is_lane_line
blank_adds t [] none = adds-nothing t [] refl refl refl
blank_adds t (word ∷ words) none = absurd (omega arith)

and-front : (a b c : Bool) → (a && b && c) ≡ true → b ≡ true
and-front true true c all = refl
and-front true false c all = cc
and-front false b c all = cc

pub header_adds : (t : Table) (words : List (List ℕ)) → is_header words ≡ true → with_line t words ≡ t
unfolding is_header is_plant_line is_shop_line is_lane_line
header_adds t words header =
    let keyword = (bytes_eq-Decides (word_at words 0) (codes "transport")).0 (and-front (length words == 2) _ _ header) in
    adds-nothing t words (rw keyword refl) (rw keyword refl) (rw keyword refl)

-- a refused line is the first bad line, where those before it are not
pub right_error : (text : List ℕ) (k : ℕ) (refusal : Refusal) (tests : List (Bool × TableWord)) → k < length (text_lines text) → NoFaultBefore (text_lines text) k
    → fault_at (text_lines text) k ≡ first_fault tests → Passes {A = Unit {0}} tests (Err refusal) → IsRightError text (error_at (k + 1) refusal)
right_error text k (Fault word) tests here before fault told = bad_line here before (fault ∙ told)
right_error text k NoMemory tests here before fault told = tt

-- ---- the line at a place, and what the lines make with it

module _ (lines : List (List ℕ)) (k : ℕ) (line : List ℕ) (others : List (List ℕ)) (left : drop k lines ≡ line ∷ others) where
  pub table-after : table_of (take (k + 1) lines) ≡ with_line (table_of (take k lines)) (line_words line)
  unfolding table_of
  table-after =
      ap (fold (λ t l. with_line t (line_words l)) no_table) (front-after lines k line others left)
      ∙ fold-append (λ t l. with_line t (line_words l)) no_table (take k lines) (line ∷ [])

  pub fault-here : fault_at lines k ≡ first_fault (line_tests (list_any has_words (take k lines)) (table_of (take k lines)) line)
  unfolding fault_at
  fault-here = rw (line-is lines k line others left) refl
