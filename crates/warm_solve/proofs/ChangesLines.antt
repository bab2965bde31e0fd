-- The tests of one line of a changes text, by what the reader asks in turn, and the changes of the lines so far with one line more.
use Rattle.std.specs.Prelude.{◌≡◌, ◌≢◌, ℕ, ◌+◌, ◌<◌, ◌-◌, ◌==◌, Bool, true, false, not, ◌&&◌, if◌then◌else◌, Option, None, Some, Result, Ok, Err, List, [], ◌∷◌, ◌++◌, length, take, drop, codes, refl}
use Rattle.std.specs.Borrow.{Bor}
use Rattle.std.specs.List.{list_any, flat_map, enumerate_from}
use Rattle.std.specs.Str.{bytes_eq, is_utf8}
use Rattle.std.proofs.Common.{arith, get_or, ◌∙◌, sym, ap, length-take}
use Rattle.std.proofs.lemmas.Bool.Decides.{nat_tests}
use Rattle.std.proofs.lemmas.Grind.{flat_map-append}
use Rattle.std.proofs.lemmas.List.{length-map, append-nil, take_rest, drop-map}
use Rattle.std.proofs.lemmas.Slice.Eq.{bytes_eq-Decides}
use Rattle.theory.specs.Grounded.{Entries}
use Rattle.model_text.specs.declared.fault.FaultWord.{FaultWord}
use Rattle.model_text.specs.declared.fault.FaultWord.TheVariants.{Utf8, Header, Keyword, Number, Limit, Shape, Order}
use Rattle.model_text.specs.declared.fault.PartFault.{PartFault}
use Rattle.model_text.specs.declared.scale.Scale.{Scale}
use Rattle.model_text.specs.declared.fault.PartFault.TheVariants.{Word, NoMemory}
use Rattle.model_text.specs.Lines.{line_words, text_lines}
use Rattle.model_text.specs.LineParts.{texts, Passes}
use Rattle.model_text.specs.ModelText.{has_words, word_at, first_fault, is_node_line, is_arc_line, part_tests, part_items, part_lacks_numbers, part_is_beyond, are_misshapen, has_fall}
use Rattle.model_text.proofs.LineLemmas.{nothing}
use Rattle.model_text.proofs.LinesLemmas.{line-is, front-after, here}
use Rattle.model_text.proofs.ReadLemmas.{passes-same}
use Rattle.model_text.proofs.SoundLines.{passes}
use Rattle.warm_solve.specs.ChangesText.{line_tests, entry_tests, named_tests, curve_tests, part_of, is_header, changes_in, change_of, changes_of, fault_at, NoFaultBefore, bad_line}
use Rattle.warm_solve.specs.ChangesReading.{IsRightError, error_at, has_numbers}

-- ---- the header

pub header-is : (words : List (Bor (List ℕ))) → length words ≡ 2
    → is_header (texts words) ≡ (bytes_eq (get_or words 0 nothing).now (codes "changes") && bytes_eq (get_or words 1 nothing).now (codes "1"))
unfolding is_header
header-is [] two = absurd (omega arith)
header-is (a ∷ []) two = absurd (omega arith)
header-is (a ∷ b ∷ []) two = refl
header-is (a ∷ b ∷ c ∷ words) two = absurd (omega arith)

pub no_header : (words : List (Bor (List ℕ))) → length words ≢ 2 → is_header (texts words) ≡ false
unfolding is_header
no_header words other =
    let count : (length (texts words) == 2) ≡ false = rw (length-map words (λ word. word.now)) (grind (arith, nat_tests)) in
    rw count refl

-- ---- a line, as far as it is tested

module _ (s : Scale) (m : Entries) (begun : Bool) (count : ℕ) (line : List ℕ) where
  pub not_text : is_utf8 line ≡ false → first_fault (line_tests s m begun count line) ≡ Some Utf8
  unfolding line_tests
  not_text text = rw text refl

  pub blank : is_utf8 line ≡ true → has_words line ≡ false → first_fault (line_tests s m begun count line) ≡ None
  unfolding line_tests
  blank text words = rw (text, words) refl

  pub begins : is_utf8 line ≡ true → has_words line ≡ true → begun ≡ false
      → first_fault (line_tests s m begun count line) ≡ (if not (is_header (line_words line)) then Some Header else None)
  unfolding line_tests
  begins text words first = rw (text, words, first) refl

  pub goes_on : is_utf8 line ≡ true → has_words line ≡ true → begun ≡ true
      → first_fault (line_tests s m begun count line) ≡ first_fault (entry_tests s m count (line_words line))
  unfolding line_tests
  goes_on text words later = rw (text, words, later) refl

module _ (s : Scale) (m : Entries) (count : ℕ) (words : List (List ℕ)) where
  pub of_node : is_node_line words ≡ true → first_fault (entry_tests s m count words) ≡ first_fault (named_tests s m true count words)
  unfolding entry_tests
  of_node node = rw node refl

  pub of_arc : is_node_line words ≡ false → is_arc_line words ≡ true → first_fault (entry_tests s m count words) ≡ first_fault (named_tests s m false count words)
  unfolding entry_tests
  of_arc node arc = rw (node, arc) refl

  pub of_none : is_node_line words ≡ false → is_arc_line words ≡ false → first_fault (entry_tests s m count words) ≡ Some Keyword
  unfolding entry_tests
  of_none node arc = rw (node, arc) refl

-- ---- what a line adds

module _ (s : Scale) (m : Entries) (line : ℕ) (words : List (List ℕ)) where
  pub node_changes : is_node_line words ≡ true → changes_in s m line words ≡ change_of s m true line words ∷ []
  unfolding changes_in
  node_changes node = rw node refl

  pub arc_changes : is_node_line words ≡ false → is_arc_line words ≡ true → changes_in s m line words ≡ change_of s m false line words ∷ []
  unfolding changes_in
  arc_changes node arc = rw (node, arc) refl

  pub changes_nothing : is_node_line words ≡ false → is_arc_line words ≡ false → changes_in s m line words ≡ []
  unfolding changes_in
  changes_nothing node arc = rw (node, arc) refl

pub blank_adds : (s : Scale) (m : Entries) (line : ℕ) (words : List (List ℕ)) → length words ≡ 0 → changes_in s m line words ≡ []
unfolding is_node_line is_arc_line
blank_adds s m line [] none = changes_nothing s m line [] refl refl
blank_adds s m line (word ∷ words) none = absurd (omega arith)

and-front : (a b c : Bool) → (a && b && c) ≡ true → b ≡ true
and-front true true c all = refl
and-front true false c all = cc
and-front false b c all = cc

pub header_adds : (s : Scale) (m : Entries) (line : ℕ) (words : List (List ℕ)) → is_header words ≡ true → changes_in s m line words ≡ []
unfolding is_header is_node_line is_arc_line
header_adds s m line words header =
    let keyword = (bytes_eq-Decides (word_at words 0) (codes "changes")).0 (and-front (length words == 2) _ _ header) in
    changes_nothing s m line words (rw keyword refl) (rw keyword refl)

-- a refused line is the first bad line, where those before it are not
pub right_error : (s : Scale) (m : Entries) (text : List ℕ) (k : ℕ) (refusal : PartFault) (tests : List (Bool × FaultWord)) → k < length (text_lines text)
    → NoFaultBefore s m (text_lines text) k → fault_at s m (text_lines text) k ≡ first_fault tests → Passes {A = Unit {0}} tests (Err refusal)
    → IsRightError s m text (error_at (k + 1) refusal)
right_error s m text k (Word word) tests within before fault told = bad_line within before (fault ∙ told)
right_error s m text k NoMemory tests within before fault told = tt

-- ---- the line at a place, and what the lines make with it

enumerate_more : (n : ℕ) (lines : List (List ℕ)) (line : List ℕ) → enumerate_from n (lines ++ line ∷ []) ≡ enumerate_from n lines ++ (n + length lines, line) ∷ []
enumerate_more n [] line = let same : n ≡ n + 0 = omega arith in ap (λ k. (k, line) ∷ []) same
enumerate_more n (first ∷ lines) line =
    let same : n + 1 + length lines ≡ n + length (first ∷ lines) = omega arith in
    ap (λ rest. (n, first) ∷ rest) (enumerate_more (n + 1) lines line ∙ ap (λ k. enumerate_from (n + 1) lines ++ (k, line) ∷ []) same)

module _ (s : Scale) (m : Entries) (lines : List (List ℕ)) (k : ℕ) (line : List ℕ) (others : List (List ℕ)) (left : drop k lines ≡ line ∷ others) where
  pub changes-after : changes_of s m (take (k + 1) lines) ≡ changes_of s m (take k lines) ++ changes_in s m (k + 1) (line_words line)
  unfolding changes_of
  changes-after =
      let within = here lines k line others left in
      let number : 1 + length (take k lines) ≡ k + 1 = omega (arith, length-take k lines) in
      ap (λ some. changes_of s m some) (front-after lines k line others left)
      ∙ ap (flat_map (λ numbered. changes_in s m numbered.0 (line_words numbered.1))) (enumerate_more 1 (take k lines) line)
      ∙ flat_map-append (λ numbered. changes_in s m numbered.0 (line_words numbered.1)) (enumerate_from 1 (take k lines)) ((1 + length (take k lines), line) ∷ [])
      ∙ ap (λ rest. flat_map (λ numbered. changes_in s m numbered.0 (line_words numbered.1)) (enumerate_from 1 (take k lines)) ++ rest)
      (append-nil (changes_in s m (1 + length (take k lines)) (line_words line)) ∙ ap (λ n. changes_in s m n (line_words line)) number)

  pub fault-here : fault_at s m lines k ≡ first_fault (line_tests s m (list_any has_words (take k lines)) (length (changes_of s m (take k lines))) line)
  unfolding fault_at
  fault-here = rw (line-is lines k line others left) refl

-- ---- the keyword of a line, and what stands behind the name

pub node_line-is : (words : List (List ℕ)) → is_node_line words ≡ bytes_eq (word_at words 0) (codes "node")
unfolding is_node_line
node_line-is words = refl

pub arc_line-is : (words : List (List ℕ)) → is_arc_line words ≡ bytes_eq (word_at words 0) (codes "arc")
unfolding is_arc_line
arc_line-is words = refl

pub part-is : (words : List (Bor (List ℕ))) → texts (take (length words - 2) (drop 2 words)) ≡ part_of (texts words)
part-is words = ap texts (take_rest words 2) ∙ sym (drop-map (λ word. word.now) 2 words)

pub no_part : (words : List (Bor (List ℕ))) → length words < 2 → part_of (texts words) ≡ []
no_part [] short = refl
no_part (a ∷ []) short = refl
no_part (a ∷ b ∷ words) short = absurd (omega arith)

-- ---- a refusal stands where the tests before it pass, whatever comes behind it

refused-first : (tests others : List (Bool × FaultWord)) (word : FaultWord) → first_fault tests ≡ Some word → first_fault (tests ++ others) ≡ Some word
refused-first [] others word is = cc
refused-first ((true, first) ∷ tests) others word is = is
refused-first ((false, first) ∷ tests) others word is = refused-first tests others word is

behind : (A B : Type 0) (lacks : Bool) (before : FaultWord) (tests others : List (Bool × FaultWord)) (refusal : PartFault) → lacks ≡ false
    → Passes {A = A} tests (Err refusal) → Passes {A = B} ((lacks, before) ∷ tests ++ others) (Err refusal)
behind A B lacks before tests others (Word word) none refused = rw none (refused-first tests others word refused)
behind A B lacks before tests others NoMemory none refused = tt

pub refused-behind : {A B : Type 0} (lacks : Bool) (before : FaultWord) (tests others : List (Bool × FaultWord)) (refusal : PartFault)
    (read : Result A PartFault) (answer : Result B PartFault) → read ≡ Err refusal → answer ≡ Err refusal → lacks ≡ false → Passes tests read
    → Passes ((lacks, before) ∷ tests ++ others) answer
refused-behind {A} {B} lacks before tests others refusal read answer is told none refused =
    rw told (behind A B lacks before tests others refusal none (rw is at refused))

-- ---- the tests of a curve, where there may be no room

number_first : (lacks : Bool) (others : Option FaultWord) (word : FaultWord) → has_numbers {A = Unit {0}} (Err (Word word)) ≡ true
    → (if lacks then Some Number else others) ≡ Some word → lacks ≡ false
number_first false others word numbers is = refl
number_first true others Number numbers is = cc
number_first true others word numbers is = cc

limited : (lacks beyond : Bool) (others : Option FaultWord) → lacks ≡ false
    → (if lacks then Some Number else (if beyond then Some Limit else Some Limit)) ≡ Some Limit
limited false true others none = refl
limited false false others none = refl
limited true beyond others none = cc

lacking : (lacks beyond shape fall : Bool) (others : Option FaultWord)
    → (if lacks then Some Number else (if beyond then Some Limit else (if shape then Some Shape else (if fall then Some Order else None)))) ≡ Some Number
    → (if lacks then Some Number else others) ≡ Some Number
lacking true beyond shape fall others is = refl
lacking false true shape fall others is = cc
lacking false false true fall others is = cc
lacking false false false true others is = cc
lacking false false false false others is = cc

module _ (s : Scale) (node : Bool) (part : List (List ℕ)) where
  -- without room the limit is the first fault of words that are numbers
  pub no_room : {A : Type 0} (read : Result A PartFault) → Passes (part_tests s node part) read → has_numbers read ≡ true
      → first_fault (curve_tests s node true part) ≡ Some Limit
  no_room (Ok curve) passed numbers = limited (part_lacks_numbers s part) (part_is_beyond s part) None (passes (part_lacks_numbers s part) _ _ passed).0
  no_room (Err NoMemory) passed numbers = cc
  no_room (Err (Word word)) passed numbers =
      limited (part_lacks_numbers s part) (part_is_beyond s part) None (number_first (part_lacks_numbers s part) _ word numbers passed)

  -- a word that is no number comes first, and with room nothing else is tested
  pub as_read : {A : Type 0} (full : Bool) (read : Result A PartFault) → (full && has_numbers read) ≡ false → Passes (part_tests s node part) read
      → Passes (curve_tests s node full part) read
  as_read false read none passed = passes-same (curve_tests s node false part) (part_tests s node part) refl read passed
  as_read true (Ok curve) none passed = cc
  as_read true (Err NoMemory) none passed = tt
  as_read true (Err (Word Number)) none passed =
      lacking (part_lacks_numbers s part) (part_is_beyond s part) (are_misshapen node (part_items s part)) (has_fall (part_items s part)) _ passed
  as_read true (Err (Word word)) none passed = cc
