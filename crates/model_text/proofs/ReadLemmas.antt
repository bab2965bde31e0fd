-- The tests of one line, by what the reader asks in turn.
use Rattle.std.specs.Prelude.{◌≡◌, ◌≢◌, ℕ, ◌+◌, ◌-◌, ◌<◌, ◌≤◌, ◌==◌, nat_le, Bool, true, false, ◌&&◌, if◌then◌else◌, Option, None, Some, Result, Ok, Err, OnOk, is_ok, MatchResult, List, [], ◌∷◌, length, codes, refl}
use Rattle.std.specs.Borrow.{Bor}
use Rattle.std.specs.Str.{bytes_eq, is_utf8, IsUtf8}
use Rattle.std.proofs.Common.{arith, get_or, ◌∙◌, sym, ap, subst}
use Rattle.std.proofs.lemmas.Bool.Decides.{nat_tests}
use Rattle.std.proofs.lemmas.List.{length-map}
use Rattle.std.proofs.lemmas.Str.{IsUtf8-from_is_utf8, is_utf8-from_IsUtf8}
use Rattle.theory.specs.Grounded.{Entries}
use Rattle.model_text.specs.declared.fault.FaultWord.{FaultWord}
use Rattle.model_text.specs.declared.fault.FaultWord.TheVariants.{Utf8}
use Rattle.model_text.specs.declared.fault.PartFault.{PartFault}
use Rattle.model_text.specs.declared.fault.PartFault.TheVariants.{Word, NoMemory}
use Rattle.model_text.specs.Lines.{line_words, text_lines}
use Rattle.model_text.specs.Reading.{IsRightError, error_at, progress_at, first_stage}
use Rattle.model_text.specs.declared.read.Stage.{Stage}
use Rattle.model_text.specs.declared.read.Stage.TheVariants.{Nothing, Front, Made}
use Rattle.model_text.specs.Model.{no_entries}
use Rattle.model_text.specs.ModelText.{Progress, nothing, front, made, first_fault, line_tests, words_tests, has_words, is_header, scale_of, scale_by, decimals_of, digit_word, with_line, with_words, is_node_line, is_arc_line, word_at, fault_at, NoFaultBefore, bad_line}
use Rattle.model_text.specs.LineParts.{texts, Passes}
use Rattle.model_text.proofs.LineLemmas.{nothing as nothing_read}
use Rattle.model_text.specs.Scale.{IsScale, decimals_most, plain, with_decimals}
use Rattle.model_text.specs.declared.scale.Scale.{Scale}
use Rattle.model_text.proofs.ListTests.{false-unless}

-- ---- the header

pub header-is : (version : ℕ) (words : List (Bor (List ℕ))) → length words ≡ 2
    → is_header version (texts words) ≡ (bytes_eq (get_or words 0 nothing_read).now (codes "network") && bytes_eq (get_or words 1 nothing_read).now (digit_word version))
unfolding is_header
header-is version [] two = absurd (omega arith)
header-is version (a ∷ []) two = absurd (omega arith)
header-is version (a ∷ b ∷ []) two = refl
header-is version (a ∷ b ∷ c ∷ words) two = absurd (omega arith)

pub no_header : (version : ℕ) (words : List (Bor (List ℕ))) → length words ≢ 2 → is_header version (texts words) ≡ false
unfolding is_header
no_header version words other =
    let count : (length (texts words) == 2) ≡ false = rw (length-map words (λ word. word.now)) (grind (arith, nat_tests)) in
    rw count refl

-- ---- the decimals

pub scale-is : (words : List (Bor (List ℕ))) → length words ≡ 3 → bytes_eq (get_or words 0 nothing_read).now (codes "decimals") ≡ true
    → scale_of (texts words) ≡ scale_by (decimals_of (get_or words 1 nothing_read).now) (decimals_of (get_or words 2 nothing_read).now)
unfolding scale_of
scale-is [] three keyword = absurd (omega arith)
scale-is (a ∷ []) three keyword = absurd (omega arith)
scale-is (a ∷ b ∷ []) three keyword = absurd (omega arith)
scale-is (a ∷ b ∷ c ∷ []) three keyword = rw keyword refl
scale-is (a ∷ b ∷ c ∷ e ∷ words) three keyword = absurd (omega arith)

module _ (words : List (Bor (List ℕ))) (three : length words ≡ 3) (keyword : bytes_eq (get_or words 0 nothing_read).now (codes "decimals") ≡ true) where
  pub first-none : decimals_of (get_or words 1 nothing_read).now ≡ None → scale_of (texts words) ≡ None
  first-none none = scale-is words three keyword ∙ rw none refl

  pub second-none : (flow : ℕ) → decimals_of (get_or words 1 nothing_read).now ≡ Some flow → decimals_of (get_or words 2 nothing_read).now ≡ None
      → scale_of (texts words) ≡ None
  second-none flow first none = scale-is words three keyword ∙ rw (first, none) refl

  pub both-there : (flow tension : ℕ) → decimals_of (get_or words 1 nothing_read).now ≡ Some flow → decimals_of (get_or words 2 nothing_read).now ≡ Some tension
      → scale_of (texts words) ≡ Some (with_decimals flow tension)
  both-there flow tension first second = scale-is words three keyword ∙ rw (first, second) refl

pub no-scale-word : (words : List (Bor (List ℕ))) → length words ≡ 3 → bytes_eq (get_or words 0 nothing_read).now (codes "decimals") ≡ false
    → scale_of (texts words) ≡ None
unfolding scale_of
no-scale-word [] three other = absurd (omega arith)
no-scale-word (a ∷ []) three other = absurd (omega arith)
no-scale-word (a ∷ b ∷ []) three other = absurd (omega arith)
no-scale-word (a ∷ b ∷ c ∷ []) three other = rw other refl
no-scale-word (a ∷ b ∷ c ∷ e ∷ words) three other = absurd (omega arith)

pub no-scale-count : (words : List (Bor (List ℕ))) → length words ≢ 3 → scale_of (texts words) ≡ None
unfolding scale_of
no-scale-count words other =
    let count : (length (texts words) == 3) ≡ false = rw (length-map words (λ word. word.now)) (grind (arith, nat_tests)) in
    rw count refl

pub decimals-none : (word : List ℕ) → length word ≢ 1 → decimals_of word ≡ None
decimals-none [] other = refl
decimals-none (b ∷ []) other = absurd (other refl)
decimals-none (b ∷ c ∷ word) other = refl

pub decimals-is : (word : List ℕ) → length word ≡ 1
    → decimals_of word ≡ (if nat_le 48 (get_or word 0 0) && nat_le (get_or word 0 0) (48 + decimals_most) then Some (get_or word 0 0 - 48) else None)
decimals-is [] one = absurd (omega arith)
decimals-is (b ∷ []) one = refl
decimals-is (b ∷ c ∷ word) one = absurd (omega arith)

pub decimals-few : (word : List ℕ) (n : ℕ) → decimals_of word ≡ Some n → n ≤ decimals_most
decimals-few [] n is = cc
decimals-few (b ∷ []) n is = by (nat_le 48 b) (nat_le b (48 + decimals_most)) refl is
  where
    by : (least most : Bool) → nat_le b (48 + decimals_most) ≡ most → ◌≡◌ {A = Option ℕ} (if least && most then Some (b - 48) else None) (Some n) → n ≤ decimals_most
    by true true bounded found = let same : b - 48 ≡ n = cc in grind (arith, nat_tests)
    by true false bounded found = cc
    by false most bounded found = cc
decimals-few (b ∷ c ∷ word) n is = cc

pub decimals-valid : (flow tension : ℕ) → flow ≤ decimals_most → tension ≤ decimals_most → IsScale (with_decimals flow tension)
decimals-valid flow tension few also =
    let one : nat_le flow decimals_most ≡ true = grind (arith, nat_tests) in
    let two : nat_le tension decimals_most ≡ true = grind (arith, nat_tests) in
    rw (one, two) refl

pub scale-valid : (words : List (List ℕ)) (s : Scale) → scale_of words ≡ Some s → IsScale s
unfolding scale_of
scale-valid words s is = by (length words == 3 && bytes_eq (word_at words 0) (codes "decimals")) (decimals_of (word_at words 1)) (decimals_of (word_at words 2)) refl refl is
  where
    by : (told : Bool) (flow tension : Option ℕ) → decimals_of (word_at words 1) ≡ flow → decimals_of (word_at words 2) ≡ tension
        → ◌≡◌ {A = Option Scale} (if told then scale_by flow tension else None) (Some s) → IsScale s
    by true (Some flow) (Some tension) first second is =
        let same : with_decimals flow tension ≡ s = cc in
        subst IsScale same (decimals-valid flow tension (decimals-few (word_at words 1) flow first) (decimals-few (word_at words 2) tension second))
    by true (Some flow) None first second is = cc
    by true None tension first second is = cc
    by false flow tension first second is = cc

-- ---- a line, as far as it is tested

module _ (progress : Progress) (line : List ℕ) where
  pub not_text : is_utf8 line ≡ false → first_fault (line_tests progress line) ≡ Some Utf8
  unfolding line_tests
  not_text text = rw text refl

  pub blank : is_utf8 line ≡ true → has_words line ≡ false → first_fault (line_tests progress line) ≡ None
  unfolding line_tests
  blank text words = rw (text, words) refl

  pub goes_on : is_utf8 line ≡ true → has_words line ≡ true → first_fault (line_tests progress line) ≡ first_fault (words_tests progress (line_words line))
  unfolding line_tests
  goes_on text words = rw (text, words) refl

-- ---- lines that add nothing

adds-nothing : (s : Scale) (m : Entries) (words : List (List ℕ)) → is_node_line words ≡ false → is_arc_line words ≡ false → with_line s m words ≡ m
unfolding with_line
adds-nothing s m words node arc = rw (node, arc) refl

pub blank_adds : (progress : Progress) (words : List (List ℕ)) → length words ≡ 0 → with_words progress words ≡ progress
unfolding with_words is_node_line is_arc_line is_header scale_of
blank_adds nothing [] none = refl
blank_adds front [] none = refl
blank_adds (made s m) [] none = ap (made s) (adds-nothing s m [] refl refl)
blank_adds progress (word ∷ words) none = absurd (omega arith)

-- ---- what a line adds, as the reader keeps it

pub first-adds : (words : List (List ℕ)) (stage : Stage) (s : Scale) (m : Entries) → first_stage words ≡ Some stage → s ≡ plain → m ≡ no_entries
    → progress_at stage s m ≡ with_words nothing words
unfolding with_words
first-adds words stage s m is scale entries = rw (scale, entries) (by (is_header 1 words) (is_header 2 words) stage is)
  where
    by : (one two : Bool) (stage : Stage) → ◌≡◌ {A = Option Stage} (if one then Some Made else (if two then Some Front else None)) (Some stage)
        → progress_at stage plain no_entries ≡ (if one then made plain no_entries else (if two then front else nothing))
    by true two Made is = refl
    by true two Front is = cc
    by true two Nothing is = cc
    by false true Front is = refl
    by false true Made is = cc
    by false true Nothing is = cc
    by false false stage is = cc

pub scale-adds : (words : List (List ℕ)) (t s : Scale) (m : Entries) → scale_of words ≡ Some t → s ≡ t → m ≡ no_entries
    → made s m ≡ with_words front words
unfolding with_words
scale-adds words t s m is scale entries = rw (is, scale, entries) refl

pub entry-adds : {A E : Type 0} (r : Result A E) (words : List (List ℕ)) (s t : Scale) (m n : Entries) → OnOk r (n ≡ with_line s m words) → t ≡ s
    → OnOk r (made t n ≡ with_words (made s m) words)
unfolding with_words
entry-adds (Ok x) words s t m n is scale = rw (is, scale) refl
entry-adds (Err e) words s t m n is scale = tt

pub told_text : {A E : Type 0} (bs : List ℕ) (P : A → Type 0) (Q : E → Type 0) (answer : Result A E) → MatchResult answer (λ s. P s × IsUtf8 bs) (λ e. (¬ (IsUtf8 bs)) × Q e)
    → is_ok answer ≡ is_utf8 bs
told_text bs P Q (Ok s) told = sym (is_utf8-from_IsUtf8 bs told.1)
told_text bs P Q (Err e) told = sym (false-unless (is_utf8 bs) (λ yes. told.0 (IsUtf8-from_is_utf8 bs yes)))

pub no-words : (line : List ℕ) → length (line_words line) ≡ 0 → has_words line ≡ false
unfolding has_words
no-words line none = rw none refl

pub some-words : (line : List ℕ) → 0 < length (line_words line) → has_words line ≡ true
unfolding has_words
some-words line some = let other : (length (line_words line) == 0) ≡ false = grind (arith, nat_tests) in rw other refl

-- a result that passes tests passes others with the same first fault
pub passes-same : {A : Type 0} (tests others : List (Bool × FaultWord)) → first_fault tests ≡ first_fault others
    → (answer : Result A PartFault) → Passes others answer → Passes tests answer
passes-same tests others same (Ok value) passed = same ∙ passed
passes-same tests others same (Err (Word word)) passed = same ∙ passed
passes-same tests others same (Err NoMemory) passed = tt

-- a refused line is the first bad line, where those before it are not
pub right_error : (text : List ℕ) (k : ℕ) (refusal : PartFault) (tests : List (Bool × FaultWord)) → k < length (text_lines text) → NoFaultBefore (text_lines text) k
    → fault_at (text_lines text) k ≡ first_fault tests → Passes {A = Unit {0}} tests (Err refusal) → IsRightError text (error_at (k + 1) refusal)
right_error text k (Word word) tests here before fault told = bad_line here before (fault ∙ told)
right_error text k NoMemory tests here before fault told = tt
