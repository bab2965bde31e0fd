-- A printed line: no byte of it ends or cuts it before its own end, and its words are those that were printed.
use Rattle.std.specs.Prelude.{◌≡◌, ℕ, suc, ◌-◌, ◌<◌, ◌==◌, nat_lt, nat_le, Bool, true, false, not, ◌&&◌, List, [], ◌∷◌, ◌++◌, length, map, refl, All}
use Rattle.std.specs.List.{list_all, filter, flat_map, slice_split, position_or_len, before_first}
use Rattle.std.specs.Str.{is_utf8}
use Rattle.std.specs.Str.Lines.{strip_carriage_return}
use Rattle.std.proofs.Common.{arith, ◌∙◌, ap, get_or, append_assoc}
use Rattle.std.proofs.lemmas.Bool.Decides.{nat_tests}
use Rattle.std.proofs.lemmas.List.{take_all, append-nil}
use Rattle.std.proofs.lemmas.List.Splits.{slice_split_at, slice_split_none, length-slice_split}
use Rattle.std.proofs.lemmas.Str.{is_utf8-from_IsUtf8, IsUtf8-from_ascii}
use Rattle.std.proofs.lemmas.Str.Ascii.{IsAscii-from_all}
use Rattle.model_text.specs.Lines.{text_lines, without_empty_end, content, line_words, is_blank}
use Rattle.model_text.specs.Printed.{spaced}
use Rattle.model_text.proofs.LinesLemmas.{end-more}
use Rattle.model_text.proofs.PrintedWords.{IsPlain}
use Rattle.model_text.proofs.FixedNumbers.{is_plain, all-so}
use Rattle.model_text.proofs.SoundLines.{both, all-at}

-- bytes of a printed line: words and the spaces between them
abbrev pub is_clean : ℕ → Bool
is_clean b = nat_le 32 b && nat_lt b 128 && not (b == 35)

plain-clean : (word : List ℕ) → list_all is_plain word ≡ true → list_all is_clean word ≡ true
plain-clean word plain = all-so is_plain is_clean (λ b is. grind (arith, nat_tests)) word plain

all-append : (p : ℕ → Bool) (xs ys : List ℕ) → list_all p xs ≡ true → list_all p ys ≡ true → list_all p (xs ++ ys) ≡ true
all-append p [] ys first second = second
all-append p (x ∷ xs) ys first second =
    let two = both (p x) (list_all p xs) first in
    rw (two.0, all-append p xs ys two.1 second) refl

-- each word is plain
pub data ArePlain : List (List ℕ) → Type 0 where
  no_more : ArePlain []
  one_more : {word : List ℕ} {words : List (List ℕ)} → IsPlain word → ArePlain words → ArePlain (word ∷ words)

pub plain-append : {words others : List (List ℕ)} → ArePlain words → ArePlain others → ArePlain (words ++ others)
plain-append no_more second = second
plain-append (one_more first rest) second = one_more first (plain-append rest second)

spaced-clean : {words : List (List ℕ)} → ArePlain words → list_all is_clean (spaced words) ≡ true
spaced-clean no_more = refl
spaced-clean (one_more {word} {words} plain rest) =
    all-append is_clean (32 ∷ word) (spaced words) (plain-clean word plain.plain) (spaced-clean rest)

pub line-clean : (keyword : List ℕ) {words : List (List ℕ)} → list_all is_clean keyword ≡ true → ArePlain words → list_all is_clean (keyword ++ spaced words) ≡ true
line-clean keyword {words} clean plain = all-append is_clean keyword (spaced words) clean (spaced-clean plain)

-- no byte of the line passes a test that clean bytes fail
none-of : (p : ℕ → Bool) → ((b : ℕ) → is_clean b ≡ true → p b ≡ false) → (line : List ℕ) → list_all is_clean line ≡ true → All (λ b. p b ≡ false) line
none-of p each line clean k d below = each (get_or line k d) (all-at is_clean line clean k d below)

pub clean-text : (line : List ℕ) → list_all is_clean line ≡ true → is_utf8 line ≡ true
clean-text line clean = is_utf8-from_IsUtf8 line (IsUtf8-from_ascii line (IsAscii-from_all line (λ k d below.
    let is = all-at is_clean line clean k d below in grind (arith, nat_tests))))

-- ---- the lines of a printed text

pub line-more : (line rest : List ℕ) → list_all is_clean line ≡ true → text_lines (line ++ 10 ∷ rest) ≡ line ∷ text_lines rest
unfolding text_lines
line-more line rest clean =
    ap without_empty_end (slice_split_at (λ b. b == 10) line 10 rest (none-of (λ b. b == 10) (λ b is. grind (arith, nat_tests)) line clean) refl)
    ∙ end-more line (slice_split (λ b. b == 10) rest) (omega (arith, length-slice_split (λ b. b == 10) rest))

pub lines-more : {A : Type 0} (line : A → List ℕ) (xs : List A) (rest : List ℕ) → ((k : ℕ) (d : A) → k < length xs → list_all is_clean (line (get_or xs k d)) ≡ true)
    → text_lines (flat_map (λ x. line x ++ 10 ∷ []) xs ++ rest) ≡ map line xs ++ text_lines rest
lines-more line [] rest clean = refl
lines-more line (x ∷ xs) rest clean =
    ap text_lines (append_assoc (line x ++ 10 ∷ []) (flat_map (λ x. line x ++ 10 ∷ []) xs) rest ∙ append_assoc (line x) (10 ∷ []) (flat_map (λ x. line x ++ 10 ∷ []) xs ++ rest))
    ∙ line-more (line x) (flat_map (λ x. line x ++ 10 ∷ []) xs ++ rest) (clean 0 x (omega arith))
    ∙ ap (λ lines. line x ∷ lines) (lines-more line xs rest (λ k d below. clean (suc k) d (omega arith)))

-- ---- the words of a printed line

last-clean : (line : List ℕ) → list_all is_clean line ≡ true → (get_or line (length line - 1) 0 == 13) ≡ false
last-clean [] clean = refl
last-clean (b ∷ line) clean = let is = all-at is_clean (b ∷ line) clean (length (b ∷ line) - 1) 0 (omega arith) in grind (arith, nat_tests)

none-first : (p : ℕ → Bool) (line : List ℕ) → All (λ b. p b ≡ false) line → position_or_len p line ≡ length line
none-first p [] none = refl
none-first p (b ∷ line) none = rw (none 0 b (omega arith), none-first p line (λ k d below. none (suc k) d (omega arith))) (omega arith)

clean-content : (line : List ℕ) → list_all is_clean line ≡ true → content line ≡ line
unfolding content
clean-content line clean =
    let kept : strip_carriage_return line ≡ line = rw (last-clean line clean) refl in
    let whole = none-first (λ b. b == 35) line (none-of (λ b. b == 35) (λ b is. grind (arith, nat_tests)) line clean) in
    ap (before_first (λ b. b == 35)) kept ∙ take_all (position_or_len (λ b. b == 35) line) line (omega arith)

no-blank : (word : List ℕ) → list_all is_plain word ≡ true → All (λ b. is_blank b ≡ false) word
no-blank word plain k d below = let is = all-at is_plain word plain k d below in grind (arith, nat_tests)

plain-split : (word : List ℕ) {words : List (List ℕ)} → list_all is_plain word ≡ true → ArePlain words → slice_split is_blank (word ++ spaced words) ≡ word ∷ words
plain-split word plain no_more =
    ap (slice_split is_blank) (append-nil word) ∙ slice_split_none is_blank word (no-blank word plain)
plain-split word plain (one_more {word = next} {words} is rest) =
    slice_split_at is_blank word 32 (next ++ spaced words) (no-blank word plain) refl ∙ ap (λ pieces. word ∷ pieces) (plain-split next is.plain rest)

kept-all : (words : List (List ℕ)) → ArePlain words → filter (λ piece. not (length piece == 0)) words ≡ words
kept-all [] no_more = refl
kept-all (word ∷ words) (one_more plain rest) =
    let some : (length word == 0) ≡ false = grind (arith, nat_tests, plain.some) in
    rw (some, kept-all words rest) refl

pub printed-words : (keyword : List ℕ) (words : List (List ℕ)) → IsPlain keyword → ArePlain words → line_words (keyword ++ spaced words) ≡ keyword ∷ words
unfolding line_words
printed-words keyword words plain all =
    let clean = line-clean keyword (plain-clean keyword plain.plain) all in
    ap (λ line. filter (λ piece. not (length piece == 0)) (slice_split is_blank line)) (clean-content (keyword ++ spaced words) clean)
    ∙ ap (filter (λ piece. not (length piece == 0))) (plain-split keyword plain.plain all)
    ∙ kept-all (keyword ∷ words) (one_more plain all)
