-- The front of a printed text: its lines make the empty model with its scale, and none has a fault.
use Rattle.std.specs.Prelude.{◌≡◌, ℕ, zero, suc, ◌+◌, ◌-◌, ◌<◌, ◌≤◌, ◌==◌, nat_lt, nat_le, Bool, true, false, ◌&&◌, ◌||◌, if◌then◌else◌, None, Some, List, [], ◌∷◌, ◌++◌, length, codes, refl}
use Rattle.std.specs.List.{list_all}
use Rattle.std.proofs.Common.{arith, ◌∙◌, sym, ap, subst}
use Rattle.std.proofs.lemmas.Bool.{eqb-true}
use Rattle.std.proofs.lemmas.Bool.Decides.{nat_tests}
use Rattle.theory.specs.Grounded.{Entries}
use Rattle.model_text.specs.Lines.{text_lines, line_words, content}
use Rattle.model_text.specs.Model.{no_entries}
use Rattle.model_text.specs.ModelText.{nothing, front, made, progress_of, with_words, with_line, line_tests, fault_at, first_fault, has_words, is_header, scale_of, decimals_of, digit_word}
use Rattle.model_text.specs.Printed.{printed_front, spaced}
use Rattle.model_text.specs.Scale.{IsScale, decimals_most, plain, with_decimals}
use Rattle.model_text.specs.declared.scale.Scale.{Scale}
use Rattle.model_text.proofs.LinesLemmas.{fault-here}
use Rattle.model_text.proofs.PrintedLines.{ArePlain, no_more, one_more, is_clean, line-clean, clean-text, line-more, printed-words}
use Rattle.model_text.proofs.ReadLemmas.{goes_on, some-words}

pub with-more : (s : Scale) (m : Entries) (words : List (List ℕ)) → with_words (made s m) words ≡ made s (with_line s m words)
unfolding with_words
with-more s m words = refl

-- ---- the two kinds of scales

pub data IsKind : Scale → Type 0 where
  whole_numbers : IsKind plain
  decimals : {flow tension : ℕ} → flow ≤ decimals_most → tension ≤ decimals_most → IsKind (with_decimals flow tension)

kind-by : (version flow tension : ℕ) → IsScale (record { version = version; flow = flow; tension = tension }) → IsKind (record { version = version; flow = flow; tension = tension })
kind-by version flow tension scaled = by (version == 1) (flow == 0) (tension == 0) (version == 2) (nat_le flow decimals_most) (nat_le tension decimals_most) refl refl refl refl refl refl scaled
  where
    by : (one flat level two few little : Bool) → (version == 1) ≡ one → (flow == 0) ≡ flat → (tension == 0) ≡ level → (version == 2) ≡ two
        → nat_le flow decimals_most ≡ few → nat_le tension decimals_most ≡ little → ((one && flat && level) || (two && few && little)) ≡ true
        → IsKind (record { version = version; flow = flow; tension = tension })
    by true true true two few little a b c d e f told =
        subst (λ v. IsKind (record { version = v; flow = flow; tension = tension })) (sym (eqb-true version 1 a))
        (subst (λ k. IsKind (record { version = 1; flow = k; tension = tension })) (sym (eqb-true flow 0 b))
        (subst (λ k. IsKind (record { version = 1; flow = 0; tension = k })) (sym (eqb-true tension 0 c)) whole_numbers))
    by one flat level true true true a b c d e f told =
        subst (λ v. IsKind (record { version = v; flow = flow; tension = tension })) (sym (eqb-true version 2 d))
        (decimals (grind (arith, nat_tests)) (grind (arith, nat_tests)))
    by false flat level false few little a b c d e f told = cc
    by false flat level true false little a b c d e f told = cc
    by false flat level true true false a b c d e f told = cc
    by true false level false few little a b c d e f told = cc
    by true false level true false little a b c d e f told = cc
    by true false level true true false a b c d e f told = cc
    by true true false false few little a b c d e f told = cc
    by true true false true false little a b c d e f told = cc
    by true true false true true false a b c d e f told = cc

pub kind-is : (s : Scale) → IsScale s → IsKind s
kind-is s scaled = kind-by s.version s.flow s.tension scaled

-- ---- its lines

header : List ℕ
header = codes "network 1"

second : List ℕ
second = codes "network 2"

decimals-line : ℕ → ℕ → List ℕ
decimals-line flow tension = codes "decimals" ++ spaced (digit_word flow ∷ digit_word tension ∷ [])

pub front_lines : Scale → List (List ℕ)
front_lines s = if s.version == 1 then header ∷ [] else (second ∷ decimals-line s.flow s.tension ∷ [])

digit-plain : (digit : ℕ) → digit ≤ decimals_most → list_all (λ b. nat_lt 35 b && nat_lt b 128) (digit_word digit) ≡ true
digit-plain digit few =
    let one : nat_lt 35 (48 + digit) ≡ true = grind (arith, nat_tests) in
    let two : nat_lt (48 + digit) 128 ≡ true = grind (arith, nat_tests) in
    rw (one, two) refl

module _ (flow tension : ℕ) (few : flow ≤ decimals_most) (also : tension ≤ decimals_most) where
  digits-plain : ArePlain (digit_word flow ∷ digit_word tension ∷ [])
  digits-plain =
      one_more (record { plain = digit-plain flow few; some = omega arith })
      (one_more (record { plain = digit-plain tension also; some = omega arith }) no_more)

  decimals-clean : list_all is_clean (decimals-line flow tension) ≡ true
  unfolding decimals-line
  decimals-clean = line-clean (codes "decimals") refl digits-plain

  decimals-words : line_words (decimals-line flow tension) ≡ codes "decimals" ∷ digit_word flow ∷ digit_word tension ∷ []
  unfolding decimals-line
  decimals-words = printed-words (codes "decimals") (digit_word flow ∷ digit_word tension ∷ []) (record { plain = refl; some = omega arith }) digits-plain

  digit-read : (digit : ℕ) → digit ≤ decimals_most → decimals_of (digit_word digit) ≡ Some digit
  digit-read digit most =
      let one : nat_le 48 (48 + digit) ≡ true = grind (arith, nat_tests) in
      let two : nat_le (48 + digit) (48 + decimals_most) ≡ true = grind (arith, nat_tests) in
      let back : 48 + digit - 48 ≡ digit = omega arith in
      rw (one, two, back) refl

  scale-read : scale_of (line_words (decimals-line flow tension)) ≡ Some (with_decimals flow tension)
  unfolding scale_of
  scale-read = rw (decimals-words, digit-read flow few, digit-read tension also) refl

header-words : is_header 1 (line_words header) ≡ true
unfolding header is_header line_words content
header-words = refl

header-some : has_words header ≡ true
unfolding header has_words line_words content
header-some = refl

header-clean : list_all is_clean header ≡ true
unfolding header
header-clean = refl

second-other : is_header 1 (line_words second) ≡ false
unfolding second is_header line_words content
second-other = refl

second-words : is_header 2 (line_words second) ≡ true
unfolding second is_header line_words content
second-words = refl

second-some : has_words second ≡ true
unfolding second has_words line_words content
second-some = refl

second-clean : list_all is_clean second ≡ true
unfolding second
second-clean = refl

-- ---- what they make

header-makes : with_words nothing (line_words header) ≡ made plain no_entries
unfolding with_words
header-makes = rw header-words refl

second-makes : with_words nothing (line_words second) ≡ front
unfolding with_words
second-makes = rw (second-other, second-words) refl

decimals-make : (flow tension : ℕ) → flow ≤ decimals_most → tension ≤ decimals_most
    → with_words front (line_words (decimals-line flow tension)) ≡ made (with_decimals flow tension) no_entries
unfolding with_words
decimals-make flow tension few also = rw (scale-read flow tension few also) refl

none-made : progress_of [] ≡ nothing
unfolding progress_of
none-made = refl

one-made : (line : List ℕ) → progress_of (line ∷ []) ≡ with_words nothing (line_words line)
unfolding progress_of
one-made line = refl

two-made : (line other : List ℕ) → progress_of (line ∷ other ∷ []) ≡ with_words (with_words nothing (line_words line)) (line_words other)
unfolding progress_of
two-made line other = refl

-- the text of the front
pub front-lines : (s : Scale) → IsScale s → (rest : List ℕ) → text_lines (printed_front s ++ rest) ≡ front_lines s ++ text_lines rest
unfolding front_lines header second decimals-line
front-lines s scaled rest = by s (kind-is s scaled)
  where
    by : (t : Scale) → IsKind t → text_lines (printed_front t ++ rest) ≡ front_lines t ++ text_lines rest
    by _ whole_numbers = line-more (codes "network 1") rest refl
    by _ (decimals {flow} {tension} few also) =
        line-more (codes "network 2") (codes "decimals" ++ spaced (digit_word flow ∷ digit_word tension ∷ []) ++ 10 ∷ rest) refl
        ∙ ap (λ l. codes "network 2" ∷ l)
        (line-more (codes "decimals" ++ spaced (digit_word flow ∷ digit_word tension ∷ [])) rest (decimals-clean flow tension few also))

pub front-made : (s : Scale) → IsScale s → progress_of (front_lines s) ≡ made s no_entries
unfolding front_lines
front-made s scaled = by s (kind-is s scaled)
  where
    by : (t : Scale) → IsKind t → progress_of (front_lines t) ≡ made t no_entries
    by _ whole_numbers = one-made header ∙ header-makes
    by _ (decimals {flow} {tension} few also) =
        two-made second (decimals-line flow tension) ∙ ap (λ p. with_words p (line_words (decimals-line flow tension))) second-makes ∙ decimals-make flow tension few also

header-fault : (others : List (List ℕ)) → fault_at (header ∷ others) 0 ≡ None
header-fault others =
    fault-here (header ∷ others) 0 header others refl
    ∙ rw none-made (goes_on nothing header (clean-text header header-clean) header-some ∙ rw header-words refl)

second-fault : (others : List (List ℕ)) → fault_at (second ∷ others) 0 ≡ None
second-fault others =
    fault-here (second ∷ others) 0 second others refl
    ∙ rw none-made (goes_on nothing second (clean-text second second-clean) second-some ∙ rw (second-other, second-words) refl)

decimals-fault : (flow tension : ℕ) → flow ≤ decimals_most → tension ≤ decimals_most → (others : List (List ℕ))
    → fault_at (second ∷ decimals-line flow tension ∷ others) 1 ≡ None
decimals-fault flow tension few also others =
    let line = decimals-line flow tension in
    fault-here (second ∷ line ∷ others) 1 line others refl
    ∙ ap (λ p. first_fault (line_tests p line)) (one-made second ∙ second-makes)
    ∙ goes_on front line (clean-text line (decimals-clean flow tension few also)) (some-words line (rw (decimals-words flow tension few also) (omega arith)))
    ∙ rw (scale-read flow tension few also) refl

pub front-faults : (s : Scale) → IsScale s → (others : List (List ℕ)) (k : ℕ) → k < length (front_lines s) → fault_at (front_lines s ++ others) k ≡ None
unfolding front_lines
front-faults s scaled others k below = by s (kind-is s scaled) k below
  where
    by : (t : Scale) → IsKind t → (k : ℕ) → k < length (front_lines t) → fault_at (front_lines t ++ others) k ≡ None
    by _ whole_numbers zero below = header-fault others
    by _ whole_numbers (suc k) below = absurd (omega arith)
    by _ (decimals {flow} {tension} few also) zero below = second-fault (decimals-line flow tension ∷ others)
    by _ (decimals {flow} {tension} few also) (suc zero) below = decimals-fault flow tension few also others
    by _ (decimals {flow} {tension} few also) (suc (suc k)) below = absurd (omega arith)
