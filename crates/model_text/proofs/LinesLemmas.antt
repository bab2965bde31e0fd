-- Lines one by one: a text that isn't empty has the line up to its first LF, and then the lines of what follows.
use Rattle.std.specs.Prelude.{◌≡◌, ℕ, ◌+◌, ◌<◌, ◌≤◌, ◌==◌, nat_lt, Bool, true, false, not, ◌||◌, cond, List, [], ◌∷◌, ◌++◌, length, take, drop, refl}
use Rattle.std.specs.List.{list_any, fold, slice_split, onto_first, position_or_len, before_first, after_first}
use Rattle.std.proofs.Common.{arith, get_or, ◌∙◌, sym, ap, length-drop}
use Rattle.std.proofs.lemmas.Bool.Decides.{nat_tests}
use Rattle.std.proofs.lemmas.Grind.{fold-append, take_at_read}
use Rattle.std.proofs.lemmas.List.{take_all, drop_all, drop_more}
use Rattle.std.proofs.lemmas.List.Folds.{list_any-append}
use Rattle.std.proofs.lemmas.List.Splits.{slice_split_first, slice_split-cons_no, length-slice_split}
use Rattle.std.proofs.lemmas.List.Sums.{prefix_len-le-length}
use Rattle.model_text.specs.Lines.{text_lines, line_words, without_empty_end}
use Rattle.model_text.specs.ModelText.{nothing, progress_of, with_words, has_words, fault_at, first_fault, line_tests}
use Rattle.model_text.proofs.ListTests.{or-none}

-- ---- the first line of a text

split-none : (p : ℕ → Bool) (text : List ℕ) → position_or_len p text ≡ length text → slice_split p text ≡ text ∷ []
split-none p [] none = refl
split-none p (b ∷ text) none = by (p b) refl none (split-none p text)
  where
    by : (v : Bool) → p b ≡ v → cond (not v) (1 + position_or_len p text) 0 ≡ length (b ∷ text)
        → (position_or_len p text ≡ length text → slice_split p text ≡ text ∷ []) → slice_split p (b ∷ text) ≡ (b ∷ text) ∷ []
    by true is past others = absurd (omega arith)
    by false is past others = slice_split-cons_no p b text is ∙ ap (onto_first b) (others (omega arith))

pub end-more : (piece : List ℕ) (pieces : List (List ℕ)) → 0 < length pieces → without_empty_end (piece ∷ pieces) ≡ piece ∷ without_empty_end pieces
end-more piece [] some = absurd (omega arith)
end-more [] (next ∷ pieces) some = refl
end-more (b ∷ piece) (next ∷ pieces) some = refl

end-one : (piece : List ℕ) → 0 < length piece → without_empty_end (piece ∷ []) ≡ piece ∷ []
end-one [] some = absurd (omega arith)
end-one (b ∷ piece) some = refl

abbrev is_end : ℕ → Bool
is_end b = b == 10

pub no-lines : text_lines [] ≡ []
unfolding text_lines
no-lines = refl

pub first-line : (text : List ℕ) → 0 < length text → text_lines text ≡ before_first (λ b. b == 10) text ∷ text_lines (after_first (λ b. b == 10) text)
unfolding text_lines
first-line text some = by (nat_lt (position_or_len is_end text) (length text)) refl
  where
    by : (v : Bool) → nat_lt (position_or_len is_end text) (length text) ≡ v
        → without_empty_end (slice_split is_end text) ≡ before_first is_end text ∷ without_empty_end (slice_split is_end (after_first is_end text))
    by true within =
        let inside : position_or_len is_end text < length text = grind (arith, nat_tests) in
        ap without_empty_end (slice_split_first is_end text 0 inside)
        ∙ end-more (before_first is_end text) (slice_split is_end (after_first is_end text)) (omega (arith, length-slice_split is_end (after_first is_end text)))
    by false past =
        let most : position_or_len is_end text ≤ length text = prefix_len-le-length (λ b. not (is_end b)) text in
        let whole : position_or_len is_end text ≡ length text = grind (arith, nat_tests) in
        let front : before_first is_end text ≡ text = take_all (position_or_len is_end text) text (omega arith) in
        let back : after_first is_end text ≡ [] = drop_all (position_or_len is_end text + 1) text (omega arith) in
        ap without_empty_end (split-none is_end text whole) ∙ end-one text some
        ∙ rw (front, back) refl

-- ---- the line at a place, and what the lines make with it

module _ (lines : List (List ℕ)) (k : ℕ) (line : List ℕ) (others : List (List ℕ)) (left : drop k lines ≡ line ∷ others) where
  pub here : k < length lines
  here = omega (arith, length-drop k lines, ap length left)

  there : get_or lines k [] ∷ drop (k + 1) lines ≡ line ∷ others
  there = sym (drop_more lines k [] here) ∙ left

  pub line-is : get_or lines k [] ≡ line
  line-is = let both = there in cc

  pub left-after : drop (k + 1) lines ≡ others
  left-after = let both = there in cc

  pub front-after : take (k + 1) lines ≡ take k lines ++ line ∷ []
  front-after = (take_at_read lines k [] here).1 ∙ ap (λ l. take k lines ++ l ∷ []) line-is

  pub progress-after : progress_of (take (k + 1) lines) ≡ with_words (progress_of (take k lines)) (line_words line)
  unfolding progress_of
  progress-after =
      ap (fold (λ progress l. with_words progress (line_words l)) nothing) front-after
      ∙ fold-append (λ progress l. with_words progress (line_words l)) nothing (take k lines) (line ∷ [])

  pub words-after : list_any has_words (take (k + 1) lines) ≡ (list_any has_words (take k lines) || has_words line)
  words-after =
      ap (list_any has_words) front-after ∙ list_any-append has_words (take k lines) (line ∷ [])
      ∙ ap (λ b. list_any has_words (take k lines) || b) (or-none (has_words line))

  pub fault-here : fault_at lines k ≡ first_fault (line_tests (progress_of (take k lines)) line)
  unfolding fault_at
  fault-here = rw line-is refl

-- where none are left, all were read
pub all-read : (lines : List (List ℕ)) (k : ℕ) → k ≤ length lines → drop k lines ≡ [] → (k ≡ length lines) × (take k lines ≡ lines)
all-read lines k within none =
    let all : k ≡ length lines = omega (arith, length-drop k lines, ap length none) in
    (all, take_all k lines (omega arith))
