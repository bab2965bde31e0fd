-- What a text spells is well-formed. The lines are gone over from the front: no line makes the empty model, which is
-- well-formed, and a line keeps the model so. A line without words adds nothing, nor does the header. Any other line
-- adds a node or an arc: the tests that it passes say that its name is a name and not taken, that there is room, that its
-- list is a curve list within the limits, and that the ends of an arc are two different nodes that are there.
use Rattle.std.specs.Prelude.{◌≡◌, ℕ, zero, suc, ◌+◌, ◌≤◌, Bool, true, false, not, ◌||◌, if◌then◌else◌, Option, None, Some, List, [], length, take, drop, refl}
use Rattle.std.specs.Str.{is_utf8}
use Rattle.std.proofs.Common.{arith, get_or, sym, ap, subst, ◌∙◌, add-one}
use Rattle.std.proofs.lemmas.Bool.Decides.{nat_tests}
use Rattle.std.proofs.lemmas.List.{drop_more, take_all}
use Rattle.theory.specs.Grounded.{Entries}
use Rattle.model_text.specs.Lines.{text_lines, line_words}
use Rattle.model_text.specs.Model.{node_names, place_of, no_entries, IsWithinLimits, IsWellFormed}
use Rattle.model_text.specs.ModelText.{Progress, nothing, front, made, behind_front, NoFaultBefore, first_fault, line_tests, progress_of, with_line, with_words, has_words, is_header, scale_of, is_node_line, is_arc_line, line_listing, word_at}
use Rattle.model_text.specs.Scale.{IsScale, plain}
use Rattle.model_text.specs.declared.scale.Scale.{Scale}
use Rattle.model_text.specs.ModelTextLaws.{SpelledIsFormedLaw}
use Rattle.model_text.proofs.FirstPlace.{some_there}
use Rattle.model_text.proofs.Forming.{formed_empty, formed_with_node, formed_with_arc}
use Rattle.model_text.proofs.SoundLists.{IsSound, sound-line, sound-base, sound-list, sound-small}
use Rattle.model_text.proofs.SoundLines.{passes, yes, PassesAll, passes_all, first_is_name, node_free, arc_free, node_room, arc_room, node_there, tail_known, adds_node, adds_arc}
use Rattle.model_text.proofs.ReadLemmas.{goes_on, blank_adds, scale-valid}
use Rattle.model_text.proofs.LinesLemmas.{progress-after, fault-here}

-- ---- a line that passes every test

module _ (s : Scale) (m : Entries) (formed : IsWellFormed m) (words : List (List ℕ)) (passed : PassesAll s m words) where
  sound : IsSound (line_listing s words).items
  sound = sound-line s words passed.alone.limit passed.together.shape passed.together.order

  small : IsWithinLimits (line_listing s words)
  small = record {
    short = sound.short;
    items = sound-small (line_listing s words).items sound;
    base = sound-base s words passed.alone.limit passed.together.shape passed.together.order;
  }

  formed-node : is_node_line words ≡ true → IsWellFormed (with_line s m words)
  formed-node node =
      let room = node_room m (word_at words 1) (node_free s m words node passed.together) in
      subst IsWellFormed (sym (adds_node s m words node))
      (formed_with_node m (word_at words 1) (line_listing s words) formed (first_is_name words passed.alone.names)
      room.0 room.1 (sound-list (line_listing s words).items sound) small)

  formed-arc : is_node_line words ≡ false → is_arc_line words ≡ true → IsWellFormed (with_line s m words)
  formed-arc node arc =
      let known = tail_known m words arc passed.together.known in
      let tail = some_there (place_of (node_names m) (word_at words 2)) known.0 in
      let head = some_there (place_of (node_names m) (word_at words 3)) known.1 in
      let room = arc_room m (word_at words 1) tail.0 head.0 (arc_free s m words tail.0 head.0 node arc passed.together tail.1 head.1) in
      subst IsWellFormed (sym (adds_arc s m words tail.0 head.0 node arc tail.1 head.1))
      (formed_with_arc m (word_at words 1) tail.0 head.0 (line_listing s words) formed (first_is_name words passed.alone.names)
      room.0 room.2 (node_there m (word_at words 2) tail.0 tail.1) (node_there m (word_at words 3) head.0 head.1) room.1
      (sound-list (line_listing s words).items sound) small)

  formed-entry : IsWellFormed (with_line s m words)
  formed-entry = by (is_node_line words) (is_arc_line words) refl refl passed.keyword
    where
      by : (node arc : Bool) → is_node_line words ≡ node → is_arc_line words ≡ arc → (node || arc) ≡ true → IsWellFormed (with_line s m words)
      by true arc node-is arc-is either = formed-node node-is
      by false true node-is arc-is either = formed-arc node-is arc-is
      by false false node-is arc-is either = cc

-- ---- any line without a fault

without : (line : List ℕ) → has_words line ≡ false → length (line_words line) ≡ 0
unfolding has_words
without line none = grind (arith, nat_tests)

is-text : (progress : Progress) (line : List ℕ) → first_fault (line_tests progress line) ≡ None → is_utf8 line ≡ true
unfolding line_tests
is-text progress line none = yes (is_utf8 line) (passes (not (is_utf8 line)) _ _ none).0

-- the scale is one, and the model well-formed
AreKept : Progress → Type 0
AreKept nothing = Unit {0}
AreKept front = Unit {0}
AreKept (made s m) = IsScale s × IsWellFormed m

first-kept : (words : List (List ℕ)) → AreKept (with_words nothing words)
unfolding with_words AreKept
first-kept words = by (is_header 1 words) (is_header 2 words)
  where
    by : (one two : Bool) → AreKept (if one then made plain no_entries else (if two then front else nothing))
    by true two = (refl, formed_empty)
    by false true = tt
    by false false = tt

front-kept : (words : List (List ℕ)) → AreKept (with_words front words)
unfolding with_words AreKept
front-kept words = by (scale_of words) refl
  where
    by : (found : Option Scale) → scale_of words ≡ found → AreKept (behind_front found)
    by None is = tt
    by (Some s) is = (scale-valid words s is, formed_empty)

formed-line : (progress : Progress) (line : List ℕ) → AreKept progress → first_fault (line_tests progress line) ≡ None
    → AreKept (with_words progress (line_words line))
unfolding with_words AreKept
formed-line nothing line kept none = first-kept (line_words line)
formed-line front line kept none = front-kept (line_words line)
formed-line (made s m) line kept none = by (has_words line) refl
  where
    by : (w : Bool) → has_words line ≡ w → AreKept (with_words (made s m) (line_words line))
    by true words =
        (kept.0, formed-entry s m kept.1 (line_words line) (passes_all s m (line_words line) (sym (goes_on (made s m) line (is-text (made s m) line none) words) ∙ none)))
    by false words = subst AreKept (sym (blank_adds (made s m) (line_words line) (without line words))) kept

-- ---- all lines

formed-lines : (lines : List (List ℕ)) (n : ℕ) → n ≤ length lines → NoFaultBefore lines n → AreKept (progress_of (take n lines))
unfolding progress_of AreKept
formed-lines lines zero most none = tt
formed-lines lines (suc n) most none =
    let line = get_or lines n [] in
    let left = drop_more lines n [] (omega arith) in
    let before = formed-lines lines n (omega arith) (λ k below. none k (omega arith)) in
    let fault = sym (fault-here lines n line (drop (n + 1) lines) left) ∙ none n (omega arith) in
    rw (← add-one) (subst AreKept (sym (progress-after lines n line (drop (n + 1) lines) left))
    (formed-line (progress_of (take n lines)) line before fault))

pub spelled_is_formed : SpelledIsFormedLaw
unfolding AreKept
spelled_is_formed text s m spells =
    let lines = text_lines text in
    let all : take (length lines) lines ≡ lines = take_all (length lines) lines (omega arith) in
    subst AreKept (ap progress_of all ∙ spells.is) (formed-lines lines (length lines) (omega arith) spells.no_fault)
