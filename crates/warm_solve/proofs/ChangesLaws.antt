-- Laws of the changes text. The first bad line is found by going over the lines; no line before it has a fault, so there is one. A line that passes
-- makes a change whose arc has a name of the model and whose curve passed the tests of a list.
use Rattle.std.specs.Prelude.{◌≡◌, ℕ, zero, suc, ◌+◌, ◌<◌, ◌≤◌, Bool, true, false, not, Option, None, Some, is_none, unwrap_or, ◌⊎◌, List, [], ◌∷◌, ◌++◌, length, take, drop, All, refl}
use Rattle.std.specs.List.{list_any}
use Rattle.std.specs.Option.{option_map}
use Rattle.std.specs.Str.{bytes_eq, is_utf8}
use Rattle.std.proofs.Common.{arith, get_or, ◌∙◌, sym, ap, subst, inl, inr, below_more, add-one}
use Rattle.std.proofs.lemmas.Bool.Decides.{nat_tests}
use Rattle.std.proofs.lemmas.List.{drop_more, take_all, length-map, append-nil, length_push}
use Rattle.std.proofs.lemmas.List.Elements.{All-push}
use Rattle.theory.specs.Grounded.{Entries, NodeEntry, ArcEntry}
use Rattle.model_text.specs.declared.fault.FaultWord.{FaultWord}
use Rattle.model_text.specs.declared.scale.Scale.{Scale}
use Rattle.model_text.specs.Lines.{text_lines, line_words}
use Rattle.model_text.specs.Model.{node_names, arc_names, place_of}
use Rattle.model_text.specs.ModelText.{has_words, first_fault, word_at, is_node_line, is_arc_line, part_items, part_listing, part_base, part_lacks_numbers, part_is_beyond, are_misshapen, has_fall}
use Rattle.theory.specs.Limits.{number_most, IsWithin}
use Rattle.model_text.proofs.FirstPlace.{found}
use Rattle.model_text.proofs.SoundLines.{passes, yes}
use Rattle.model_text.proofs.SoundLists.{IsSound, in-limits, sound-shaped, sound-list, sound-small, within, listing-is}
use Rattle.warm_solve.specs.ChangesText.{Change, changes_most, Spells, IsFirstFault, bad_line, no_words, NoFaultBefore, fault_at, changes_of, changes_in, change_of, part_of, arc_of, lacks_name, has_all, is_unknown, named_tests, entry_tests, line_tests, is_header}
use Rattle.warm_solve.specs.ChangesTextLaws.{OneListLaw, SpelledOrBadLaw, OneFaultLaw, DecidedLaw, SpelledFitsLaw, IsChangeOf, AreChangesOf}
use Rattle.warm_solve.proofs.ChangesLines.{begins, goes_on, of_node, of_arc, of_none, node_changes, arc_changes, blank_adds, header_adds, changes-after, fault-here}

pub one_list : OneListLaw
one_list s m text changes others first second = first.are ∙ sym second.are

clash : {A : Type 0} (found : Option A) (a : A) → found ≡ None → found ≡ Some a → ⊥
clash found a none some = cc

pub spelled_or_bad : SpelledOrBadLaw
spelled_or_bad s m text changes line word spells (bad_line {k} {word = w} here before is) = clash (fault_at s m (text_lines text) k) w (spells.no_fault k here) is
spelled_or_bad s m text changes line word spells (no_words none before) = let yes = spells.begun in cc

pub one_fault : OneFaultLaw
one_fault s m text line others word other (bad_line {k} {word = w} here before is) (bad_line {k = k'} {word = w'} here' before' is') =
    let lines = text_lines text in
    let not_first : k < k' → ⊥ = λ less. clash (fault_at s m lines k) w (before' k less) is in
    let not_second : k' < k → ⊥ = λ less. clash (fault_at s m lines k') w' (before k' less) is' in
    let same : k ≡ k' = omega arith in
    (ap (λ n. n + 1) same, let there = sym is ∙ ap (fault_at s m lines) same ∙ is' in cc)
one_fault s m text line others word other (bad_line {k} {word = w} here before is) (no_words none all) = absurd (clash (fault_at s m (text_lines text) k) w (all k here) is)
one_fault s m text line others word other (no_words none all) (bad_line {k} {word = w} here before is) = absurd (clash (fault_at s m (text_lines text) k) w (all k here) is)
one_fault s m text line others word other (no_words none all) (no_words none' all') = (refl, refl)

-- ---- one or the other

-- the first of n lines with a fault
record HasFault (s : Scale) (m : Entries) (lines : List (List ℕ)) (n : ℕ) : Type 0 where
  place : ℕ
  word : FaultWord
  within : place < n
  before : NoFaultBefore s m lines place
  is : fault_at s m lines place ≡ Some word

first-of : (s : Scale) (m : Entries) (lines : List (List ℕ)) (n : ℕ) → NoFaultBefore s m lines n ⊎ HasFault s m lines n
first-of s m lines zero = inl (λ k below. absurd (omega arith))
first-of s m lines (suc n) =
    elim (first-of s m lines n) [
      | inl before ↦ by before (fault_at s m lines n) refl
      | inr has ↦ inr (record { place = has.place; word = has.word; within = omega (arith, has.within); before = has.before; is = has.is })
    ]
  where
    by : NoFaultBefore s m lines n → (found : Option FaultWord) → fault_at s m lines n ≡ found → NoFaultBefore s m lines (suc n) ⊎ HasFault s m lines (suc n)
    by before None none = inl (rw (← add-one) (below_more _ _ before none))
    by before (Some word) is = inr (record { place = n; word = word; within = omega arith; before = before; is = is })

pub decided : DecidedLaw
decided s m text =
    elim (first-of s m (text_lines text) (length (text_lines text))) [
      | inl before ↦ by before (list_any has_words (text_lines text)) refl
      | inr has ↦ inr (has.place + 1, (has.word, bad_line has.within has.before has.is))
    ]
  where
    by : NoFaultBefore s m (text_lines text) (length (text_lines text)) → (begun : Bool) → list_any has_words (text_lines text) ≡ begun
        → ((changes : List Change) × Spells s m text changes) ⊎ ((line : ℕ) × ((word : FaultWord) × IsFirstFault s m text line word))
    by before true begun = inl (changes_of s m (text_lines text), record { begun = begun; no_fault = before; are = refl })
    by before false none = inr (length (text_lines text) + 1, (_, no_words none before))

-- ---- what is spelled fits the model

arc_there : (m : Entries) (node : Bool) (name : List ℕ) → is_none (arc_of m node name) ≡ false → unwrap_or (arc_of m node name) 0 < length m.nodes + length m.arcs
unfolding arc_of
arc_there m true name known = by (place_of (node_names m) name) refl known
  where
    by : (place : Option ℕ) → place_of (node_names m) name ≡ place → is_none place ≡ false → unwrap_or place 0 < length m.nodes + length m.arcs
    by None is known = cc
    by (Some i) is known = omega (arith, (found (bytes_eq name) (node_names m) i (sym is)).1, length-map m.nodes (λ (entry : NodeEntry). entry.name))
arc_there m false name known = by (place_of (arc_names m) name) refl known
  where
    by : (place : Option ℕ) → place_of (arc_names m) name ≡ place → is_none (option_map (λ j. length m.nodes + j) place) ≡ false
        → unwrap_or (option_map (λ j. length m.nodes + j) place) 0 < length m.nodes + length m.arcs
    by None is known = cc
    by (Some j) is known = omega (arith, (found (bytes_eq name) (arc_names m) j (sym is)).1, length-map m.arcs (λ (entry : ArcEntry). entry.name))

-- the change is one of the model, and there was room for it
fits : (s : Scale) (m : Entries) (node : Bool) (count line : ℕ) (words : List (List ℕ)) → first_fault (named_tests s m node count words) ≡ None
    → IsChangeOf m (change_of s m node line words) × (has_all count ≡ false)
fits s m node count line words none =
    let part = part_of words in
    let named = passes (lacks_name words) _ _ none in
    let numbers = passes (part_lacks_numbers s part) _ _ named.1 in
    let limit = passes (part_is_beyond s part) _ _ numbers.1 in
    let room = passes (has_all count) _ _ limit.1 in
    let shape = passes (are_misshapen node (part_items s part)) _ _ room.1 in
    let order = passes (has_fall (part_items s part)) _ _ shape.1 in
    let known = passes (is_unknown m node words) _ _ order.1 in
    let small = in-limits s part limit.0 in
    let sound : IsSound (part_listing s part).items =
    rw (listing-is s part) (sound-shaped (part_items s part) node small.short small.items shape.0 order.0) in
    let base : IsWithin number_most (part_listing s part).base = rw (listing-is s part) (within (part_base s part) small.base) in (
      record {
        there = arc_there m node (word_at words 1) known.0;
        limits = record { short = sound.short; items = sound-small (part_listing s part).items sound; base = base };
        is_list = sound-list (part_listing s part).items sound;
      },
      room.0,
    )

-- ---- any line without a fault

without : (line : List ℕ) → has_words line ≡ false → length (line_words line) ≡ 0
unfolding has_words
without line none = grind (arith, nat_tests)

is-text : (s : Scale) (m : Entries) (begun : Bool) (count : ℕ) (line : List ℕ) → first_fault (line_tests s m begun count line) ≡ None → is_utf8 line ≡ true
unfolding line_tests
is-text s m begun count line none = yes (is_utf8 line) (passes (not (is_utf8 line)) _ _ none).0

module _ (s : Scale) (m : Entries) (begun : Bool) (number : ℕ) (line : List ℕ) (changes : List Change) (fit : AreChangesOf m changes)
    (none : first_fault (line_tests s m begun (length changes) line) ≡ None) where
  adds-none : changes_in s m number (line_words line) ≡ [] → AreChangesOf m (changes ++ changes_in s m number (line_words line))
  adds-none nothing = rw (nothing, append-nil changes) fit

  adds-one : (node : Bool) → changes_in s m number (line_words line) ≡ change_of s m node number (line_words line) ∷ []
      → first_fault (named_tests s m node (length changes) (line_words line)) ≡ None → AreChangesOf m (changes ++ changes_in s m number (line_words line))
  adds-one node one passed =
      let change = change_of s m node number (line_words line) in
      let its = fits s m node (length changes) number (line_words line) passed in
      let room : length changes < changes_most = grind (arith, nat_tests, its.1) in
      rw one (record {
        each = All-push (IsChangeOf m) changes change fit.each its.0;
        few = omega (arith, length_push changes change);
      })

  fits-entry : first_fault (entry_tests s m (length changes) (line_words line)) ≡ None → AreChangesOf m (changes ++ changes_in s m number (line_words line))
  fits-entry passed = by (is_node_line (line_words line)) (is_arc_line (line_words line)) refl refl
    where
      by : (node arc : Bool) → is_node_line (line_words line) ≡ node → is_arc_line (line_words line) ≡ arc
          → AreChangesOf m (changes ++ changes_in s m number (line_words line))
      by true arc node-is arc-is = adds-one true (node_changes s m number (line_words line) node-is) (sym (of_node s m (length changes) (line_words line) node-is) ∙ passed)
      by false true node-is arc-is =
          adds-one false (arc_changes s m number (line_words line) node-is arc-is) (sym (of_arc s m (length changes) (line_words line) node-is arc-is) ∙ passed)
      by false false node-is arc-is =
          absurd (clash (first_fault (entry_tests s m (length changes) (line_words line))) _ passed (of_none s m (length changes) (line_words line) node-is arc-is))

  fits-line : AreChangesOf m (changes ++ changes_in s m number (line_words line))
  fits-line = by begun (has_words line) refl refl
    where
      text : is_utf8 line ≡ true
      text = is-text s m begun (length changes) line none

      by : (b w : Bool) → begun ≡ b → has_words line ≡ w → AreChangesOf m (changes ++ changes_in s m number (line_words line))
      by b false started words = adds-none (blank_adds s m number (line_words line) (without line words))
      by true true started words = fits-entry (sym (goes_on s m begun (length changes) line text words started) ∙ none)
      by false true started words =
          let header = passes (not (is_header (line_words line))) _ _ (sym (begins s m begun (length changes) line text words started) ∙ none) in
          adds-none (header_adds s m number (line_words line) (yes (is_header (line_words line)) header.0))

-- ---- all lines

no-changes : (s : Scale) (m : Entries) → changes_of s m [] ≡ []
unfolding changes_of
no-changes s m = refl

fits-lines : (s : Scale) (m : Entries) (lines : List (List ℕ)) (n : ℕ) → n ≤ length lines → NoFaultBefore s m lines n → AreChangesOf m (changes_of s m (take n lines))
fits-lines s m lines zero most none = rw (no-changes s m) (record { each = λ k d here. absurd (omega arith); few = omega arith })
fits-lines s m lines (suc n) most none =
    let line = get_or lines n [] in
    let left = drop_more lines n [] (omega arith) in
    let before = fits-lines s m lines n (omega arith) (λ k below. none k (omega arith)) in
    let fault = sym (fault-here s m lines n line (drop (n + 1) lines) left) ∙ none n (omega arith) in
    rw (← add-one) (subst (AreChangesOf m) (sym (changes-after s m lines n line (drop (n + 1) lines) left))
    (fits-line s m (list_any has_words (take n lines)) (n + 1) line (changes_of s m (take n lines)) before fault))

pub spelled_fits : SpelledFitsLaw
spelled_fits s m text changes spells =
    let lines = text_lines text in
    let all : take (length lines) lines ≡ lines = take_all (length lines) lines (omega arith) in
    subst (AreChangesOf m) (sym spells.are) (rw all at (fits-lines s m lines (length lines) (omega arith) spells.no_fault))
