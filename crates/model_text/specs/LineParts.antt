-- The parts of a line as the reader keeps them.
use Rattle.std.specs.Prelude.{◌≡◌, ℕ, Bool, true, false, not, if◌then◌else◌, Option, None, Some, Result, Ok, Err, List, [], ◌∷◌, map, codes}
use Rattle.std.specs.Str.{bytes_eq}
use Rattle.std.specs.Borrow.{Bor}
use Rattle.model_text.specs.declared.line.Kind.{Kind}
use Rattle.model_text.specs.declared.line.Kind.TheVariants.{Node, Arc}
use Rattle.theory.specs.declared.ext.Ext.{Ext}
use Rattle.theory.specs.Grounded.{Entries}
use Rattle.model_text.specs.declared.fault.FaultWord.{FaultWord}
use Rattle.model_text.specs.declared.fault.FaultWord.TheVariants.{Name, Number, Limit, Shape, Order, Twice, Unknown, Loop}
use Rattle.model_text.specs.declared.fault.PartFault.{PartFault}
use Rattle.model_text.specs.declared.fault.PartFault.TheVariants.{Word, NoMemory}
use Rattle.model_text.specs.Model.{node_names, place_of}
use Rattle.model_text.specs.declared.scale.Scale.{Scale}
use Rattle.model_text.specs.ModelText.{is_node_line, is_arc_line, line_names, body, word_at, first_fault, lack_items, lacks_names, part_lacks_numbers, lacks_numbers, part_is_beyond, is_beyond, is_full, are_misshapen, is_misshapen, line_items, has_fall, is_twice, is_unknown, is_loop}

abbrev pub texts : List (Bor (List ℕ)) → List (List ℕ)
texts words = map (λ word. word.now) words

abbrev pub is_node : Kind → Bool
is_node Node = true
is_node Arc = false

pub record AreParts (words : List (List ℕ)) (kind : Kind) (named listing : List (List ℕ)) : Type 0 where
  pub node : is_node_line words ≡ is_node kind
  pub arc : is_arc_line words ≡ not (is_node kind)
  pub names : named ≡ line_names words
  pub part : listing ≡ body words

-- the positions of the nodes that an arc's line names
pub record AreEnds (m : Entries) (words : List (List ℕ)) (from to : ℕ) : Type 0 where
  pub tail : is_arc_line words ≡ true → place_of (node_names m) (word_at words 2) ≡ Some from
  pub head : is_arc_line words ≡ true → place_of (node_names m) (word_at words 3) ≡ Some to

abbrev pub keyword_kind : List ℕ → Option Kind
keyword_kind word = if bytes_eq word (codes "node") then Some Node else (if bytes_eq word (codes "arc") then Some Arc else None)

-- ---- how far the reader is with a line

-- the test of the words of a list; those of a part's words, and of its items
abbrev pub item_tests : Scale → List (List ℕ) → List (Bool × FaultWord)
item_tests s words = (lack_items s.flow s.tension words, Number) ∷ []

abbrev pub number_tests : Scale → List (List ℕ) → List (Bool × FaultWord)
number_tests s part = (part_lacks_numbers s part, Number) ∷ (part_is_beyond s part, Limit) ∷ []

abbrev pub shape_tests : Bool → List Ext → List (Bool × FaultWord)
shape_tests node items = (are_misshapen node items, Shape) ∷ (has_fall items, Order) ∷ []

-- those of a line up to its curve, and those of its names
abbrev pub curve_tests : Scale → Entries → List (List ℕ) → List (Bool × FaultWord)
curve_tests s m words =
    (lacks_names words, Name) ∷ (lacks_numbers s words, Number) ∷ (is_beyond s words, Limit) ∷ (is_full m words, Limit)
    ∷ (is_misshapen s words, Shape) ∷ (has_fall (line_items s words), Order) ∷ []

abbrev pub name_tests : Entries → List (List ℕ) → List (Bool × FaultWord)
name_tests m words = (is_twice m words, Twice) ∷ (is_unknown m words, Unknown) ∷ (is_loop words, Loop) ∷ []

-- the tests are passed, or the refusal tells the first that isn't, or memory was short
abbrev pub Passes : {A : Type 0} → List (Bool × FaultWord) → Result A PartFault → Type 0
Passes tests (Ok value) = first_fault tests ≡ None
Passes tests (Err (Word word)) = first_fault tests ≡ Some word
Passes tests (Err NoMemory) = Unit {0}
