-- What a line that passes the tests may add to the model: its names are names, and the model has room for it.
use Rattle.std.specs.Prelude.{◌≡◌, ◌≢◌, ℕ, zero, suc, ◌<◌, ◌==◌, nat_lt, nat_le, Bool, true, false, not, ◌&&◌, ◌||◌, if◌then◌else◌, Option, None, Some, is_some, List, [], ◌∷◌, length, take, drop, refl}
use Rattle.std.specs.List.{list_all}
use Rattle.std.specs.Str.{bytes_eq}
use Rattle.std.proofs.Common.{arith, get_or, ◌∙◌, sym, ap}
use Rattle.std.proofs.lemmas.Bool.Decides.{nat_tests}
use Rattle.std.proofs.lemmas.Bool.{eqb-true}
use Rattle.std.proofs.lemmas.List.{get_or-take, length-map}
use Rattle.std.proofs.lemmas.Grind.{get_or_after_one}
use Rattle.std.proofs.lemmas.List.Sums.{passes_at_first}
use Rattle.std.proofs.lemmas.Slice.Eq.{bytes_eq-Decides}
use Rattle.theory.specs.Grounded.{Entries}
use Rattle.theory.specs.Limits.{nodes_most, arcs_most}
use Rattle.model_text.specs.Model.{node_names, arc_names, place_of, node_fault, arc_fault, with_node, with_arc}
use Rattle.model_text.specs.Names.{is_name}
use Rattle.model_text.specs.declared.scale.Scale.{Scale}
use Rattle.model_text.specs.ModelText.{first_fault, entry_tests, word_at, names_wanted, is_node_line, is_arc_line, line_names, line_items, line_listing, lacks_names, lacks_numbers, is_beyond, is_full, is_misshapen, has_fall, is_twice, is_unknown, is_loop, with_line}
use Rattle.model_text.proofs.FirstPlace.{found, none_there}
use Rattle.model_text.proofs.ListTests.{neither, false-unless}

-- ---- tests in turn

pub passes : {W : Type 0} (b : Bool) (word : W) (others : Option W) → (if b then Some word else others) ≡ None → (b ≡ false) × (others ≡ None)
passes true word others none = cc
passes false word others none = (refl, none)

pub record PassesAlone (s : Scale) (words : List (List ℕ)) : Type 0 where
  pub names : lacks_names words ≡ false
  pub numbers : lacks_numbers s words ≡ false
  pub limit : is_beyond s words ≡ false

pub record PassesTogether (s : Scale) (m : Entries) (words : List (List ℕ)) : Type 0 where
  pub room : is_full m words ≡ false
  pub shape : is_misshapen s words ≡ false
  pub order : has_fall (line_items s words) ≡ false
  pub once : is_twice m words ≡ false
  pub known : is_unknown m words ≡ false
  pub apart : is_loop words ≡ false

pub yes : (b : Bool) → not b ≡ false → b ≡ true
yes true is = refl
yes false is = cc

-- a line after the header that fails no test
pub record PassesAll (s : Scale) (m : Entries) (words : List (List ℕ)) : Type 0 where
  pub keyword : (is_node_line words || is_arc_line words) ≡ true
  pub alone : PassesAlone s words
  pub together : PassesTogether s m words

pub passes_all : (s : Scale) (m : Entries) (words : List (List ℕ)) → first_fault (entry_tests s m words) ≡ None → PassesAll s m words
passes_all s m words none =
    let keyword = passes (not (is_node_line words || is_arc_line words)) _ _ none in
    let names = passes (lacks_names words) _ _ keyword.1 in
    let numbers = passes (lacks_numbers s words) _ _ names.1 in
    let limit = passes (is_beyond s words) _ _ numbers.1 in
    let room = passes (is_full m words) _ _ limit.1 in
    let shape = passes (is_misshapen s words) _ _ room.1 in
    let order = passes (has_fall (line_items s words)) _ _ shape.1 in
    let once = passes (is_twice m words) _ _ order.1 in
    let known = passes (is_unknown m words) _ _ once.1 in
    let apart = passes (is_loop words) _ _ known.1 in
    record {
      keyword = yes _ keyword.0;
      alone = record { names = names.0; numbers = numbers.0; limit = limit.0 };
      together = record { room = room.0; shape = shape.0; order = order.0; once = once.0; known = known.0; apart = apart.0 };
    }

-- ---- names

pub both : (a b : Bool) → (a && b) ≡ true → (a ≡ true) × (b ≡ true)
both true b all = (refl, all)
both false b all = cc

pub all-at : {X : Type 0} (p : X → Bool) (xs : List X) → list_all p xs ≡ true → (k : ℕ) (d : X) → k < length xs → p (get_or xs k d) ≡ true
all-at p [] all k d below = absurd (omega arith)
all-at p (x ∷ xs) all zero d below = (both (p x) (list_all p xs) all).0
all-at p (x ∷ xs) all (suc k) d below = all-at p xs (both (p x) (list_all p xs) all).1 k d (omega arith)

-- the first name, which every line has
pub first_is_name : (words : List (List ℕ)) → lacks_names words ≡ false → is_name (word_at words 1) ≡ true
unfolding lacks_names line_names
first_is_name words none =
    let two = neither (nat_lt (length (take (names_wanted words) (drop 1 words))) (names_wanted words)) _ none in
    let wanted : 0 < names_wanted words = some (is_node_line words) in
    let many : 0 < length (take (names_wanted words) (drop 1 words)) = grind (arith, nat_tests, two.0) in
    let is = all-at is_name (take (names_wanted words) (drop 1 words)) (yes (list_all is_name (take (names_wanted words) (drop 1 words))) two.1) 0 [] many in
    rw (get_or-take (names_wanted words) (drop 1 words) 0 [] wanted, get_or_after_one words 0 []) at is
  where
    some : (b : Bool) → 0 < (if b then 1 else 3)
    some true = omega arith
    some false = omega arith

-- ---- room

pub node_free : (s : Scale) (m : Entries) (words : List (List ℕ)) → is_node_line words ≡ true → PassesTogether s m words → node_fault m (word_at words 1) ≡ None
unfolding is_twice is_full
node_free s m words node passes =
    let once : is_some (place_of (node_names m) (word_at words 1)) ≡ false = rw node at passes.once in
    let room : nat_le nodes_most (length m.nodes) ≡ false = rw node at (neither (is_node_line words && nat_le nodes_most (length m.nodes)) _ passes.room).0 in
    rw (once, room) refl

-- a name that has a place stands there
named-at : (names : List (List ℕ)) (name : List ℕ) (place : ℕ) → place_of names name ≡ Some place → name ≡ get_or names place []
named-at names name place is =
    let at = found (bytes_eq name) names place (sym is) in
    let there = passes_at_first (bytes_eq name) names [] (rw at.0 at at.1) in
    rw at.0 ((bytes_eq-Decides name _).0 there)

-- two different names have two different places
module _ (names : List (List ℕ)) (one other : List ℕ) where
  clash : (i k : ℕ) → place_of names one ≡ Some i → place_of names other ≡ Some k → i ≡ k → bytes_eq one other ≡ false → ⊥
  clash i k first second same differ =
      let equal = named-at names one i first ∙ ap (λ n. get_or names n []) same ∙ sym (named-at names other k second) in
      let yes = (bytes_eq-Decides one other).1 equal in
      cc

pub arc_free : (s : Scale) (m : Entries) (words : List (List ℕ)) (from to : ℕ) → is_node_line words ≡ false → is_arc_line words ≡ true → PassesTogether s m words
    → place_of (node_names m) (word_at words 2) ≡ Some from → place_of (node_names m) (word_at words 3) ≡ Some to → arc_fault m (word_at words 1) from to ≡ None
unfolding is_twice is_full is_loop
arc_free s m words from to node arc passes tail head =
    let once : is_some (place_of (arc_names m) (word_at words 1)) ≡ false = rw node at passes.once in
    let room : nat_le arcs_most (length m.arcs) ≡ false = rw arc at (neither _ (is_arc_line words && nat_le arcs_most (length m.arcs)) passes.room).1 in
    let apart : bytes_eq (word_at words 2) (word_at words 3) ≡ false = rw arc at passes.apart in
    let differ : (from == to) ≡ false = false-unless (from == to) (λ same. clash (node_names m) (word_at words 2) (word_at words 3) from to tail head (eqb-true from to same) apart) in
    rw (once, differ, room) refl

pub tail_known : (m : Entries) (words : List (List ℕ)) → is_arc_line words ≡ true → is_unknown m words ≡ false
    → (is_some (place_of (node_names m) (word_at words 2)) ≡ true) × (is_some (place_of (node_names m) (word_at words 3)) ≡ true)
unfolding is_unknown
tail_known m words arc known =
    let two : not (is_some (place_of (node_names m) (word_at words 2)) && is_some (place_of (node_names m) (word_at words 3))) ≡ false = rw arc at known in
    both _ _ (yes _ two)

-- ---- whether the ends of an arc are known

module _ (m : Entries) (words : List (List ℕ)) where
  pub node_known : is_arc_line words ≡ false → is_unknown m words ≡ false
  unfolding is_unknown
  node_known arc = rw arc refl

  pub tail_unknown : is_arc_line words ≡ true → place_of (node_names m) (word_at words 2) ≡ None → is_unknown m words ≡ true
  unfolding is_unknown
  tail_unknown arc none = rw (arc, none) refl

  pub head_unknown : is_arc_line words ≡ true → place_of (node_names m) (word_at words 3) ≡ None → is_unknown m words ≡ true
  unfolding is_unknown
  head_unknown arc none = rw (arc, none) (by (is_some (place_of (node_names m) (word_at words 2))))
    where
      by : (there : Bool) → not (there && false) ≡ true
      by true = refl
      by false = refl

  pub ends_known : {from to : ℕ} → is_arc_line words ≡ true → place_of (node_names m) (word_at words 2) ≡ Some from
      → place_of (node_names m) (word_at words 3) ≡ Some to → is_unknown m words ≡ false
  unfolding is_unknown
  ends_known arc tail head = rw (arc, tail, head) refl

-- ---- an entry that has no fault: its name is free, and there is room for it

pub node_room : (m : Entries) (name : List ℕ) → node_fault m name ≡ None → (place_of (node_names m) name ≡ None) × (length m.nodes < nodes_most)
node_room m name none =
    let free = passes (is_some (place_of (node_names m) name)) _ _ none in
    let room = passes (nat_le nodes_most (length m.nodes)) _ _ free.1 in
    (none_there (place_of (node_names m) name) free.0, grind (arith, nat_tests, room.0))

pub arc_room : (m : Entries) (name : List ℕ) (from to : ℕ) → arc_fault m name from to ≡ None
    → (place_of (arc_names m) name ≡ None) × (from ≢ to) × (length m.arcs < arcs_most)
arc_room m name from to none =
    let free = passes (is_some (place_of (arc_names m) name)) _ _ none in
    let apart = passes (from == to) _ _ free.1 in
    let room = passes (nat_le arcs_most (length m.arcs)) _ _ apart.1 in
    (none_there (place_of (arc_names m) name) free.0, grind (arith, nat_tests, apart.0), grind (arith, nat_tests, room.0))

pub node_there : (m : Entries) (name : List ℕ) (place : ℕ) → place_of (node_names m) name ≡ Some place → place < length m.nodes
node_there m name place is = rw (length-map) at (found (bytes_eq name) (node_names m) place (sym is)).1

-- ---- what is added

pub adds_node : (s : Scale) (m : Entries) (words : List (List ℕ)) → is_node_line words ≡ true → with_line s m words ≡ with_node m (word_at words 1) (line_listing s words)
unfolding with_line
adds_node s m words node = rw node refl

pub adds_arc : (s : Scale) (m : Entries) (words : List (List ℕ)) (from to : ℕ) → is_node_line words ≡ false → is_arc_line words ≡ true
    → place_of (node_names m) (word_at words 2) ≡ Some from → place_of (node_names m) (word_at words 3) ≡ Some to
    → with_line s m words ≡ with_arc m (word_at words 1) from to (line_listing s words)
unfolding with_line
adds_arc s m words from to node arc tail head = rw (node, arc, tail, head) refl
