-- A printed line adds the node or the arc that it was printed for, and passes the tests in a model that has room for it.
use Rattle.std.specs.Prelude.{◌≡◌, ℕ, ◌%◌, ◌<◌, ◌==◌, nat_lt, nat_le, true, false, None, Some, unwrap_or, pos, List, ◌∷◌, length, codes, refl}
use Rattle.std.specs.List.{position_or_len}
use Rattle.std.specs.Str.{bytes_eq}
use Rattle.std.proofs.Common.{arith, ◌∙◌, ap}
use Rattle.std.proofs.lemmas.Bool.Decides.{nat_tests}
use Rattle.std.proofs.lemmas.List.{take_at}
use Rattle.std.proofs.Math.Seq.{drop-append_seam}
use Rattle.theory.specs.CurveList.{IsCurveList, Listing}
use Rattle.theory.specs.Grounded.{Entries, NodeEntry}
use Rattle.theory.specs.Limits.{nodes_most, arcs_most, list_most}
use Rattle.model_text.specs.Model.{IsWithinLimits, node_names, arc_names, place_of, with_node, with_arc}
use Rattle.model_text.specs.Names.{is_name}
use Rattle.model_text.specs.Scale.{cost_decimals}
use Rattle.model_text.specs.declared.scale.Scale.{Scale}
use Rattle.model_text.specs.ModelText.{items_of, first_fault, entry_tests, with_line, line_listing, part_listing, line_items, part_items, part_base, part_list, from_base, part_lacks_numbers, part_is_beyond, body, line_names, is_node_line, is_arc_line, lacks_names, lacks_numbers, is_beyond, is_full, is_misshapen, has_fall, is_twice, is_unknown, is_loop, is_base_word, word_at}
use Rattle.model_text.specs.NumberWords.{fixed_of}
use Rattle.model_text.specs.Printed.{printed_list, printed_base, printed_curve}
use Rattle.model_text.proofs.PrintedCurve.{list-read, list-items, list-count, list-ends, base-is-one, base-read, within-small, base-small, list-placed, list-single, list-rises}

-- the words of a printed node, of a printed arc
abbrev pub node_words : Scale → NodeEntry → List (List ℕ)
node_words s node = codes "node" ∷ node.name ∷ printed_curve s node.supply

abbrev pub arc_words : Scale → List ℕ → List ℕ → List ℕ → Listing → List (List ℕ)
arc_words s name tail head curve = codes "arc" ∷ name ∷ tail ∷ head ∷ printed_curve s curve

-- ---- any line whose words after the names are a printed curve

module _ (s : Scale) (words : List (List ℕ)) (curve : Listing) (limits : IsWithinLimits curve) (is_list : IsCurveList curve.items) (printed : body words ≡ printed_curve s curve) where
  ends : position_or_len is_base_word (body words) ≡ length (printed_list s.flow s.tension curve.items)
  ends = ap (λ l. position_or_len is_base_word l) printed ∙ list-ends s.flow s.tension (cost_decimals s) curve.items curve.base limits.items

  list-is : part_list (body words) ≡ printed_list s.flow s.tension curve.items
  list-is = rw (ends, printed) (take_at (printed_list s.flow s.tension curve.items) (printed_base (cost_decimals s) curve.base) (length (printed_list s.flow s.tension curve.items)) refl)

  based-is : from_base (body words) ≡ printed_base (cost_decimals s) curve.base
  based-is = rw (ends, printed) (drop-append_seam (printed_list s.flow s.tension curve.items) (printed_base (cost_decimals s) curve.base))

  items-are : part_items s (body words) ≡ curve.items
  unfolding part_items
  items-are = ap (items_of s.flow s.tension) list-is ∙ list-read s.flow s.tension curve.items limits.items

  base-are : part_base s (body words) ≡ curve.base
  unfolding part_base
  base-are = ap (λ l. unwrap_or (fixed_of (cost_decimals s) (word_at l 1)) (pos 0)) based-is ∙ base-read (cost_decimals s) curve.base limits.base

  some-items : (length curve.items == 0) ≡ false
  some-items = let odd = is_list.odd in grind (arith, nat_tests)

  listing-read : line_listing s words ≡ curve
  unfolding line_listing part_listing
  listing-read = rw (items-are, base-are, some-items) refl

  numbers-there : lacks_numbers s words ≡ false
  unfolding lacks_numbers part_lacks_numbers
  numbers-there = rw (list-is, based-is, list-items s.flow s.tension curve.items limits.items) (base-is-one (cost_decimals s) curve.base limits.base)

  in-limits : is_beyond s words ≡ false
  unfolding is_beyond part_is_beyond
  in-limits =
      let short : nat_lt list_most (length (part_list (body words))) ≡ false =
      rw (list-is, list-count s.flow s.tension curve.items) (let most = limits.short in grind (arith, nat_tests)) in
      rw (short, items-are, base-are, within-small curve.items limits.items) (base-small curve.base limits.base)

  well-shaped : is_misshapen s words ≡ false
  unfolding is_misshapen line_items
  well-shaped =
      let even : (length curve.items % 2 == 0) ≡ false = let odd = is_list.odd in grind (arith, nat_tests) in
      rw (items-are, even, list-placed curve.items is_list) (list-single curve.items is_list)

  ordered : has_fall (line_items s words) ≡ false
  unfolding line_items
  ordered = ap has_fall items-are ∙ list-rises curve.items is_list

-- ---- a node

module _ (s : Scale) (m : Entries) (node : NodeEntry) (limits : IsWithinLimits node.supply) (is_list : IsCurveList node.supply.items) where
  node-body : body (node_words s node) ≡ printed_curve s node.supply
  unfolding is_node_line
  node-body = refl

  pub node-adds : with_line s m (node_words s node) ≡ with_node m node.name node.supply
  unfolding with_line is_node_line
  node-adds = ap (with_node m node.name) (listing-read s (node_words s node) node.supply limits is_list node-body)

  pub node-passes : is_name node.name ≡ true → place_of (node_names m) node.name ≡ None → length m.nodes < nodes_most
      → first_fault (entry_tests s m (node_words s node)) ≡ None
  unfolding is_node_line is_arc_line lacks_names line_names is_full is_twice is_unknown is_loop
  node-passes named free room =
      let roomy : nat_le nodes_most (length m.nodes) ≡ false = grind (arith, nat_tests) in
      rw (
        named,
        numbers-there s (node_words s node) node.supply limits is_list node-body,
        in-limits s (node_words s node) node.supply limits is_list node-body,
        roomy,
        well-shaped s (node_words s node) node.supply limits is_list node-body,
        ordered s (node_words s node) node.supply limits is_list node-body,
        free,
      ) refl

-- ---- an arc

module _ (s : Scale) (m : Entries) (name tail head : List ℕ) (from to : ℕ) (curve : Listing) (limits : IsWithinLimits curve) (is_list : IsCurveList curve.items)
    (tail_at : place_of (node_names m) tail ≡ Some from) (head_at : place_of (node_names m) head ≡ Some to) where
  arc-body : body (arc_words s name tail head curve) ≡ printed_curve s curve
  unfolding is_node_line
  arc-body = refl

  pub arc-adds : with_line s m (arc_words s name tail head curve) ≡ with_arc m name from to curve
  unfolding with_line is_node_line is_arc_line
  arc-adds = rw (listing-read s (arc_words s name tail head curve) curve limits is_list arc-body, tail_at, head_at) refl

  pub arc-passes : is_name name ≡ true → is_name tail ≡ true → is_name head ≡ true → place_of (arc_names m) name ≡ None → length m.arcs < arcs_most
      → bytes_eq tail head ≡ false → first_fault (entry_tests s m (arc_words s name tail head curve)) ≡ None
  unfolding is_node_line is_arc_line lacks_names line_names is_full is_twice is_unknown is_loop
  arc-passes named tail_named head_named free room apart =
      let roomy : nat_le arcs_most (length m.arcs) ≡ false = grind (arith, nat_tests) in
      let words = arc_words s name tail head curve in
      rw (
        named,
        tail_named,
        head_named,
        numbers-there s words curve limits is_list arc-body,
        in-limits s words curve limits is_list arc-body,
        roomy,
        well-shaped s words curve limits is_list arc-body,
        ordered s words curve limits is_list arc-body,
        free,
        tail_at,
        head_at,
        apart,
      ) refl
