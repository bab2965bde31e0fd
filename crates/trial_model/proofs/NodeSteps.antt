-- The loop over the nodes: the nodes so far, the sum of their supplies, and the state that their draws left.
use Rattle.std.proofs.Common.{◌≡◌, ◌≢◌, ℕ, ◌+◌, ◌*◌, ◌<◌, ℤ, pos, neg_ℤ, ◌+ℤ◌, ◌-ℤ◌, ◌≤ℤ◌, false, List, [], ◌∷◌, ◌++◌, length, None, refl, sym, ap, ◌∙◌, subst, arith}
use Rattle.std.specs.Prelude.{is_some, nat_le}
use Rattle.std.proofs.lemmas.Bool.Decides.{nat_tests}
use Rattle.std.proofs.lemmas.Int.{ints}
use Rattle.theory.specs.declared.ext.Ext.TheVariants.{At}
use Rattle.theory.specs.Grounded.{Entries, NodeEntry}
use Rattle.theory.specs.Limits.{nodes_most}
use Rattle.theory.specs.Sums.{Each, sum_over}
use Rattle.model_text.specs.Model.{no_entries, with_node, node_fault, node_names, place_of}
use Rattle.trial_model.specs.Generator.{state_after, drawn}
use Rattle.trial_model.specs.Trial.{values_below, numbered, listed, drawn_supply, drawn_node}
use Rattle.trial_model.proofs.StateLemmas.{drawn-below, none_drawn, later_state, later_draw}
use Rattle.trial_model.proofs.ListLemmas.{values-none, values-more, length-values, each-map, each-values, no_place}
use Rattle.trial_model.proofs.NameLemmas.{numbered-differ}

pub record AreDrawn (state count : ℕ) (entries : Entries) (now : ℕ) (sum : ℤ) : Type 0 where
  pub entries_are : entries ≡ record { nodes = values_below count (drawn_node state); arcs = [] }
  pub state_is : now ≡ state_after state count
  pub sum_is : sum ≡ sum_over (λ supply. supply) (values_below count (drawn_supply state))
  pub low : neg_ℤ (pos (10 * count)) ≤ℤ sum
  pub high : sum ≤ℤ pos (10 * count)

sum_over-last : (xs : List ℤ) (x : ℤ) → sum_over (λ y. y) (xs ++ x ∷ []) ≡ sum_over (λ y. y) xs +ℤ x
sum_over-last [] x = omega (arith, ints)
sum_over-last (y ∷ xs) x = omega (arith, ints, sum_over-last xs x)

pub nothing_drawn : (state : ℕ) (entries : Entries) → entries ≡ no_entries → AreDrawn state 0 entries state (pos 0)
nothing_drawn state entries is = record {
  entries_are = is ∙ ap (λ (ns : List NodeEntry). record { nodes = ns; arcs = [] }) (sym (values-none (drawn_node state)));
  state_is = sym (none_drawn state);
  sum_is = ap (sum_over (λ supply. supply)) (sym (values-none (drawn_supply state)));
  low = omega (arith, ints);
  high = omega (arith, ints);
}

-- ---- one node further

pub supply_is : (state count now draw : ℕ) → now ≡ state_after state count → draw ≡ drawn now 1 21 → pos draw -ℤ pos 10 ≡ drawn_supply state count
supply_is state count now draw before this = ap (λ d. pos d -ℤ pos 10) (later_draw state count now 21 draw before this)

pub one_more : (state count : ℕ) (entries next : Entries) (now later draw : ℕ) (sum : ℤ) → AreDrawn state count entries now sum → draw ≡ drawn now 1 21
    → next ≡ with_node entries (numbered 110 count) (listed (At (pos draw -ℤ pos 10) ∷ [])) → later ≡ state_after now 1
    → AreDrawn state (count + 1) next later (sum +ℤ (pos draw -ℤ pos 10))
one_more state count entries next now later draw sum so_far this added after =
    let supply = pos draw -ℤ pos 10 in
    let is : supply ≡ drawn_supply state count = supply_is state count now draw so_far.state_is this in
    let small : drawn state (count + 1) 21 < 21 = drawn-below state (count + 1) 21 (omega arith) in
    let same : draw ≡ drawn state (count + 1) 21 = later_draw state count now 21 draw so_far.state_is this in
    let low = so_far.low in
    let high = so_far.high in
    record {
      entries_are =
          added ∙ ap (λ (m : Entries). with_node m (numbered 110 count) (listed (At supply ∷ []))) so_far.entries_are
          ∙ ap (λ z. with_node (record { nodes = values_below count (drawn_node state); arcs = [] }) (numbered 110 count) (listed (At z ∷ []))) is
          ∙ ap (λ (ns : List NodeEntry). record { nodes = ns; arcs = [] }) (sym (values-more count (drawn_node state)));
      state_is = later_state state count now later so_far.state_is after;
      sum_is =
          ap (λ s. s +ℤ supply) so_far.sum_is ∙ ap (λ z. sum_over (λ y. y) (values_below count (drawn_supply state)) +ℤ z) is
          ∙ sym (sum_over-last (values_below count (drawn_supply state)) (drawn_supply state count))
          ∙ ap (sum_over (λ supply. supply)) (sym (values-more count (drawn_supply state)));
      low = omega (arith, ints);
      high = omega (arith, ints);
    }

-- ---- the name of a further node is free

pub node_free : (m : Entries) (name : List ℕ) → Each (λ node. node.name ≢ name) m.nodes → length m.nodes < nodes_most → node_fault m name ≡ None
node_free m name apart few =
    let none : is_some (place_of (node_names m) name) ≡ false = ap is_some (no_place name (node_names m) (each-map (λ other. other ≢ name) (λ (node : NodeEntry). node.name) m.nodes apart)) in
    let room : nat_le nodes_most (length m.nodes) ≡ false = grind (arith, nat_tests) in
    rw (none, room) refl

pub next_free : (state count : ℕ) (entries : Entries) → count < 1000 → entries ≡ record { nodes = values_below count (drawn_node state); arcs = [] }
    → node_fault entries (numbered 110 count) ≡ None
next_free state count entries small is =
    let m : Entries = record { nodes = values_below count (drawn_node state); arcs = [] } in
    subst (λ (e : Entries). node_fault e (numbered 110 count) ≡ None) (sym is)
    (node_free m (numbered 110 count)
    (each-values (λ node. node.name ≢ numbered 110 count) count (drawn_node state) (λ k below. numbered-differ 110 k count (omega arith) small (omega arith)))
    (omega (arith, length-values count (drawn_node state))))
