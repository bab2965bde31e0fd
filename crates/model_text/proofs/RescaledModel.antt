-- The nodes and arcs of a model at another scale, added in turn. Names are those of the model, so each is new among those
-- before it, and there is room for it as there was in the model.
use Rattle.std.specs.Prelude.{◌≡◌, ℕ, ◌+◌, ◌<◌, nat_le, ◌==◌, Bool, false, ◌||◌, if◌then◌else◌, is_some, None, Some, List, [], ◌∷◌, length, map, take, drop, refl}
use Rattle.std.proofs.Common.{arith, sym, ap, ◌∙◌}
use Rattle.std.proofs.lemmas.Bool.Decides.{nat_tests}
use Rattle.std.proofs.lemmas.Grind.{take_at_read}
use Rattle.std.proofs.lemmas.List.{drop_more, length-map, length-take, map-append}
use Rattle.std.proofs.lemmas.Simd.{map-map}
use Rattle.theory.specs.Grounded.{Entries, NodeEntry, ArcEntry}
use Rattle.theory.specs.Limits.{nodes_most, arcs_most}
use Rattle.model_text.specs.Model.{IsWellFormed, node_names, arc_names, node_at, arc_at, node_fault, arc_fault, with_node, with_arc, place_of}
use Rattle.model_text.specs.Scale.{plain}
use Rattle.model_text.specs.declared.scale.Scale.{Scale}
use Rattle.model_text.specs.declared.model.AddFault.TheVariants.{Twice, Loop, Full}
use Rattle.model_text.specs.Rescaled.{rescaled_node, rescaled_arc, rescaled_curve, is_curve_inexact, are_nodes_inexact, are_arcs_inexact}
use Rattle.model_text.proofs.PrintedModel.{node-fresh, arc-fresh, no_node, no_arc}

-- where none of the tests before holds, there is no fault
free-node : (taken full : Bool) → taken ≡ false → full ≡ false → ◌≡◌ {A = _} (if taken then Some Twice else (if full then Some Full else None)) None
free-node taken full taken-not full-not = rw (taken-not, full-not) refl

free-arc : (taken loop full : Bool) → taken ≡ false → loop ≡ false → full ≡ false
    → ◌≡◌ {A = _} (if taken then Some Twice else (if loop then Some Loop else (if full then Some Full else None))) None
free-arc taken loop full taken-not loop-not full-not = rw (taken-not, loop-not, full-not) refl

module _ (s t : Scale) (m : Entries) (formed : IsWellFormed m) where
  -- the model with the nodes before a place, and with all nodes and the arcs before a place
  abbrev pub nodes_before : ℕ → Entries
  nodes_before i = record { nodes = map (rescaled_node s t) (take i m.nodes); arcs = [] }

  abbrev pub arcs_before : ℕ → Entries
  arcs_before j = record { nodes = map (rescaled_node s t) m.nodes; arcs = map (rescaled_arc s t) (take j m.arcs) }

  node-names : (i : ℕ) → node_names (nodes_before i) ≡ map (λ (node : NodeEntry). node.name) (take i m.nodes)
  node-names i = map-map (λ (node : NodeEntry). node.name) (rescaled_node s t) (take i m.nodes)

  arc-names : (j : ℕ) → arc_names (arcs_before j) ≡ map (λ (arc : ArcEntry). arc.name) (take j m.arcs)
  arc-names j = map-map (λ (arc : ArcEntry). arc.name) (rescaled_arc s t) (take j m.arcs)

  pub node-free : (i : ℕ) → i < length m.nodes → node_fault (nodes_before i) (node_at m i).name ≡ None
  node-free i below =
      free-node _ _
      (ap (λ names. is_some (place_of names (node_at m i).name)) (node-names i) ∙ ap is_some (node-fresh plain refl m formed i below))
      (room (length (map (rescaled_node s t) (take i m.nodes))) (omega (arith, formed.few_nodes, length-map (take i m.nodes) (rescaled_node s t), length-take i m.nodes)))
    where
      room : (n : ℕ) → n < nodes_most → nat_le nodes_most n ≡ false
      room n less = grind (arith, nat_tests)

  pub arc-free : (j : ℕ) → j < length m.arcs → arc_fault (arcs_before j) (arc_at m j).name (arc_at m j).from (arc_at m j).to ≡ None
  arc-free j below =
      free-arc _ _ _
      (ap (λ names. is_some (place_of names (arc_at m j).name)) (arc-names j) ∙ ap is_some (arc-fresh plain refl m formed j below))
      (apart (arc_at m j).from (arc_at m j).to (formed.model.no_loops j no_arc below))
      (room (length (map (rescaled_arc s t) (take j m.arcs))) (omega (arith, formed.few_arcs, length-map (take j m.arcs) (rescaled_arc s t), length-take j m.arcs)))
    where
      room : (n : ℕ) → n < arcs_most → nat_le arcs_most n ≡ false
      room n less = grind (arith, nat_tests)

      apart : (a b : ℕ) → (a ≡ b → ⊥) → (a == b) ≡ false
      apart a b differ = grind (arith, nat_tests)

  -- ---- one more

  pub node-more : (i : ℕ) → i < length m.nodes
      → with_node (nodes_before i) (node_at m i).name (rescaled_curve s t (node_at m i).supply) ≡ nodes_before (i + 1)
  node-more i below =
      ap (λ (nodes : List NodeEntry). record { nodes = nodes; arcs = [] })
      (sym (ap (map (rescaled_node s t)) (take_at_read m.nodes i no_node below).1 ∙ map-append (rescaled_node s t) (take i m.nodes) (node_at m i ∷ [])))

  pub arc-more : (j : ℕ) → j < length m.arcs
      → with_arc (arcs_before j) (arc_at m j).name (arc_at m j).from (arc_at m j).to (rescaled_curve s t (arc_at m j).curve) ≡ arcs_before (j + 1)
  arc-more j below =
      ap (λ (arcs : List ArcEntry). record { nodes = map (rescaled_node s t) m.nodes; arcs = arcs })
      (sym (ap (map (rescaled_arc s t)) (take_at_read m.arcs j no_arc below).1 ∙ map-append (rescaled_arc s t) (take j m.arcs) (arc_at m j ∷ [])))

  pub node-test : (i : ℕ) → i < length m.nodes
      → are_nodes_inexact s t (drop i m.nodes) ≡ (is_curve_inexact s t (node_at m i).supply || are_nodes_inexact s t (drop (i + 1) m.nodes))
  node-test i below = ap (are_nodes_inexact s t) (drop_more m.nodes i no_node below)

  pub arc-test : (j : ℕ) → j < length m.arcs
      → are_arcs_inexact s t (drop j m.arcs) ≡ (is_curve_inexact s t (arc_at m j).curve || are_arcs_inexact s t (drop (j + 1) m.arcs))
  arc-test j below = ap (are_arcs_inexact s t) (drop_more m.arcs j no_arc below)
