-- A grounded network grows by its arcs in order: ground arc k is number k, arc k of the model is number N + k, with N the
-- count of model nodes. What is built after all of them is the grounded network, and that is a network.
use Rattle.std.proofs.Common.{◌≡◌, ℕ, ◌+◌, ◌<◌, List, [], ◌∷◌, ◌++◌, length, take, get_or, slice_index_or, refl, sym, ap, ◌∙◌, subst, pos, add-one, arith}
use Rattle.std.proofs.lemmas.List.{take_all}
use Rattle.std.proofs.lemmas.List.Elements.{All-get_or}
use Rattle.std.proofs.Math.Seq.{take-suc}
use Rattle.theory.specs.declared.network.Arc.{Arc}
use Rattle.theory.specs.CurveList.{Listing}
use Rattle.theory.specs.Network.{arc_at, curve}
use Rattle.theory.specs.Grounded.{Entries, NodeEntry, ArcEntry, grounded, joining}
use Rattle.theory.proofs.GroundedLaw.{length-grounded_arcs, length-grounded_curves, arc_at-ground, arc_at-model, curve-ground, curve-model, by_arc, tail-ground, head-ground, grounded_is_network}
use Rattle.net_incidence.specs.Graph.{Graph, network}
use Rattle.model_text.specs.Model.{IsWellFormed, IsWithinLimits}
use Rattle.ground_net.specs.Ground.{IsGrounded}
use Rattle.ground_net.specs.Built.{IsBuilt}

-- ---- one element more

taken-more : {A : Type 0} (xs ys zs : List A) (k : ℕ) (x d : A) → k < length xs → ys ≡ take k xs → get_or xs k d ≡ x → zs ≡ ys ++ x ∷ []
    → zs ≡ take (k + 1) xs
taken-more xs ys zs k x d there before is more =
    more ∙ ap (λ some. some ++ x ∷ []) before ∙ ap (λ last. take k xs ++ last ∷ []) (sym is) ∙ sym (rw add-one (take-suc xs k d there))

built-more : (m : Entries) (k : ℕ) (g h : Graph) (listed more : List Listing) (arc : Arc) (c : Listing) → k < length m.nodes + length m.arcs
    → IsBuilt m k g listed → arc_at (grounded m).arcs k ≡ arc → curve (grounded m) k ≡ c
    → h.nodes ≡ g.nodes → h.arcs ≡ g.arcs ++ arc ∷ [] → more ≡ listed ++ c ∷ [] → IsBuilt m (k + 1) h more
built-more m k g h listed more arc c there built arc_is curve_is nodes arcs curves =
    let in_arcs : k < length (grounded m).arcs = (let e = length-grounded_arcs m in omega arith) in
    let in_curves : k < length (grounded m).curves = (let e = length-grounded_curves m in omega arith) in
    record {
      nodes = nodes ∙ built.nodes;
      arcs = taken-more (grounded m).arcs g.arcs h.arcs k arc _ in_arcs built.arcs arc_is arcs;
      curves = taken-more (grounded m).curves listed more k c _ in_curves built.curves curve_is curves;
    }

pub built-ground : (m : Entries) (k : ℕ) (g h : Graph) (listed more : List Listing) (d : NodeEntry) → k < length m.nodes → IsBuilt m k g listed
    → h.nodes ≡ g.nodes → h.arcs ≡ g.arcs ++ joining 0 (k + 1) ∷ [] → more ≡ listed ++ (slice_index_or m.nodes k d).supply ∷ []
    → IsBuilt m (k + 1) h more
built-ground m k g h listed more d there built nodes arcs curves =
    built-more m k g h listed more (joining 0 (k + 1)) (slice_index_or m.nodes k d).supply (omega arith) built
    (arc_at-ground m k there) (curve-ground m k d there) nodes arcs curves

pub built-model : (m : Entries) (k : ℕ) (g h : Graph) (listed more : List Listing) (d : ArcEntry) → k < length m.arcs
    → IsBuilt m (length m.nodes + k) g listed → h.nodes ≡ g.nodes
    → h.arcs ≡ g.arcs ++ joining ((slice_index_or m.arcs k d).from + 1) ((slice_index_or m.arcs k d).to + 1) ∷ []
    → more ≡ listed ++ (slice_index_or m.arcs k d).curve ∷ [] → IsBuilt m (length m.nodes + (k + 1)) h more
built-model m k g h listed more d there built nodes arcs curves =
    let next : length m.nodes + (k + 1) ≡ length m.nodes + k + 1 = omega arith in
    rw next
    (built-more m (length m.nodes + k) g h listed more
    (joining ((slice_index_or m.arcs k d).from + 1) ((slice_index_or m.arcs k d).to + 1)) (slice_index_or m.arcs k d).curve
    (omega arith) built (arc_at-model m k d there) (curve-model m k d there) nodes arcs curves)

-- ---- the whole

pub built-all : (m : Entries) (g : Graph) (listed : List Listing) → IsBuilt m (length m.nodes + length m.arcs) g listed
    → network g listed ≡ grounded m
built-all m g listed built =
    let arcs : g.arcs ≡ (grounded m).arcs = built.arcs ∙ take_all _ (grounded m).arcs (let e = length-grounded_arcs m in omega arith) in
    let curves : listed ≡ (grounded m).curves = built.curves ∙ take_all _ (grounded m).curves (let e = length-grounded_curves m in omega arith) in
    let nodes : g.nodes ≡ (grounded m).nodes = built.nodes in
    rw (nodes, arcs, curves) refl

pub grounded-is : (m : Entries) → IsWellFormed m → IsGrounded (grounded m)
grounded-is m formed =
    let arcs = length-grounded_arcs m in
    let no_node : NodeEntry = record { name = []; supply = record { items = []; base = pos 0 } } in
    let no_arc : ArcEntry = record { name = []; from = 0; to = 0; curve = record { items = []; base = pos 0 } } in
    record {
      is_network = grounded_is_network m formed.model;
      tails = λ i l. tail-ground m i (omega arith);
      heads = λ i l. head-ground m i (omega arith);
      arc_each = omega arith;
      ground_there = omega arith;
      few_nodes = omega (arith, formed.few_nodes);
      few_arcs = omega (arith, formed.few_nodes, formed.few_arcs);
      curves_within = by_arc m (λ j. IsWithinLimits (curve (grounded m) j))
          (λ i l. subst IsWithinLimits (sym (curve-ground m i no_node l)) (All-get_or (λ node. IsWithinLimits node.supply) m.nodes i no_node l formed.supplies))
          (λ k l. subst IsWithinLimits (sym (curve-model m k no_arc l)) (All-get_or (λ arc. IsWithinLimits arc.curve) m.arcs k no_arc l formed.curves));
    }

pub built-is_grounded : (m : Entries) (g : Graph) (listed : List Listing) → IsWellFormed m
    → IsBuilt m (length m.nodes + length m.arcs) g listed → IsGrounded (network g listed)
built-is_grounded m g listed formed built = rw (built-all m g listed built) (grounded-is m formed)
