-- Which flows, potentials, cuts and circuits a network has depends on the items of its curves alone. So what is found for
-- curves without bases holds with them.
use Rattle.std.proofs.Common.{◌≡◌, ℕ, zero, suc, ℤ, ◌+ℤ◌, List, [], ◌∷◌, Bool, length, refl, sym, ap, ap₂, ◌∙◌, subst}
use Rattle.std.proofs.lemmas.List.{length-map}
use Rattle.theory.specs.declared.ext.Ext.{Ext}
use Rattle.theory.specs.declared.network.Step.{Step}
use Rattle.theory.specs.Ends.{IsFinite, whole}
use Rattle.theory.specs.CurveList.{IsCurveList, Listing}
use Rattle.theory.specs.Domain.{InDomain}
use Rattle.theory.specs.Span.{InSpan}
use Rattle.theory.specs.OnCurve.{IsOnCurve}
use Rattle.theory.specs.Network.{Network, IsNetwork, «at», curve, list_at}
use Rattle.theory.specs.Conserved.{tension}
use Rattle.theory.specs.Feasible.{IsFeasibleFlow, IsFeasiblePotential}
use Rattle.theory.specs.Cut.{cut_end, cut_sum, IsNegativeCut}
use Rattle.theory.specs.Circuit.{span_end, span_sum, SpanCounts, IsNegativeCircuit}
use Rattle.theory.specs.Certificate.{IsOptimalPair}
use Rattle.theory.proofs.SumsBelow.{sum_below-same}
use Rattle.net_incidence.specs.Graph.{Graph, network}
use Rattle.net_incidence.specs.WithoutBases.{without_base, without_bases}

-- ---- lists in place of curves

pub without_bases-items : (g : Graph) (lists : List (List Ext)) (j : ℕ) → (curve (without_bases g lists) j).items ≡ list_at lists j
without_bases-items g [] j = refl
without_bases-items g (items ∷ lists) zero = refl
without_bases-items g (items ∷ lists) (suc j) = without_bases-items g lists j

pub without_bases-network : (g : Graph) (lists : List (List Ext)) → ((j : ℕ) → IsCurveList (list_at lists j)) → length lists ≡ length g.arcs
    → IsNetwork (without_bases g lists)
without_bases-network g lists are one_each = record {
  tails = g.good.tails;
  heads = g.good.heads;
  no_loops = g.good.no_loops;
  one_curve_each = length-map lists without_base ∙ one_each;
  curve_lists = λ j there. subst IsCurveList (sym (without_bases-items g lists j)) (are j);
}

-- ---- two networks of the same lists

module _ (g : Graph) (cs ds : List Listing) (same : (j : ℕ) → (curve (network g cs) j).items ≡ (curve (network g ds) j).items) where
  abbrev one : Network
  one = network g cs

  abbrev other : Network
  other = network g ds

  pub flow-same : (q : ℕ) (x : List ℤ) → IsFeasibleFlow q one x → IsFeasibleFlow q other x
  flow-same q x flow = record {
    one_each = flow.one_each;
    conserved = flow.conserved;
    in_domains = λ j there. subst (λ (items : List Ext). InDomain q items («at» x j)) (same j) (flow.in_domains j there);
  }

  pub potential-same : (q : ℕ) (u : List ℤ) → IsFeasiblePotential q one u → IsFeasiblePotential q other u
  potential-same q u potential = record {
    one_each = potential.one_each;
    ground = potential.ground;
    in_spans = λ j there. subst (λ (items : List Ext). InSpan q items (tension other («at» u) j)) (same j) (potential.in_spans j there);
  }

  pub pair-same : (x u : List ℤ) → IsOptimalPair one x u → IsOptimalPair other x u
  pair-same x u pair = record {
    conserved = pair.conserved;
    on_curves = λ j there. subst (λ (items : List Ext). IsOnCurve 1 items («at» x j) (tension other («at» u) j)) (same j) (pair.on_curves j there);
  }

  cut_end-same : (side : List Bool) (j : ℕ) → cut_end one side j ≡ cut_end other side j
  cut_end-same side j = rw (same j) refl

  pub cut-same : (side : List Bool) → IsNegativeCut one side → IsNegativeCut other side
  cut-same side cut =
      let sum : cut_sum one side ≡ cut_sum other side =
      sum_below-same (length g.arcs) (λ j. whole (cut_end one side j)) (λ j. whole (cut_end other side j)) (λ j there. ap whole (cut_end-same side j)) in
      record {
        counts = λ j there. subst IsFinite (cut_end-same side j) (cut.counts j there);
        negative = rw sum at cut.negative;
      }

  span_end-same : (s : Step) → span_end one s ≡ span_end other s
  span_end-same s = rw (same s.arc.0) refl

  span_counts-same : (walk : List Step) → SpanCounts one walk → SpanCounts other walk
  span_counts-same [] counts = counts
  span_counts-same (s ∷ walk) counts = (subst IsFinite (span_end-same s) counts.0, span_counts-same walk counts.1)

  span_sum-same : (walk : List Step) → span_sum one walk ≡ span_sum other walk
  span_sum-same [] = refl
  span_sum-same (s ∷ walk) = ap₂ (λ a b. a +ℤ b) (ap whole (span_end-same s)) (span_sum-same walk)

  pub circuit-same : (walk : List Step) → IsNegativeCircuit one walk → IsNegativeCircuit other walk
  circuit-same walk circuit = record {
    circuit = record {
      not_empty = circuit.circuit.not_empty;
      joined = circuit.circuit.joined;
      closed = circuit.circuit.closed;
      nodes_differ = circuit.circuit.nodes_differ;
      arcs_differ = circuit.circuit.arcs_differ;
    };
    counts = span_counts-same walk circuit.counts;
    negative = rw (span_sum-same walk) at circuit.negative;
  }
