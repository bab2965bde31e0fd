-- What is found for the items of the curves holds for the curves with their bases: which flows, potentials, cuts and paths a network has
-- depends on the items alone.
use Rattle.std.proofs.Common.{◌≡◌, ℕ, ℤ, ◌+ℤ◌, List, [], ◌∷◌, Bool, map, refl, sym, ap, ap₂, ◌∙◌, subst}
use Rattle.theory.specs.declared.network.Step.{Step}
use Rattle.theory.specs.Ends.{IsFinite, whole}
use Rattle.theory.specs.CurveList.{Listing}
use Rattle.theory.specs.Network.{Network, «at», curve}
use Rattle.theory.specs.Feasible.{IsFeasibleFlow, IsFeasiblePotential}
use Rattle.theory.specs.Cut.{cut_end, IsNegativeCut}
use Rattle.theory.specs.Circuit.{step, span_end, span_sum, SpanCounts, IsNegativeCircuit}
use Rattle.theory.proofs.SumsBelow.{sum_below-same}
use Rattle.mono_curve.specs.CurveValue.{CurveValue}
use Rattle.net_incidence.specs.Graph.{Graph, network}
use Rattle.ground_net.specs.Ground.{listings}
use Rattle.ground_net.proofs.Items.{items_of, items-same}
use Rattle.net_incidence.specs.WithoutBases.{without_bases, without_base}
use Rattle.net_incidence.proofs.WithoutBases.{flow-same, potential-same, cut-same, circuit-same}
use Rattle.path_cut.specs.Paths.{IsPath}
use Rattle.path_cut.specs.GreatestFlow.{return_arc, HasReturn, IsCutOf, IsOpenPath}
use Rattle.path_cut.specs.GreatestTension.{IsPathOf, IsOpenCut}

module _ (g : Graph) (cs ds : List Listing) (same : (j : ℕ) → (curve (network g cs) j).items ≡ (curve (network g ds) j).items) where
  abbrev one : Network
  one = network g cs

  abbrev other : Network
  other = network g ds

  return-same : HasReturn one → HasReturn other
  return-same r = record {
    some = r.some;
    no_lower = rw (same (return_arc one)) at r.no_lower;
    no_upper = rw (same (return_arc one)) at r.no_upper;
  }

  cut_end-same : (side : List Bool) (j : ℕ) → cut_end one side j ≡ cut_end other side j
  cut_end-same side j = rw (same j) refl

  cut_of-same : (side : List Bool) (t : ℤ) → IsCutOf one side t → IsCutOf other side t
  cut_of-same side t cut = record {
    holds_start = cut.holds_start;
    lacks_goal = cut.lacks_goal;
    counts = λ j l. subst IsFinite (cut_end-same side j) (cut.counts j l);
    sum = sym (sum_below-same (return_arc one) (λ j. whole (cut_end one side j)) (λ j. whole (cut_end other side j))
        (λ j l. ap whole (cut_end-same side j))) ∙ cut.sum;
  }

  path-same : (walk : List Step) (from to : ℕ) → IsPath one walk from to → IsPath other walk from to
  path-same walk from to path = record {
    not_empty = path.not_empty;
    there = path.there;
    begins = path.begins;
    joined = path.joined;
    ends = path.ends;
    begins_differ = path.begins_differ;
    ends_differ = path.ends_differ;
    arcs_differ = path.arcs_differ;
  }

  open_path-same : (walk : List Step) → IsOpenPath one walk → IsOpenPath other walk
  open_path-same walk opens = record {
    path = path-same walk _ _ opens.path;
    others = opens.others;
    endless = λ k l. rw (same (step walk k).arc.0) at (opens.endless k l);
  }

  span_end-same : (s : Step) → span_end one s ≡ span_end other s
  span_end-same s = rw (same s.arc.0) refl

  counts-same : (walk : List Step) → SpanCounts one walk → SpanCounts other walk
  counts-same [] counts = counts
  counts-same (s ∷ walk) counts = (subst IsFinite (span_end-same s) counts.0, counts-same walk counts.1)

  sum-same : (walk : List Step) → span_sum one walk ≡ span_sum other walk
  sum-same [] = refl
  sum-same (s ∷ walk) = ap₂ (λ a b. a +ℤ b) (ap whole (span_end-same s)) (sum-same walk)

  path_of-same : (walk : List Step) (from to : ℕ) (t : ℤ) → IsPathOf one walk from to t → IsPathOf other walk from to t
  path_of-same walk from to t path = record {
    path = path-same walk from to path.path;
    counts = counts-same walk path.counts;
    sum = sym (sum-same walk) ∙ path.sum;
  }

  open_cut-same : (side : List Bool) (from to : ℕ) → IsOpenCut one side from to → IsOpenCut other side from to
  open_cut-same side from to cut = record {
    holds_from = cut.holds_from;
    lacks_to = cut.lacks_to;
    leaving = λ j l tail_in head_out. rw (same j) at (cut.leaving j l tail_in head_out);
    entering = λ j l tail_out head_in. rw (same j) at (cut.entering j l tail_out head_in);
  }

module _ (g : Graph) (curves : List CurveValue) (net : Network) (is : network g (listings curves) ≡ net) where
  abbrev bare_lists : List Listing
  bare_lists = map without_base (items_of curves)

  pub flow-of : (x : List ℤ) → IsFeasibleFlow 1 (without_bases g (items_of curves)) x → IsFeasibleFlow 1 net x
  flow-of x flow = subst (λ (n : Network). IsFeasibleFlow 1 n x) is (flow-same g bare_lists (listings curves) (items-same curves) 1 x flow)

  pub flow-to : (x : List ℤ) → IsFeasibleFlow 1 net x → IsFeasibleFlow 1 (without_bases g (items_of curves)) x
  flow-to x flow =
      flow-same g (listings curves) bare_lists (λ j. sym (items-same curves j)) 1 x (subst (λ (n : Network). IsFeasibleFlow 1 n x) (sym is) flow)

  pub potential-of : (u : List ℤ) → IsFeasiblePotential 1 (without_bases g (items_of curves)) u → IsFeasiblePotential 1 net u
  potential-of u potential =
      subst (λ (n : Network). IsFeasiblePotential 1 n u) is (potential-same g bare_lists (listings curves) (items-same curves) 1 u potential)

  pub potential-to : (u : List ℤ) → IsFeasiblePotential 1 net u → IsFeasiblePotential 1 (without_bases g (items_of curves)) u
  potential-to u potential =
      potential-same g (listings curves) bare_lists (λ j. sym (items-same curves j)) 1 u
      (subst (λ (n : Network). IsFeasiblePotential 1 n u) (sym is) potential)

  pub cut-of : (side : List Bool) → IsNegativeCut (without_bases g (items_of curves)) side → IsNegativeCut net side
  cut-of side cut = subst (λ (n : Network). IsNegativeCut n side) is (cut-same g bare_lists (listings curves) (items-same curves) side cut)

  pub circuit-of : (walk : List Step) → IsNegativeCircuit (without_bases g (items_of curves)) walk → IsNegativeCircuit net walk
  circuit-of walk circuit =
      subst (λ (n : Network). IsNegativeCircuit n walk) is (circuit-same g bare_lists (listings curves) (items-same curves) walk circuit)

  pub return-to : HasReturn net → HasReturn (without_bases g (items_of curves))
  return-to r =
      return-same g (listings curves) bare_lists (λ j. sym (items-same curves j)) (subst (λ (n : Network). HasReturn n) (sym is) r)

  pub cut_of-of : (side : List Bool) (t : ℤ) → IsCutOf (without_bases g (items_of curves)) side t → IsCutOf net side t
  cut_of-of side t cut =
      subst (λ (n : Network). IsCutOf n side t) is (cut_of-same g bare_lists (listings curves) (items-same curves) side t cut)

  pub open_path-of : (walk : List Step) → IsOpenPath (without_bases g (items_of curves)) walk → IsOpenPath net walk
  open_path-of walk opens =
      subst (λ (n : Network). IsOpenPath n walk) is (open_path-same g bare_lists (listings curves) (items-same curves) walk opens)

  pub path_of-of : (walk : List Step) (from to : ℕ) (t : ℤ) → IsPathOf (without_bases g (items_of curves)) walk from to t
      → IsPathOf net walk from to t
  path_of-of walk from to t path =
      subst (λ (n : Network). IsPathOf n walk from to t) is (path_of-same g bare_lists (listings curves) (items-same curves) walk from to t path)

  pub open_cut-of : (side : List Bool) (from to : ℕ) → IsOpenCut (without_bases g (items_of curves)) side from to → IsOpenCut net side from to
  open_cut-of side from to cut =
      subst (λ (n : Network). IsOpenCut n side from to) is (open_cut-same g bare_lists (listings curves) (items-same curves) side from to cut)

  pub carries-of : (t : ℤ) (x : List ℤ) → «at» x (return_arc (without_bases g (items_of curves))) ≡ t → «at» x (return_arc net) ≡ t
  carries-of t x carries = subst (λ (n : Network). «at» x (return_arc n) ≡ t) is carries
