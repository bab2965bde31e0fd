-- One curve changes. A certificate speaks of each arc's curve by itself: pairs on curves, flows in domains, ends of sums. So all
-- that it says of the other arcs still holds, and its sums move by what the changed arc added before and adds now. A circuit
-- passes the arc once at most, since its arcs differ.
use Rattle.std.proofs.Common.{◌≡◌, ◌≢◌, ℕ, zero, suc, ◌<◌, ◌≤◌, ℤ, ◌+ℤ◌, Bool, List, [], ◌∷◌, length, set, sym, ap, subst, ◌∙◌, ⊎_elim, arith}
use Rattle.std.proofs.lemmas.Bool.{cases_eq, cases_lt}
use Rattle.std.proofs.lemmas.Int.{ints}
use Rattle.std.proofs.lemmas.List.{set-set, set-get_or}
use Rattle.theory.specs.declared.network.Step.{Step}
use Rattle.theory.specs.Sums.{Each}
use Rattle.theory.specs.CurveList.{Listing}
use Rattle.theory.specs.Ends.{IsFinite, whole}
use Rattle.theory.specs.Domain.{InDomain}
use Rattle.theory.specs.OnCurve.{IsOnCurve}
use Rattle.theory.specs.Cost.{cost}
use Rattle.theory.specs.Network.{Network, IsNetwork, «at», tail, head, curve}
use Rattle.theory.specs.Conserved.{tension}
use Rattle.theory.specs.Feasible.{IsFeasibleFlow}
use Rattle.theory.specs.Totals.{total_cost}
use Rattle.theory.specs.Cut.{holds, cut_end, cut_sum, CutCounts}
use Rattle.theory.specs.Circuit.{step, passing_end, span_end, span_sum, SpanCounts, IsCircuit}
use Rattle.theory.specs.Certificate.{IsOptimalPair}
use Rattle.theory.proofs.SumsBelow.{sum_below-same, sum_below-change}
use Rattle.net_incidence.specs.PartOf.{crossing_end}
use Rattle.net_incidence.proofs.SumParts.{each-places, span_sum-places}
use Rattle.ground_net.specs.Ground.{replaced}
use Rattle.ground_net.proofs.Replacing.{replaced-there, replaced-elsewhere}

-- the curve that stood there put back
pub put_back : (net changed : Network) (a : ℕ) (c before : Listing) → changed ≡ replaced net a c → before ≡ curve net a → replaced changed a before ≡ net
put_back net changed a c before is was =
    ap (λ (n : Network). replaced n a before) is
    ∙ ap (λ (curves : List Listing). record net { curves = curves })
    (set-set net.curves a c before ∙ ap (λ (b : Listing). set net.curves a b) was ∙ set-get_or net.curves a _)

Each-at : (P : Step → Type 0) (walk : List Step) → Each P walk → (k : ℕ) → k < length walk → P (step walk k)
Each-at P [] each k l = absurd (omega arith)
Each-at P (s ∷ walk) each zero l = each.0
Each-at P (s ∷ walk) each (suc k) l = Each-at P walk each.1 k (omega arith)

module _ (net : Network) (a : ℕ) (b : Listing) (good : IsNetwork net) (there : a < length net.arcs) where
  -- the network before
  abbrev pub old : Network
  old = replaced net a b

  pub was : curve old a ≡ b
  was = replaced-there net a b (omega (arith, good.one_curve_each))

  elsewhere : (k : ℕ) → k ≢ a → curve old k ≡ curve net k
  elsewhere k other = replaced-elsewhere net a b k other

  -- what held of each curve holds, if it holds of the new one
  each-curve : (P : ℕ → Listing → Type 0) → P a (curve net a) → ((k : ℕ) → k < length net.arcs → P k (curve old k))
      → (k : ℕ) → k < length net.arcs → P k (curve net k)
  each-curve P here before k place =
      ⊎_elim
      (λ (same : k ≡ a). subst (λ (j : ℕ). P j (curve net j)) (sym same) here)
      (λ (other : k ≢ a). subst (P k) (elsewhere k other) (before k place))
      (cases_eq k a)

  -- ---- a pair

  pub pair-stays : (x u : List ℤ) → IsOptimalPair old x u → IsOnCurve 1 (curve net a).items («at» x a) (tension net («at» u) a)
      → IsOptimalPair net x u
  pair-stays x u pair here = record {
    conserved = pair.conserved;
    on_curves = each-curve (λ k c. IsOnCurve 1 c.items («at» x k) (tension net («at» u) k)) here pair.on_curves;
  }

  pub cost-moves : (x : ℕ → ℤ) → total_cost 1 net x +ℤ cost 1 b (x a) ≡ total_cost 1 old x +ℤ cost 1 (curve net a) (x a)
  cost-moves x =
      subst (λ (c : Listing). total_cost 1 net x +ℤ cost 1 c (x a) ≡ total_cost 1 old x +ℤ cost 1 (curve net a) (x a)) was
      (sum_below-change (length net.arcs) a (λ j. cost 1 (curve old j) (x j)) (λ j. cost 1 (curve net j) (x j)) there
      (λ k place other. ap (λ (c : Listing). cost 1 c (x k)) (sym (elsewhere k other))))

  -- ---- a cut

  -- what an arc adds with a curve
  abbrev pub crossing : List Bool → ℕ → Listing → ℤ
  crossing side k c = whole (crossing_end c.items (holds side (tail net k)) (holds side (head net k)))

  pub cut-stays : (side : List Bool) → CutCounts old side → IsFinite (cut_end net side a) → CutCounts net side
  cut-stays side counts here =
      each-curve (λ k c. IsFinite (crossing_end c.items (holds side (tail net k)) (holds side (head net k)))) here counts

  pub capacity-moves : (side : List Bool) → cut_sum net side +ℤ crossing side a b ≡ cut_sum old side +ℤ crossing side a (curve net a)
  capacity-moves side =
      subst (λ (c : Listing). cut_sum net side +ℤ crossing side a c ≡ cut_sum old side +ℤ crossing side a (curve net a)) was
      (sum_below-change (length net.arcs) a (λ j. whole (cut_end old side j)) (λ j. whole (cut_end net side j)) there
      (λ k place other. ap (crossing side k) (sym (elsewhere k other))))

  -- ---- a circuit

  pub flow-stays : (x : List ℤ) → IsFeasibleFlow 1 old x → InDomain 1 (curve net a).items («at» x a) → IsFeasibleFlow 1 net x
  flow-stays x flow here = record {
    one_each = flow.one_each;
    conserved = flow.conserved;
    in_domains = each-curve (λ k c. InDomain 1 c.items («at» x k)) here flow.in_domains;
  }

  pub circuit-stays : (walk : List Step) → IsCircuit old walk → IsCircuit net walk
  circuit-stays walk circuit = record {
    not_empty = circuit.not_empty;
    joined = circuit.joined;
    closed = circuit.closed;
    nodes_differ = circuit.nodes_differ;
    arcs_differ = circuit.arcs_differ;
  }

  passed : (s : Step) → s.arc.0 ≢ a → span_end old s ≡ span_end net s
  passed s other = ap (λ (c : Listing). passing_end c.items s.forward) (elsewhere s.arc.0 other)

  -- no step passes the arc
  module _ (walk : List Step) (apart : (k : ℕ) → k < length walk → (step walk k).arc.0 ≢ a) where
    pub span-untouched : span_sum net walk ≡ span_sum old walk
    span-untouched =
        sym (span_sum-places net walk)
        ∙ sum_below-same (length walk) (λ k. whole (span_end net (step walk k))) (λ k. whole (span_end old (step walk k)))
        (λ k l. ap whole (sym (passed (step walk k) (apart k l))))
        ∙ span_sum-places old walk

    pub counts-untouched : SpanCounts old walk → SpanCounts net walk
    counts-untouched counts =
        each-places (λ s. IsFinite (span_end net s)) walk
        (λ k l. subst IsFinite (passed (step walk k) (apart k l)) (Each-at (λ s. IsFinite (span_end old s)) walk counts k l))

  -- step number i passes the arc, and no other does
  module _ (walk : List Step) (i : ℕ) (place : i < length walk) (over : (step walk i).arc.0 ≡ a) (circuit : IsCircuit old walk) where
    other-step : (k : ℕ) → k < length walk → k ≢ i → (step walk k).arc.0 ≢ a
    other-step k l other same =
        ⊎_elim
        (λ (before : k < i). circuit.arcs_differ k i before place (same ∙ sym over))
        (λ (after : i ≤ k). circuit.arcs_differ i k (omega arith) l (over ∙ sym same))
        (cases_lt k i)

    abbrev passing : Listing → ℤ
    passing c = whole (passing_end c.items (step walk i).forward)

    there-old : span_end old (step walk i) ≡ passing_end b.items (step walk i).forward
    there-old = ap (λ (c : Listing). passing_end c.items (step walk i).forward) (ap (curve old) over ∙ was)

    there-new : span_end net (step walk i) ≡ passing_end (curve net a).items (step walk i).forward
    there-new = ap (λ (j : ℕ). passing_end (curve net j).items (step walk i).forward) over

    pub span-moves : span_sum net walk +ℤ passing b ≡ span_sum old walk +ℤ passing (curve net a)
    span-moves =
        let moved = sum_below-change (length walk) i (λ k. whole (span_end old (step walk k))) (λ k. whole (span_end net (step walk k))) place
        (λ k l other. ap whole (sym (passed (step walk k) (other-step k l other)))) in
        let new_sum = span_sum-places net walk in
        let old_sum = span_sum-places old walk in
        let new_end = ap whole there-new in
        let old_end = ap whole there-old in
        omega (arith, ints)

    -- the ends that the step passes, before and now, are finite where the span counts
    pub passing-ends : (SpanCounts old walk → IsFinite (passing_end b.items (step walk i).forward))
        × (SpanCounts net walk → IsFinite (passing_end (curve net a).items (step walk i).forward))
    passing-ends = (
      λ counts. subst IsFinite there-old (Each-at (λ s. IsFinite (span_end old s)) walk counts i place),
      λ counts. subst IsFinite there-new (Each-at (λ s. IsFinite (span_end net s)) walk counts i place),
    )

    pub counts-stay : SpanCounts old walk → IsFinite (passing_end (curve net a).items (step walk i).forward) → SpanCounts net walk
    counts-stay counts here =
        each-places (λ s. IsFinite (span_end net s)) walk
        (λ k l.
        ⊎_elim
        (λ (same : k ≡ i). subst (λ (j : ℕ). IsFinite (span_end net (step walk j))) (sym same) (subst IsFinite (sym there-new) here))
        (λ (other : k ≢ i).
        subst IsFinite (passed (step walk k) (other-step k l other)) (Each-at (λ s. IsFinite (span_end old s)) walk counts k l))
        (cases_eq k i))
