-- A certificate stays exactly where it passes a test at the changed arc: the pair is on the new curve; the end that a cut crosses
-- there is finite and the capacity with it is still negative; the flow of a circuit is in the new domain, and the same of
-- the end that the circuit passes there. Where the test fails the certificate shows nothing of the changed network.
use Rattle.std.proofs.Common.{◌≡◌, ◌≢◌, ℕ, ◌<◌, ℤ, pos, ◌+ℤ◌, ◌-ℤ◌, Bool, List, length, IfSome, IfNone, Option, None, Some, sym, ap, ap₂, subst, ◌∙◌, arith}
use Rattle.std.specs.Prelude.{◌<ℤ◌}
use Rattle.std.proofs.lemmas.Int.{ints}
use Rattle.theory.specs.declared.ext.Ext.{Ext}
use Rattle.theory.specs.declared.network.Step.{Step}
use Rattle.theory.specs.CurveList.{Listing}
use Rattle.theory.specs.Ends.{IsFinite}
use Rattle.theory.specs.Limits.{IsWithin, sum_most}
use Rattle.theory.specs.Domain.{InDomain}
use Rattle.theory.specs.OnCurve.{IsOnCurve}
use Rattle.theory.specs.Cost.{cost}
use Rattle.theory.specs.Network.{Network, «at», tail, head, curve}
use Rattle.theory.specs.Conserved.{tension}
use Rattle.theory.specs.Feasible.{IsFeasibleFlow}
use Rattle.theory.specs.Totals.{total_cost}
use Rattle.theory.specs.Cut.{holds, cut_sum, IsNegativeCut}
use Rattle.theory.specs.Circuit.{step, passing_end, span_sum, SpanCounts, IsNegativeCircuit}
use Rattle.theory.specs.Certificate.{Certificate, IsPotentialOf, IsWalkOf, Shows, IsValid, bare}
use Rattle.theory.specs.Certificate.Certificate.{optimal, cut, circuit}
use Rattle.net_incidence.specs.PartOf.{part_of, crossing_end}
use Rattle.ground_net.specs.Ground.{IsGrounded, replaced}
use Rattle.kilter_solver.proofs.Pairs.{valid-pair}
use Rattle.warm_solve.specs.Part.{IsSumWith}
use Rattle.warm_solve.specs.Renumbered.{renumbered, with_number, Stays}
use Rattle.warm_solve.proofs.Near.{cost-near, capacity-near, span-near}
use Rattle.warm_solve.proofs.Changed.{pair-stays, cost-moves, cut-stays, capacity-moves, flow-stays, circuit-stays, span-untouched, counts-untouched, span-moves, counts-stay, passing-ends, was}
use Rattle.warm_solve.proofs.Parts.{found-is, none-is}

module _ (net : Network) (a : ℕ) (b : Listing) (good : IsGrounded net) (there : a < length net.arcs) where
  -- ---- a pair

  module _ (x u : List ℤ) (before value : ℤ) (valid : IsValid (replaced net a b) (optimal x u before value)) where
    potentials-there : IsPotentialOf net u
    potentials-there = record { numbers = valid.fits.0.1.numbers; ground = valid.fits.0.1.ground }

    pub pair-kept : (number : ℤ) → IsOnCurve 1 (curve net a).items («at» x a) (tension net («at» u) a)
        → number ≡ before -ℤ cost 1 b («at» x a) +ℤ cost 1 (curve net a) («at» x a) → IsValid net (optimal x u number number)
    pair-kept number here is =
        let moved = cost-moves net a b good.is_network there («at» x) in
        let right = valid.right.0 in
        let priced : number ≡ total_cost 1 net («at» x) = omega (arith, ints) in
        valid-pair net x u number good.is_network valid.fits.0.0 potentials-there
        (pair-stays net a b good.is_network there x u valid.shows here) priced
        (subst (IsWithin sum_most) (sym priced) (cost-near net good x valid.fits.0.0))

  -- ---- a cut

  module _ (side : List Bool) (before : ℤ) (valid : IsValid (replaced net a b) (cut side before)) where
    abbrev pub end-with : Listing → Ext
    end-with c = crossing_end c.items (holds side (tail net a)) (holds side (head net a))

    end-before : IsFinite (end-with b)
    end-before = subst (λ (c : Listing). IsFinite (end-with c)) (was net a b good.is_network there) (valid.shows.counts a there)

    cut-kept : (number : ℤ) → IsSumWith before (part_of (end-with b)) (part_of (end-with (curve net a))) (Some number)
        → IsValid net (cut side number)
    cut-kept number sum =
        let found = found-is before number (end-with b) (end-with (curve net a)) sum in
        let moved = capacity-moves net a b good.is_network there side in
        let right = valid.right in
        let by = found.moved in
        let counted : number ≡ cut_sum net side = omega (arith, ints) in
        record {
          fits = (valid.fits.0, subst (IsWithin sum_most) (sym counted) (capacity-near net good side));
          shows = record {
            counts = cut-stays net a b good.is_network there side valid.shows.counts found.finite;
            negative = subst (λ (z : ℤ). z <ℤ pos 0) counted found.negative;
          };
          right = counted;
        }

    cut-gone : IsSumWith before (part_of (end-with b)) (part_of (end-with (curve net a))) None → ¬ IsNegativeCut net side
    cut-gone sum still =
        let above = none-is before (end-with b) (end-with (curve net a)) sum end-before (still.counts a there) in
        let moved = capacity-moves net a b good.is_network there side in
        let right = valid.right in
        let negative = still.negative in
        omega (arith, ints)

    pub cut-if : (found : Option ℤ) → IsSumWith before (part_of (end-with b)) (part_of (end-with (curve net a))) found
        → IfSome found (λ number. IsValid net (cut side number))
    cut-if (Some number) sum = cut-kept number sum
    cut-if None sum = tt

    pub cut-unless : (found : Option ℤ) → IsSumWith before (part_of (end-with b)) (part_of (end-with (curve net a))) found
        → IfNone found (¬ IsNegativeCut net side)
    cut-unless (Some number) sum = tt
    cut-unless None sum = cut-gone sum

  -- ---- a circuit

  module _ (x : List ℤ) (walk : List Step) (before : ℤ) (valid : IsValid (replaced net a b) (circuit x walk before)) where
    steps-there : IsWalkOf net walk
    steps-there = record { there = valid.fits.0.1.there; short = valid.fits.0.1.short }

    with-span : (number : ℤ) → InDomain 1 (curve net a).items («at» x a) → SpanCounts net walk → number ≡ span_sum net walk → number <ℤ pos 0
        → IsValid net (circuit x walk number)
    with-span number here counts counted negative = record {
      fits = ((valid.fits.0.0, steps-there), subst (IsWithin sum_most) (sym counted) (span-near net good walk steps-there));
      shows = (
        flow-stays net a b good.is_network there x valid.shows.0 here,
        record {
          circuit = circuit-stays net a b good.is_network there walk valid.shows.1.circuit;
          counts = counts;
          negative = subst (λ (z : ℤ). z <ℤ pos 0) counted negative;
        },
      );
      right = counted;
    }

    -- no step passes the arc
    pub circuit-untouched : ((k : ℕ) → k < length walk → (step walk k).arc.0 ≢ a) → InDomain 1 (curve net a).items («at» x a)
        → IsValid net (circuit x walk before)
    circuit-untouched apart here =
        let same : before ≡ span_sum net walk = valid.right ∙ sym (span-untouched net a b good.is_network there walk apart) in
        with-span before here (counts-untouched net a b good.is_network there walk apart valid.shows.1.counts) same
        (subst (λ (z : ℤ). z <ℤ pos 0) (sym valid.right) valid.shows.1.negative)

    pub flow-gone : ¬ InDomain 1 (curve net a).items («at» x a) → ¬ (IsFeasibleFlow 1 net x × IsNegativeCircuit net walk)
    flow-gone out still = out (still.0.in_domains a there)

    -- step number i passes it
    module _ (i : ℕ) (place : i < length walk) (over : (step walk i).arc.0 ≡ a) where
      abbrev pub span-with : Listing → Ext
      span-with c = passing_end c.items (step walk i).forward

      circuit-kept : (number : ℤ) → InDomain 1 (curve net a).items («at» x a)
          → IsSumWith before (part_of (span-with b)) (part_of (span-with (curve net a))) (Some number) → IsValid net (circuit x walk number)
      circuit-kept number here sum =
          let found = found-is before number (span-with b) (span-with (curve net a)) sum in
          let moved = span-moves net a b good.is_network there walk i place over valid.shows.1.circuit in
          let right = valid.right in
          let by = found.moved in
          let counted : number ≡ span_sum net walk = omega (arith, ints) in
          with-span number here
          (counts-stay net a b good.is_network there walk i place over valid.shows.1.circuit valid.shows.1.counts found.finite)
          counted found.negative

      circuit-gone : IsSumWith before (part_of (span-with b)) (part_of (span-with (curve net a))) None
          → ¬ (IsFeasibleFlow 1 net x × IsNegativeCircuit net walk)
      circuit-gone sum still =
          let ends = passing-ends net a b good.is_network there walk i place over valid.shows.1.circuit in
          let above = none-is before (span-with b) (span-with (curve net a)) sum (ends.0 valid.shows.1.counts) (ends.1 still.1.counts) in
          let moved = span-moves net a b good.is_network there walk i place over valid.shows.1.circuit in
          let right = valid.right in
          let negative = still.1.negative in
          omega (arith, ints)

      pub circuit-if : (found : Option ℤ) → InDomain 1 (curve net a).items («at» x a)
          → IsSumWith before (part_of (span-with b)) (part_of (span-with (curve net a))) found
          → IfSome found (λ number. IsValid net (circuit x walk number))
      circuit-if (Some number) here sum = circuit-kept number here sum
      circuit-if None here sum = tt

      pub circuit-unless : (found : Option ℤ) → IsSumWith before (part_of (span-with b)) (part_of (span-with (curve net a))) found
          → IfNone found (¬ (IsFeasibleFlow 1 net x × IsNegativeCircuit net walk))
      circuit-unless (Some number) sum = tt
      circuit-unless None sum = circuit-gone sum

-- ---- the numbers of a valid certificate are those that its network gives

pub renumbered-is : (net : Network) (c : Certificate) (number : ℤ) → IsValid net (with_number c number) → with_number c number ≡ renumbered net c
renumbered-is net (optimal x u cost value) number valid = ap₂ (optimal x u) valid.right.0 valid.right.1
renumbered-is net (cut side capacity) number valid = ap (cut side) valid.right
renumbered-is net (circuit x walk span) number valid = ap (circuit x walk) valid.right

pub stays-shows : (net : Network) (c : Certificate) → Stays net c → Shows net (bare c)
stays-shows net (optimal x u cost value) stays = stays.shows
stays-shows net (cut side capacity) stays = stays.shows
stays-shows net (circuit x walk span) stays = stays.shows
