-- The certificate of an optimal pair: every pair is on its curve, so by Fenchel's equality the value is the cost. The flow of such
-- a pair is feasible and so is its potential, since of a pair on its curve the flow is in the domain and the tension in the span.
use Rattle.std.proofs.Common.{◌≡◌, List, ℤ, length, ◌∙◌}
use Rattle.theory.specs.Limits.{IsWithin, sum_most}
use Rattle.theory.specs.Network.{Network, IsNetwork, «at», curve}
use Rattle.theory.specs.Conserved.{tension}
use Rattle.theory.specs.Feasible.{IsFeasibleFlow, IsFeasiblePotential}
use Rattle.theory.specs.Totals.{total_cost}
use Rattle.theory.specs.Certificate.{AreNumbers, IsPotentialOf, IsOptimalPair, IsValid}
use Rattle.theory.specs.Certificate.Certificate.{optimal}
use Rattle.theory.proofs.Shape.{shape_by_place}
use Rattle.theory.proofs.Equality.{in_span}
use Rattle.theory.proofs.Duality.{optimal-equal}

pub valid-pair : (net : Network) (x u : List ℤ) (cost : ℤ) → IsNetwork net → AreNumbers (length net.arcs) x → IsPotentialOf net u → IsOptimalPair net x u
    → cost ≡ total_cost 1 net («at» x) → IsWithin sum_most cost → IsValid net (optimal x u cost cost)
valid-pair net x u cost good flows potentials pair priced near = record {
  fits = ((flows, potentials), (near, near));
  shows = pair;
  right = (priced, priced ∙ optimal-equal net («at» x) («at» u) good pair.conserved pair.on_curves);
}

pub pair-flow : (net : Network) (x u : List ℤ) → AreNumbers (length net.arcs) x → IsOptimalPair net x u → IsFeasibleFlow 1 net x
pair-flow net x u numbers pair = record {
  one_each = numbers.one_each;
  conserved = pair.conserved;
  in_domains = λ j there. (pair.on_curves j there).in_domain;
}

pub pair-potential : (net : Network) (x u : List ℤ) → IsNetwork net → IsPotentialOf net u → IsOptimalPair net x u → IsFeasiblePotential 1 net u
pair-potential net x u good potentials pair = record {
  one_each = potentials.numbers.one_each;
  ground = potentials.ground;
  in_spans = λ j there.
      in_span 1 («at» x j) (tension net («at» u) j) (shape_by_place (curve net j).items (good.curve_lists j there)) (pair.on_curves j there);
}
