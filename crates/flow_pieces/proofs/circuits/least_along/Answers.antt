use Rattle.std.proofs.Common.{◌≡◌, ◌≤ℤ◌, ◌<ℤ◌, below_more, arith}
use Rattle.std.proofs.lemmas.Int.{ints, clamps, by_lt_z}
use Rattle.theory.specs.Network.{«at»}
use Rattle.theory.specs.Circuit.{step}
use Rattle.net_incidence.specs.FlowAlong.{flow_along}
use Rattle.flow_pieces.proofs.circuits.least_along.Goals as goal

pub loop-step-preserved : goal.loop-step-preserved
loop-step-preserved c =
    let k = c.loop-step.step-index in
    let here : c.flow_along.result ≡ flow_along («at» c.args.rest.now) (step c.args.circuit.now k) = c.flow_along.ensures in
    let least = c.min-least.ensures.value in
    let met = c.loop-step.invariant.met in
    record {
      least = below_more _ _
          (λ i l. let before = c.loop-step.invariant.least i l in omega (arith, ints, clamps))
          (omega (arith, ints, clamps));
      met = by_lt_z c.flow_along.result c.loop-step.least
          (λ (less : c.flow_along.result <ℤ c.loop-step.least). (k, omega arith, omega (arith, ints, clamps)))
          (λ (most : c.loop-step.least ≤ℤ c.flow_along.result). (met.0, met.1, (let is = met.2 in omega (arith, ints, clamps))));
    }
