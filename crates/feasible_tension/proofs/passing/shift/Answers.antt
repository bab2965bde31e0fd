-- Potentials are subtracted one after the other. That of node 0 was read before, so it doesn't matter that it becomes 0 first; all are
-- small, so that no difference leaves its type.
use Rattle.std.proofs.Common.{◌<◌, length, refl, ◌∙◌, arith}
use Rattle.std.proofs.lemmas.Int.{ints}
use Rattle.feasible_tension.proofs.Shifting.{shifting-more}
use Rattle.feasible_tension.proofs.passing.shift.Goals as goal

pub potential-requires : goal.potential-requires
potential-requires c = omega (arith, c.args.work.now.sized.some_node)

pub overflow_sub-potential : goal.overflow_sub-potential
overflow_sub-potential c =
    let n = c.args.work.now.nodes in
    let size = c.args.work.now.sized.one_potential_each in
    let some = c.args.work.now.sized.some_node in
    let kept = c.loop-i.invariant.kept.nodes in
    let there : c.loop-i.i < length c.args.work.now.potentials = omega arith in
    let ground_there : 0 < length c.args.work.now.potentials = omega arith in
    let here = c.potential.ensures ∙ c.loop-i.invariant.others c.loop-i.i (omega arith) in
    let ground = c.potential-ground.ensures in
    let low = c.requires.low c.loop-i.i there in
    let high = c.requires.high c.loop-i.i there in
    let ground_low = c.requires.low 0 ground_there in
    let ground_high = c.requires.high 0 ground_there in
    omega (arith, ints)

pub loop-i-init : goal.loop-i-init
loop-i-init c = record {
  shifted = λ k l. absurd (omega arith);
  others = λ k l. refl;
  kept = record { nodes = refl; arcs = refl; flows = refl };
}

pub loop-i-preserved : goal.loop-i-preserved
loop-i-preserved c =
    let n = c.args.work.now.nodes in
    let size = c.args.work.now.sized.one_potential_each in
    let some = c.args.work.now.sized.some_node in
    let kept = c.loop-i.invariant.kept.nodes in
    let there : c.loop-i.i < length c.args.work.now.potentials = omega arith in
    let ground_there : 0 < length c.args.work.now.potentials = omega arith in
    let here = c.potential.ensures ∙ c.loop-i.invariant.others c.loop-i.i (omega arith) in
    let ground = c.potential-ground.ensures in
    let low = c.requires.low c.loop-i.i there in
    let high = c.requires.high c.loop-i.i there in
    let ground_low = c.requires.low 0 ground_there in
    let ground_high = c.requires.high 0 ground_there in
    shifting-more c.args.work.now c.loop-i.work c.set_potential.new.self c.loop-i.i _ c.loop-i.invariant (omega arith) c.set_potential.ensures
    (omega (arith, ints))

pub returns : goal.returns
returns c = record {
  shifted = λ i l. c.loop-i.invariant.shifted i (omega (arith, c.loop-i.invariant.kept.nodes));
  kept = c.loop-i.invariant.kept;
}
