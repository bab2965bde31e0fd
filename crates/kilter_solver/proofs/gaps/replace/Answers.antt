use Rattle.std.proofs.Common.{rules, ◌-ℤ◌, FitsSigned, arith}
use Rattle.std.specs.Int.{w64}
use Rattle.std.proofs.lemmas.Int.{ints, to_z-of_z}
use Rattle.theory.specs.Network.{«at»}
use Rattle.kilter_solver.specs.Gaps.{HasHeight}
use Rattle.kilter_solver.proofs.Heights.{height-found, placed-more, still-more}
use Rattle.kilter_solver.proofs.gaps.replace.Goals as goal

pub height_of-requires-clause-there : goal.height_of-requires-clause-there
height_of-requires-clause-there c =
    let fits : FitsSigned w64 («at» c.loop-word.words c.loop-word.word-index) = search rules in
    simp to_z-of_z (rw (c.loop-word.invariant.1 c.loop-word.word-index (omega arith)) (c.requires.there c.loop-word.word-index (omega arith)))

pub loop-word-preserved : goal.loop-word-preserved
loop-word-preserved c =
    let values = c.args.values.now in
    let heights = c.args.heights.now in
    let ground = c.height_of-ground.result in
    let height = c.height_of.result in
    let fits : FitsSigned w64 («at» c.loop-word.words c.loop-word.word-index) = search rules in
    let fits_ground : FitsSigned w64 ground = search rules in
    let fits_height : FitsSigned w64 height = search rules in
    let ground_small = height-found _ values heights _ ground c.requires.within c.height_of-ground.ensures in
    let small = height-found _ values heights _ height c.requires.within c.height_of.ensures in
    let fits_word : FitsSigned w64 (height -ℤ ground) = omega (arith, ints) in
    let here : HasHeight values heights («at» c.args.words.now c.loop-word.word-index) height
    = rw (← c.loop-word.invariant.1 c.loop-word.word-index (omega arith)) (simp to_z-of_z at c.height_of.ensures) in
    simp to_z-of_z (
      placed-more values heights c.args.words.now c.loop-word.words ground height c.loop-word.word-index (omega arith) here
          (simp to_z-of_z at c.loop-word.invariant.0),
      still-more c.args.words.now c.loop-word.words c.loop-word.word-index (height -ℤ ground) c.loop-word.invariant.1,
    )

pub returns : goal.returns
returns c =
    let ground = c.height_of-ground.result in
    let fits_ground : FitsSigned w64 ground = search rules in
    let fits : FitsSigned w64 («at» c.args.words.now 0) = search rules in
    record {
      ground = ground;
      ground_is = simp to_z-of_z at c.height_of-ground.ensures;
      each = λ i l. let placed = c.loop-word.invariant.0 i (omega arith) in simp to_z-of_z at placed;
    }
