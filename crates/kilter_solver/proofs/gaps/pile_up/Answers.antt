use Rattle.std.proofs.Common.{◌≡◌, ℤ, ◌-◌, ◌+ℤ◌, ◌-ℤ◌, FitsSigned, arith}
use Rattle.std.specs.Int.{w64, int_min}
use Rattle.std.proofs.Math.ListN.{length-set}
use Rattle.std.proofs.lemmas.Int.{ints, clamps, to_z-of_z}
use Rattle.theory.specs.Network.{«at»}
use Rattle.kilter_solver.specs.Gaps.{AreHeights}
use Rattle.kilter_solver.proofs.Heights.{height-small, one-more}
use Rattle.kilter_solver.proofs.gaps.pile_up.Goals as goal

pub overflow_add-heights : goal.overflow_add-heights
overflow_add-heights c =
    let fits_most : FitsSigned w64 c.args.most = c.ranges.most in
    let piled : AreHeights c.loop-p.p c.args.most c.args.values.now c.loop-p.heights = simp to_z-of_z at c.loop-p.invariant in
    let below = height-small c.loop-p.p c.args.most c.args.values.now c.loop-p.heights (c.loop-p.p - 1) piled c.requires.sorted (omega arith)
    c.requires.some c.requires.near (omega arith) in
    let here = c.requires.within c.loop-p.p (omega arith) in
    let before = c.requires.within (c.loop-p.p - 1) (omega arith) in
    omega (arith, ints, clamps, c.min.ensures.value)

pub loop-p-preserved : goal.loop-p-preserved
loop-p-preserved c =
    let fits_most : FitsSigned w64 c.args.most = c.ranges.most in
    let piled : AreHeights c.loop-p.p c.args.most c.args.values.now c.loop-p.heights = simp to_z-of_z at c.loop-p.invariant in
    let below = height-small c.loop-p.p c.args.most c.args.values.now c.loop-p.heights (c.loop-p.p - 1) piled c.requires.sorted (omega arith)
    c.requires.some c.requires.near (omega arith) in
    let here = c.requires.within c.loop-p.p (omega arith) in
    let before = c.requires.within (c.loop-p.p - 1) (omega arith) in
    let fits_here : FitsSigned w64 («at» c.args.values.now c.loop-p.p) = omega (arith, ints) in
    let fits_before : FitsSigned w64 («at» c.args.values.now (c.loop-p.p - 1)) = omega (arith, ints) in
    let fits_gap : FitsSigned w64 («at» c.args.values.now c.loop-p.p -ℤ «at» c.args.values.now (c.loop-p.p - 1)) = omega (arith, ints) in
    let least : c.min.result ≡ int_min («at» c.args.values.now c.loop-p.p -ℤ «at» c.args.values.now (c.loop-p.p - 1)) c.args.most
    = simp to_z-of_z at c.min.ensures.value in
    let fits_height : FitsSigned w64 («at» c.loop-p.heights (c.loop-p.p - 1)) = omega (arith, ints) in
    let fits_least : FitsSigned w64 c.min.result = omega (arith, ints, clamps) in
    let fits_sum : FitsSigned w64 («at» c.loop-p.heights (c.loop-p.p - 1) +ℤ c.min.result) = omega (arith, ints, clamps) in
    simp to_z-of_z
    (one-more c.loop-p.p c.args.most c.args.values.now c.loop-p.heights («at» c.loop-p.heights (c.loop-p.p - 1) +ℤ c.min.result) piled (omega arith)
    (omega (arith, length-set {A = ℤ})) (omega (arith, ints, least)))
