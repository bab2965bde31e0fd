use Rattle.std.proofs.Common.{◌≡◌, ℤ, FitsSigned, IsPermutation, length, refl, sym, arith}
use Rattle.std.specs.Int.{w64}
use Rattle.std.proofs.lemmas.Int.{to_z-of_z}
use Rattle.kilter_solver.specs.Gaps.{AreHeights}
use Rattle.kilter_solver.proofs.Heights.{at-front, values-within, there-after, heights-small, closed-words}
use Rattle.kilter_solver.proofs.gaps.close_gaps.Goals as goal

pub pile_up-requires-clause-within : goal.pile_up-requires-clause-within
pile_up-requires-clause-within c =
    let potentials = c.split_at_mut-potentials.result.0.now in
    let moved : IsPermutation {X = ℤ} potentials c.sort_unstable.new.self = rw (← c.copy_from_slice.ensures.after) c.sort_unstable.ensures.permutation in
    values-within _ potentials c.sort_unstable.new.self moved
    (λ i l. rw (← at-front c.args.nodes c.args.words.now potentials c.split_at_mut-potentials.result.1.now c.split_at_mut-potentials.ensures.value
    c.split_at_mut-potentials.ensures.front_len i (omega arith)) (c.requires.within i (omega arith)))

pub replace-requires-clause-there : goal.replace-requires-clause-there
replace-requires-clause-there c =
    let potentials = c.split_at_mut-potentials.result.0.now in
    let moved : IsPermutation {X = ℤ} potentials c.sort_unstable.new.self = rw (← c.copy_from_slice.ensures.after) c.sort_unstable.ensures.permutation in
    λ i l. there-after potentials c.sort_unstable.new.self i moved l

pub replace-requires-clause-within : goal.replace-requires-clause-within
replace-requires-clause-within c =
    let fits_most : FitsSigned w64 c.args.most = c.ranges.most in
    let heights : AreHeights (length c.sort_unstable.new.self) c.args.most c.sort_unstable.new.self c.pile_up.new.heights = simp to_z-of_z at c.pile_up.ensures in
    let many : length c.sort_unstable.new.self ≡ c.args.nodes = omega arith in
    heights-small c.args.most c.sort_unstable.new.self c.pile_up.new.heights heights c.sort_unstable.ensures.sorted (omega arith) c.requires.some
    (rw many c.requires.near)

pub returns : goal.returns
returns c =
    let potentials = c.split_at_mut-potentials.result.0.now in
    let values = c.sort_unstable.new.self in
    let heights = c.pile_up.new.heights in
    let fits_most : FitsSigned w64 c.args.most = c.ranges.most in
    let moved : IsPermutation {X = ℤ} potentials values = rw (← c.copy_from_slice.ensures.after) c.sort_unstable.ensures.permutation in
    let rise : AreHeights (length values) c.args.most values heights = simp to_z-of_z at c.pile_up.ensures in
    let many : length values ≡ c.args.nodes = omega arith in
    let all : length potentials ≡ c.args.nodes = omega arith in
    closed-words c.args.nodes c.args.most c.args.words.now _ potentials c.replace.new.words c.split_at_mut-potentials.result.1.now _ values heights
    c.requires.some_node (omega arith) c.split_at_mut-potentials.ensures.value refl
    (record {
      few = sym many;
      one_each = all;
      some = c.requires.some;
      moved = moved;
      sorted = c.sort_unstable.ensures.sorted;
      rise = rw (← many) rise;
    })
    (rw (← all) c.replace.ensures)
