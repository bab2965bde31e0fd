use Rattle.std.proofs.Common.{◌+◌, ◌<◌, length, sym, ap, ◌∙◌, subst, arith}
use Rattle.std.proofs.lemmas.Int.{ints}
use Rattle.theory.specs.Cut.{holds}
use Rattle.painted_search.specs.Room.{Room}
use Rattle.path_cut.specs.Lifting.{lift}
use Rattle.path_cut.proofs.Climbing.{lift-some, lift-most}
use Rattle.path_cut.proofs.Lifts.{IsLifting, lifting-more}
use Rattle.path_cut.proofs.raising.raise.Goals as goal

pub loop-i-preserved : goal.loop-i-preserved
loop-i-preserved c =
    let v = c.args.work.now in
    let w = c.loop-i.work in
    let i = c.loop-i.i in
    let t = c.args.amount in
    let same = c.loop-i.invariant.same in
    let before : IsLifting v w t i = record { lifts = c.loop-i.invariant.lifts; still = c.loop-i.invariant.still; same = same } in
    let here = c.potential.ensures ∙ c.loop-i.invariant.still i (omega arith) in
    let lifts = c.lift.ensures ∙ ap (lift t) (c.reached-in-loop-i.ensures ∙ ap (λ side. holds side i) same.reached) in
    let ground = c.lift-ground.ensures ∙ ap (lift t) c.reached.ensures in
    let there : i < length v.potentials =
    omega (arith, c.loop-i-test.true, c.nodes-i-end.ensures, same.nodes, v.sized.one_potential_each) in
    let low = c.requires.small.low i there in
    let high = c.requires.small.high i there in
    let some_here = lift-some t (holds v.reached i) in
    let most_here = lift-most t (holds v.reached i) in
    let some_ground = lift-some t (holds v.reached 0) in
    let most_ground = lift-most t (holds v.reached 0) in
    let more =
    lifting-more v w t i _ before (omega (arith, c.loop-i-test.true, c.nodes-i-end.ensures, same.nodes)) (omega (arith, ints)) in
    let all = subst (λ (new : Room). IsLifting v new t (i + 1)) (sym c.set_potential.ensures) more in
    record { lifts = all.lifts; still = all.still; same = all.same }
