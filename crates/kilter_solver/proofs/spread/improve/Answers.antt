use Rattle.std.proofs.Common.{◌≡◌, ◌≤ℤ◌, false, IsTrue, sym, ◌∙◌, subst, w64, to_z, of_z, to_z-of_z, arith}
use Rattle.std.proofs.lemmas.Int.{ints}
use Rattle.std.proofs.lemmas.Bool.{false≢true}
use Rattle.painted_search.specs.Room.{Room}
use Rattle.painted_search.specs.Writes.{relabelled}
use Rattle.kilter_solver.specs.Spread.{key, is_near, lowered}
use Rattle.kilter_solver.specs.Heap.{IsInserted, IsDecreased}
use Rattle.kilter_solver.proofs.Waiting.{same-relaxed, waiting-inserted, waiting-decreased}
use Rattle.kilter_solver.proofs.spread.improve.Goals as goal
use Rattle.kilter_solver.proofs.spread.improve.Goals.{else-met-via-then-met+else-key-offer, else-met-via-else-met}

pub returns-then-met-2 : goal.returns-then-met-2
returns-then-met-2 c =
    let v = c.args.work.now in
    let w = c.decrease.new.work in
    let i = c.args.node.0 in
    let s = c.args.step in
    let z = c.args.offer in
    let decreased : IsDecreased (relabelled v i s) w i z = subst (λ y. IsDecreased (relabelled v i s) w i y) (to_z-of_z c.ranges.offer)
    (subst (λ (u : Room). IsDecreased u w i (to_z w64 (of_z w64 z))) c.set_label.ensures c.decrease.ensures.decreased) in
    let same = same-relaxed v w i s z decreased.same in
    let met : IsTrue (is_near v i) = sym c.is_met-met.ensures ∙ c.if-met-2.true in
    let fall : IsTrue (is_near v i) → z ≤ℤ key v i =
    elim c.else-met.branch [
      | else-met-via-then-met+else-key-offer b ↦ λ near. omega (arith, ints, b.key.ensures, b.if-key-offer.false)
      | else-met-via-else-met b ↦ λ near. absurd (false≢true (sym (sym c.is_met-met.ensures ∙ b.if-met.false) ∙ near))
    ] in
    record {
      improved = lowered same fall;
      queue = waiting-decreased v w i s z c.requires.queue c.requires.there c.requires.waits same c.decrease.ensures.heap met decreased;
    }

pub returns-else-met-2 : goal.returns-else-met-2
returns-else-met-2 c =
    let v = c.args.work.now in
    let w = c.insert.new.work in
    let i = c.args.node.0 in
    let s = c.args.step in
    let z = c.args.offer in
    let inserted : IsInserted (relabelled v i s) w i z = subst (λ y. IsInserted (relabelled v i s) w i y) (to_z-of_z c.ranges.offer)
    (subst (λ (u : Room). IsInserted u w i (to_z w64 (of_z w64 z))) c.set_label.ensures c.insert.ensures.inserted) in
    let same = same-relaxed v w i s z inserted.same in
    let unmet : is_near v i ≡ false = sym c.is_met-met.ensures ∙ c.if-met-2.false in
    record {
      improved = lowered same (λ near. absurd (false≢true (sym unmet ∙ near)));
      queue = waiting-inserted v w i s z c.requires.queue c.requires.there c.requires.waits same c.insert.ensures.heap inserted;
    }
