use Rattle.std.proofs.Common.{◌≡◌, ◌-ℤ◌, ℤ, pos, ◌≤ℤ◌, neg_ℤ, if◌then◌else◌, sym, ◌∙◌, ap, subst, to_z, of_z, w64, to_z-of_z, SFits, arith, rules}
use Rattle.std.proofs.lemmas.Int.{ints}
use Rattle.std.proofs.lemmas.List.{length-set, get_or_read}
use Rattle.theory.specs.Network.{«at»}
use Rattle.theory.specs.Circuit.{step}
use Rattle.flow_pieces.specs.Pieces.{directed}
use Rattle.flow_pieces.proofs.Carrying.{untouched-now, taken-more}
use Rattle.flow_pieces.proofs.circuits.take_off.Goals as goal

pub reduced-requires-clause-within : goal.reduced-requires-clause-within
reduced-requires-clause-within c =
    let k = c.loop-step.step-index in
    let walk = c.args.circuit.now in
    let same = untouched-now _ walk k c.args.rest.now.items c.loop-step.rest.items c.requires.differ (omega arith) c.loop-step.invariant.less in
    let on_arc = c.requires.there k (omega arith) in
    let long = c.loop-step.invariant.same in
    let read : c.index.result.now ≡ «at» c.loop-step.rest.items (step walk k).arc.0 =
    get_or_read c.loop-step.rest.items (step walk k).arc.0 c.index.result.now (omega arith) c.index.ensures (pos 0) in
    let within = c.requires.numbers.within (step walk k).arc.0 on_arc in
    (omega (arith, ints, within), omega (arith, ints, within))

pub reduced-requires-clause-most : goal.reduced-requires-clause-most
reduced-requires-clause-most c =
    let k = c.loop-step.step-index in
    let walk = c.args.circuit.now in
    let s = step walk k in
    let same = untouched-now _ walk k c.args.rest.now.items c.loop-step.rest.items c.requires.differ (omega arith) c.loop-step.invariant.less in
    let on_arc = c.requires.there k (omega arith) in
    let long = c.loop-step.invariant.same in
    let read : c.index.result.now ≡ «at» c.loop-step.rest.items s.arc.0 =
    get_or_read c.loop-step.rest.items s.arc.0 c.index.result.now (omega arith) c.index.ensures (pos 0) in
    let within = c.requires.numbers.within s.arc.0 on_arc in
    let stored : to_z w64 (of_z w64 c.index.result.now) ≡ «at» c.args.rest.now.items s.arc.0 = omega (arith, ints, within) in
    let P : ℤ → ℤ → Type 0 = λ w z. w ≤ℤ (if s.forward then z else (neg_ℤ z)) in
    let Q : ℤ → Type 0 = λ w. P w (to_z w64 (of_z w64 c.index.result.now)) in
    let R : ℤ → Type 0 = λ z. P c.args.weight z in
    subst Q (sym (to_z-of_z c.ranges.weight))
    (subst R (sym stored) (c.requires.most k (omega arith)))

pub loop-step-preserved : goal.loop-step-preserved
loop-step-preserved c =
    let k = c.loop-step.step-index in
    let walk = c.args.circuit.now in
    let s = step walk k in
    let same = untouched-now _ walk k c.args.rest.now.items c.loop-step.rest.items c.requires.differ (omega arith) c.loop-step.invariant.less in
    let on_arc = c.requires.there k (omega arith) in
    let within = c.requires.numbers.within s.arc.0 on_arc in
    let long = c.loop-step.invariant.same in
    let read : c.index.result.now ≡ «at» c.loop-step.rest.items s.arc.0 =
    get_or_read c.loop-step.rest.items s.arc.0 c.index.result.now (omega arith) c.index.ensures (pos 0) in
    let stored : to_z w64 (of_z w64 c.index.result.now) ≡ «at» c.loop-step.rest.items s.arc.0 = omega (arith, ints, within) in
    let fits : SFits w64 c.reduced.result = search rules in
    let less : to_z w64 (of_z w64 c.reduced.result) ≡ «at» c.loop-step.rest.items s.arc.0 -ℤ directed (to_z w64 (of_z w64 c.args.weight)) s.forward =
    to_z-of_z fits ∙ c.reduced.ensures ∙ ap (λ z. z -ℤ directed (to_z w64 (of_z w64 c.args.weight)) s.forward) stored in
    record {
      same = length-set c.loop-step.rest.items s.arc.0 _ ∙ long;
      less = taken-more _ walk k c.args.rest.now.items c.loop-step.rest.items _ (omega arith) (omega arith) c.loop-step.invariant.less less;
    }
