use Rattle.std.proofs.Common.{◌≡◌, ◌∙◌, to_z, of_z, to_z-of_z, FitsSigned, arith, rules}
use Rattle.std.specs.Int.{w128}
use Rattle.std.proofs.lemmas.List.{take_all}
use Rattle.mono_curve.proofs.curve.to_curve.Goals as goal

pub with_costs-requires : goal.with_costs-requires
with_costs-requires g c =
    let items_are : c.loop-k.items.items ≡ (g.C.Listed.listing c.args.curve.now).items = c.loop-k.invariant ∙ take_all c.loop-k.k (g.C.Listed.listing c.args.curve.now).items (omega arith) in
    let fits : FitsSigned w128 c.base.result = search rules in
    let base_is : to_z w128 (of_z w128 c.base.result) ≡ (g.C.Listed.listing c.args.curve.now).base = to_z-of_z fits ∙ c.base.ensures in
    rw (items_are, base_is)
    (record {
      is_list = g.met.C.Listed.is_list c.args.curve.now;
      short = c.requires.short;
      items_within = g.met.C.Listed.items_within c.args.curve.now;
      base_within = c.requires.base_within;
    })

pub returns : goal.returns
returns g c =
    let items_are : c.loop-k.items.items ≡ (g.C.Listed.listing c.args.curve.now).items = c.loop-k.invariant ∙ take_all c.loop-k.k (g.C.Listed.listing c.args.curve.now).items (omega arith) in
    let fits : FitsSigned w128 c.base.result = search rules in
    let base_is : to_z w128 (of_z w128 c.base.result) ≡ (g.C.Listed.listing c.args.curve.now).base = to_z-of_z fits ∙ c.base.ensures in
    rw (items_are, base_is) at c.with_costs.ensures
