use Rattle.std.proofs.Common.{◌∙◌, arith}
use Rattle.theory.proofs.Places.{last_at}
use Rattle.mono_curve.proofs.pricing.domain_of.Goals as goal

pub returns-clause-high : goal.returns-clause-high
returns-clause-high g c =
    let list = g.met.C.Listed.is_list c.args.curve.now in
    c.item-2.ensures ∙ last_at (g.C.Listed.listing c.args.curve.now).items _ (omega (arith, list.odd))
