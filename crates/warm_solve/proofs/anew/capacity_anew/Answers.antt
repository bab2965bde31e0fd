use Rattle.std.proofs.Common.{◌≡◌, ap, ◌∙◌, rules, SFits, to_z-of_z}
use mir.Syntax.{w128}
use Rattle.theory.specs.Network.{Network, tail, head}
use Rattle.warm_solve.proofs.Staying.{cut-if, cut-unless}
use Rattle.warm_solve.proofs.anew.capacity_anew.Goals as goal

pub returns-clause-stays : goal.returns-clause-stays
returns-clause-stays c =
    let net = c.args.g.now.network in
    let a = c.args.arc.0 in
    let fits : SFits w128 c.args.capacity = search rules in
    let at_tail : c.from.result.0 ≡ tail net a = c.from.ensures ∙ ap (λ (n : Network). tail n a) c.net.ensures in
    let at_head : c.to.result.0 ≡ head net a = c.to.ensures ∙ ap (λ (n : Network). head n a) c.net-2.ensures in
    let sum = rw (to_z-of_z fits, c.crossing_part.ensures.value, c.crossing_part-2.ensures.value, c.curve.ensures, at_tail, at_head) at c.sum_with.ensures in
    cut-if net a c.args.before.now.listing c.args.g.now.good c.requires.there c.args.side.now c.args.capacity c.requires.valid
    c.sum_with.result sum

pub returns-clause-goes : goal.returns-clause-goes
returns-clause-goes c =
    let net = c.args.g.now.network in
    let a = c.args.arc.0 in
    let fits : SFits w128 c.args.capacity = search rules in
    let at_tail : c.from.result.0 ≡ tail net a = c.from.ensures ∙ ap (λ (n : Network). tail n a) c.net.ensures in
    let at_head : c.to.result.0 ≡ head net a = c.to.ensures ∙ ap (λ (n : Network). head n a) c.net-2.ensures in
    let sum = rw (to_z-of_z fits, c.crossing_part.ensures.value, c.crossing_part-2.ensures.value, c.curve.ensures, at_tail, at_head) at c.sum_with.ensures in
    cut-unless net a c.args.before.now.listing c.args.g.now.good c.requires.there c.args.side.now c.args.capacity c.requires.valid
    c.sum_with.result sum
