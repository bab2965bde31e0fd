use Rattle.std.proofs.Common.{rules, refl}
use Rattle.outside_io.proofs.Held.{whole_of_rest, long_answers}
use Rattle.outside_io.proofs.whole.read_file.Goals as goal

pub returns-in-Ready-clause-answer : goal.returns-in-Ready-clause-answer
returns-in-Ready-clause-answer g c =
    λ files told.
    let begun = c.in-Ready.ensures.ready refl files told in
    whole_of_rest files _ begun.0 _ _ _ _ begun.1 begun.2 c.read_rest.ensures.answer

pub returns-in-Ready-clause-too_long : goal.returns-in-Ready-clause-too_long
returns-in-Ready-clause-too_long g c =
    λ files told long.
    let begun = c.in-Ready.ensures.ready refl files told in
    let whole = whole_of_rest files _ begun.0 _ _ _ _ begun.1 begun.2 c.read_rest.ensures.answer in
    long_answers files _ _ _ _ long whole c.read_rest.ensures.within (λ is. search rules)
