-- Flows will do where all three tests pass, and where one fails they will not.
use Rattle.std.proofs.Common.{sym, ◌∙◌}
use Rattle.std.proofs.lemmas.Bool.{false≢true}
use Rattle.feasible_flow.proofs.domains.Domains.will_do.Goals as goal

pub returns-then-not-are_within-clause-answer : goal.returns-then-not-are_within-clause-answer
returns-then-not-are_within-clause-answer g c = (
  λ never. absurd (false≢true never),
  λ will. sym c.if-not-are_within.true ∙ c.are_within.ensures.1 (λ j. rw (c.arcs-arcs.ensures, c.flows.ensures) (will.near j)),
)

pub returns-then-not-is_conserved-clause-answer : goal.returns-then-not-is_conserved-clause-answer
returns-then-not-is_conserved-clause-answer g c = (
  λ never. absurd (false≢true never),
  λ will. sym c.if-not-is_conserved.true ∙ c.is_conserved.ensures.1 (rw c.flows-2.ensures will.conserved),
)

pub returns-clause-answer : goal.returns-clause-answer
returns-clause-answer g c =
    let within = c.are_within.ensures.0 c.if-not-are_within.false in
    let conserved = c.is_conserved.ensures.0 c.if-not-is_conserved.false in
    let one_each = c.requires.passable.one_curve_each in (
      λ yes. record {
        conserved = rw (← c.flows-2.ensures) conserved;
        near = λ j. rw (← c.flows.ensures, ← c.arcs-arcs.ensures) (within j);
        little = let few = c.lack_at_most.ensures.answer.0 yes in rw (one_each, c.arcs-arcs.ensures) at few;
      },
      λ will. c.lack_at_most.ensures.answer.1 (rw (one_each, c.arcs-arcs.ensures) will.little),
    )
