use Rattle.std.proofs.Common.{◌/◌, ◌%◌, ◌^◌, refl, ap, ◌∙◌}
use Rattle.trial_model.specs.Generator.{state_after}
use Rattle.trial_model.proofs.StateLemmas.{advanced, draws}
use Rattle.trial_model.proofs.draws.Draws.draw.Goals as goal

pub returns-clause-state : goal.returns-clause-state
returns-clause-state c = advanced c.args.self.now.state _ refl

pub returns-clause-drawn : goal.returns-clause-drawn
returns-clause-drawn c =
    ap (λ s. s / 2 ^ 33 % c.from.result) (advanced c.args.self.now.state _ refl)
    ∙ ap (λ k. state_after c.args.self.now.state 1 / 2 ^ 33 % k) c.from.ensures ∙ draws c.args.self.now.state c.args.bound
