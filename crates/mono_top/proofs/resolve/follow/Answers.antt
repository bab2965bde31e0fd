-- One solve of the model's network, and then the changes.
use Rattle.std.proofs.Common.{◌≡◌, ℕ, ◌+◌, ◌*◌, ◌≤◌, length, ap, ◌∙◌, arith}
use Rattle.std.proofs.Math.Nat.{add-mul}
use Rattle.theory.specs.Network.{Network}
use Rattle.theory.specs.Grounded.{grounded}
use Rattle.theory.specs.Limits.{level_most}
use Rattle.theory.specs.ReadingBound.{reading_bound}
use Rattle.mono_top.specs.NetBound.{net_bound}
use Rattle.mono_top.proofs.resolve.follow.Goals as goal

whole_bound : (before start now k b r : ℕ) → r ≡ b → start ≤ before + r → now ≤ start + 2 * k * b → now ≤ before + (2 * k + 1) * b
whole_bound before start now k b r same first rest = omega (arith, add-mul (2 * k) 1 b)

pub make_changes-requires-clause-network : goal.make_changes-requires-clause-network
make_changes-requires-clause-network g c = c.in_ok-warm.ensures.network ∙ c.in_ok-ground.ensures

pub returns-clause-no_fewer : goal.returns-clause-no_fewer
returns-clause-no_fewer g c = omega (arith, c.start.ensures.no_fewer, c.make_changes.ensures.no_fewer)

pub returns-clause-bounded : goal.returns-clause-bounded
returns-clause-bounded g c =
    whole_bound c.args.steps.now c.start.new.steps c.make_changes.new.steps (length c.args.changes) (net_bound (grounded c.args.model.now.entries)) _
    (ap (λ (n : Network). reading_bound n.nodes (length n.arcs) level_most) c.in_ok-ground.ensures) c.start.ensures.count c.make_changes.ensures.bounded

pub returns-clause-answers : goal.returns-clause-answers
returns-clause-answers g c = c.make_changes.ensures.answers
