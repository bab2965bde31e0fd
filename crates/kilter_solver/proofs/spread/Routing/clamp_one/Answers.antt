use Rattle.std.proofs.Common.{ℤ, ◌-ℤ◌, subst, to_z-of_z, w64, SFits, rules}
use Rattle.theory.specs.Network.{«at»}
use Rattle.kilter_solver.specs.Clamping.{IsShifted}
use Rattle.kilter_solver.proofs.Clamps.{clamped-one}
use Rattle.kilter_solver.proofs.spread.Routing.clamp_one.Goals as goal

pub returns-clause-clamped : goal.returns-clause-clamped
returns-clause-clamped g c =
    let net = c.args.self.now.net.now in
    let j = c.args.arc.0 in
    let v = c.args.work.now in
    let w = c.shift_to.new.work in
    let fits : SFits w64 c.closest_flow-near.result = search rules in
    clamped-one net (g.B.Bundle.lists c.args.self.now.bundle.now) j c.closest_flow-near.result v w c.requires.ready c.closest_flow-near.ensures.closest
    (subst (λ (z : ℤ). IsShifted net j (z -ℤ «at» v.flows j) v w) (to_z-of_z fits) c.shift_to.ensures)
