use Rattle.std.proofs.Common.{◌≡◌, ◌+◌, ◌<◌, ◌≤◌, length, arith}
use Rattle.tucker_tableau.proofs.Tables.{leading-none, leading-more, leading-all}
use Rattle.tucker_tableau.proofs.tableau.Tableau.lead.Goals as goal

pub loop-arc-init : goal.loop-arc-init
loop-arc-init c = rw c.rows-ground.ensures.count (leading-none c.args.self.now c.requires)

pub loop-arc-preserved : goal.loop-arc-preserved
loop-arc-preserved c =
    let old = c.args.self.now in
    let low : length old.rows ≤ c.loop-arc.arc = omega (arith, c.rows-ground.ensures.count, c.loop-arc.auto.arc) in
    let high : c.loop-arc.arc < length old.rows + length old.columns = omega (arith, c.rows-ground.ensures.count, c.columns.ensures, c.loop-arc-test.true) in
    leading-more old c.loop-arc.self c.look_at.new.self c.loop-arc.arc low high c.loop-arc.invariant c.look_at.ensures.looked_at c.look_at.ensures.tableau

pub returns-clause-led : goal.returns-clause-led
returns-clause-led c =
    let old = c.args.self.now in
    let end : c.loop-arc.arc ≡ length old.rows + length old.columns =
    omega (arith, c.rows-ground.ensures.count, c.columns.ensures, c.loop-arc-test.false, c.loop-arc.auto.arc-end) in
    leading-all old c.loop-arc.self c.loop-arc.arc end c.loop-arc.invariant
