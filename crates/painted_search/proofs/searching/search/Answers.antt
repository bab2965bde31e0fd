use Rattle.std.proofs.Common.{ap, sym, ◌∙◌, arith}
use Rattle.net_incidence.specs.Graph.{bare}
use Rattle.painted_search.specs.Room.{Room}
use Rattle.painted_search.proofs.Growing.{tree-room}
use Rattle.painted_search.proofs.Ending.{growth-is}
use Rattle.painted_search.proofs.searching.search.Goals as goal

pub returns-else-grow-clause-grown : goal.returns-else-grow-clause-grown
returns-else-grow-clause-grown g c found =
    let on = c.grow.ensures.goes_on in
    growth-is (bare c.args.net.now) (g.P.Painter.paint c.args.painter.now) c.args.from.0 c.args.work.now.flows c.args.work.now.potentials
    c.grow.new.work c.grow.ensures.searching.tree
    (on.flows ∙ ap (λ (w : Room). w.flows) c.begin_at.ensures) (on.potentials ∙ ap (λ (w : Room). w.potentials) c.begin_at.ensures)

-- the goal isn't among the nodes that were reached
pub returns-else-grow-clause-short : goal.returns-else-grow-clause-short
returns-else-grow-clause-short g c found =
    let w = c.grow.new.work in
    let room = tree-room (bare c.args.net.now) (g.P.Painter.paint c.args.painter.now w.flows w.potentials) c.args.from.0 c.args.to.0 w
    c.grow.ensures.searching.tree c.requires.to_there (sym c.grow.ensures.met ∙ c.if-grow.false) in
    omega (arith, room)
