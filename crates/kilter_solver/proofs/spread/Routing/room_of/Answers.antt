use Rattle.std.proofs.Common.{◌≡◌, ℤ, pos, ◌+ℤ◌, ◌-ℤ◌, sym, ◌∙◌, subst, w64, SFits, to_z, of_z, to_z-of_z, rules}
use Rattle.std.proofs.lemmas.Bool.{false≢true}
use Rattle.theory.specs.Readings.{IsUnder, IsOver}
use Rattle.theory.specs.Network.{«at»}
use Rattle.theory.specs.Conserved.{tension}
use Rattle.net_incidence.specs.Graph.{bare}
use Rattle.kilter_solver.specs.Routing.{IsRoomOf}
use Rattle.kilter_solver.proofs.Rooms.{next-over, next-under, room-of}
use Rattle.kilter_solver.proofs.spread.Routing.room_of.Goals as goal

pub room_up-requires-clause-next : goal.room_up-requires-clause-next
room_up-requires-clause-next g c =
    let net = c.args.self.now.net.now in
    let lists = g.B.Bundle.lists c.args.self.now.bundle.now in
    let w = c.args.work.now in
    let step = c.args.step in
    let v = to_z w64 (of_z w64 c.tension-tension.result) in
    let fits_v : SFits w64 c.tension-tension.result = search rules in
    let v_is : v ≡ tension (bare net) («at» w.potentials) step.arc.0 = to_z-of_z fits_v ∙ c.tension-tension.ensures.value in
    let fits_x : SFits w64 c.flow-flow.result = search rules in
    let x_is : to_z w64 (of_z w64 c.flow-flow.result) ≡ «at» w.flows step.arc.0 = to_z-of_z fits_x ∙ c.flow-flow.ensures in
    subst (λ (x : ℤ). IsOver c.range-low.result.1 (x +ℤ pos 1)) (sym x_is)
    (next-over net lists w step v c.range-low.result.0 c.range-low.result.1 c.range-low.ensures.range v_is c.if-step.true c.requires.next)

pub returns-then-step-clause-room : goal.returns-then-step-clause-room
returns-then-step-clause-room g c =
    let net = c.args.self.now.net.now in
    let lists = g.B.Bundle.lists c.args.self.now.bundle.now in
    let w = c.args.work.now in
    let step = c.args.step in
    let v = to_z w64 (of_z w64 c.tension-tension.result) in
    let fits_v : SFits w64 c.tension-tension.result = search rules in
    let v_is : v ≡ tension (bare net) («at» w.potentials) step.arc.0 = to_z-of_z fits_v ∙ c.tension-tension.ensures.value in
    let fits_x : SFits w64 c.flow-flow.result = search rules in
    let x_is : to_z w64 (of_z w64 c.flow-flow.result) ≡ «at» w.flows step.arc.0 = to_z-of_z fits_x ∙ c.flow-flow.ensures in
    let r = c.room_up.result in
    let fits_r : SFits w64 r = search rules in
    subst (λ (z : ℤ). IsRoomOf net lists w z step) (sym (to_z-of_z fits_r))
    (room-of net lists w step v c.range-low.result.0 c.range-low.result.1 c.range-low.ensures.range v_is r
    (c.requires.ready.on_curves.pairs step.arc.0 c.requires.there)
    (λ is. subst (λ (x : ℤ). IsOver c.range-low.result.1 (x +ℤ r)) x_is c.room_up.ensures.room) (λ is. absurd (false≢true (sym is ∙ c.if-step.true))))

pub room_down-requires-clause-next : goal.room_down-requires-clause-next
room_down-requires-clause-next g c =
    let net = c.args.self.now.net.now in
    let lists = g.B.Bundle.lists c.args.self.now.bundle.now in
    let w = c.args.work.now in
    let step = c.args.step in
    let v = to_z w64 (of_z w64 c.tension-tension.result) in
    let fits_v : SFits w64 c.tension-tension.result = search rules in
    let v_is : v ≡ tension (bare net) («at» w.potentials) step.arc.0 = to_z-of_z fits_v ∙ c.tension-tension.ensures.value in
    let fits_x : SFits w64 c.flow-flow.result = search rules in
    let x_is : to_z w64 (of_z w64 c.flow-flow.result) ≡ «at» w.flows step.arc.0 = to_z-of_z fits_x ∙ c.flow-flow.ensures in
    subst (λ (x : ℤ). IsUnder c.range-low.result.0 (x -ℤ pos 1)) (sym x_is)
    (next-under net lists w step v c.range-low.result.0 c.range-low.result.1 c.range-low.ensures.range v_is c.if-step.false c.requires.next)

pub returns-else-step-clause-room : goal.returns-else-step-clause-room
returns-else-step-clause-room g c =
    let net = c.args.self.now.net.now in
    let lists = g.B.Bundle.lists c.args.self.now.bundle.now in
    let w = c.args.work.now in
    let step = c.args.step in
    let v = to_z w64 (of_z w64 c.tension-tension.result) in
    let fits_v : SFits w64 c.tension-tension.result = search rules in
    let v_is : v ≡ tension (bare net) («at» w.potentials) step.arc.0 = to_z-of_z fits_v ∙ c.tension-tension.ensures.value in
    let fits_x : SFits w64 c.flow-flow.result = search rules in
    let x_is : to_z w64 (of_z w64 c.flow-flow.result) ≡ «at» w.flows step.arc.0 = to_z-of_z fits_x ∙ c.flow-flow.ensures in
    let r = c.room_down.result in
    let fits_r : SFits w64 r = search rules in
    subst (λ (z : ℤ). IsRoomOf net lists w z step) (sym (to_z-of_z fits_r))
    (room-of net lists w step v c.range-low.result.0 c.range-low.result.1 c.range-low.ensures.range v_is r
    (c.requires.ready.on_curves.pairs step.arc.0 c.requires.there)
    (λ is. absurd (false≢true (sym c.if-step.false ∙ is))) (λ is. subst (λ (x : ℤ). IsUnder c.range-low.result.0 (x -ℤ r)) x_is c.room_down.ensures.room))
