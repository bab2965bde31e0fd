use Rattle.std.proofs.Common.{◌≡◌, ◌+◌, ◌%◌, ap, ◌∙◌}
use Rattle.trial_model.specs.Generator.{state_after, drawn}
use Rattle.trial_model.proofs.StateLemmas.{later_state, later_draw}
use Rattle.trial_model.proofs.CurveLemmas.{same_chord_list}
use Rattle.trial_model.proofs.chords.draw_chord.Goals as goal

pub returns-clause-to : goal.returns-clause-to
returns-clause-to c =
    let z = c.args.draws.now.state in
    ap (λ from. (from + (1 + c.draw-distance.result)) % 200) c.draw-from.ensures.drawn
    ∙ ap (λ distance. (drawn z 1 200 + (1 + distance)) % 200) (later_draw z 1 c.draw-from.new.self.state 199 c.draw-distance.result c.draw-from.ensures.state c.draw-distance.ensures.drawn)

pub returns-clause-items : goal.returns-clause-items
returns-clause-items c =
    let z = c.args.draws.now.state in
    let one : c.draw-from.new.self.state ≡ state_after z 1 = c.draw-from.ensures.state in
    let two : c.draw-distance.new.self.state ≡ state_after z 2 = later_state z 1 _ _ one c.draw-distance.ensures.state in
    let three : c.draw-slope.new.self.state ≡ state_after z 3 = later_state z 2 _ _ two c.draw-slope.ensures.state in
    let four : c.draw-first.new.self.state ≡ state_after z 4 = later_state z 3 _ _ three c.draw-first.ensures.state in
    let five : c.draw-steeper.new.self.state ≡ state_after z 5 = later_state z 4 _ _ four c.draw-steeper.ensures.state in
    c.chord_list.ensures
    ∙ same_chord_list _ _ _ _ _ _ _ _
    (later_draw z 2 _ 1000 _ two c.draw-slope.ensures.drawn) (later_draw z 3 _ 50 _ three c.draw-first.ensures.drawn)
    (later_draw z 4 _ 100 _ four c.draw-steeper.ensures.drawn) (later_draw z 5 _ 50 _ five c.draw-further.ensures.drawn)

pub returns-clause-state : goal.returns-clause-state
returns-clause-state c =
    let z = c.args.draws.now.state in
    let one : c.draw-from.new.self.state ≡ state_after z 1 = c.draw-from.ensures.state in
    let two : c.draw-distance.new.self.state ≡ state_after z 2 = later_state z 1 _ _ one c.draw-distance.ensures.state in
    let three : c.draw-slope.new.self.state ≡ state_after z 3 = later_state z 2 _ _ two c.draw-slope.ensures.state in
    let four : c.draw-first.new.self.state ≡ state_after z 4 = later_state z 3 _ _ three c.draw-first.ensures.state in
    let five : c.draw-steeper.new.self.state ≡ state_after z 5 = later_state z 4 _ _ four c.draw-steeper.ensures.state in
    later_state z 5 _ _ five c.draw-further.ensures.state
