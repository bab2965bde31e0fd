use Rattle.std.proofs.Common.{◌≡◌, ℕ, ◌-◌, ◌<◌, ℤ, ◌-ℤ◌, List, take, drop, length, sym, ap, ◌∙◌, subst, to_z-of_z, SFits, w64, arith, rules}
use Rattle.std.proofs.lemmas.List.{take_rest}
use Rattle.theory.specs.declared.network.Step.{Step}
use Rattle.theory.specs.Network.{«at»}
use Rattle.theory.specs.Circuit.{step}
use Rattle.net_incidence.specs.Graph.{bare}
use Rattle.flow_pieces.specs.Pieces.{carried, IsLeastAlong}
use Rattle.flow_pieces.specs.Course.{course, IsRound, IsCourse, ArePlaces}
use Rattle.flow_pieces.proofs.Carrying.{ArcsDiffer}
use Rattle.flow_pieces.proofs.Closing.{is_round, closed}
use Rattle.flow_pieces.proofs.walker.Walker.close.Goals as goal

pub piece_round-requires-clause-round : goal.piece_round-requires-clause-round
piece_round-requires-clause-round c =
    let net = bare c.args.net.now in
    let circuit = take_rest c.deref.result.now c.args.place ∙ ap (drop c.args.place) c.deref.ensures.value in
    let round = is_round c.args.net.now (course c.args.self.now) c.args.place c.requires.course c.requires.in_walk c.requires.meets in
    let P : List Step → Type 0 = λ walk. IsRound net («at» c.as_slice.result.now) walk in
    let Q : List ℤ → Type 0 = λ rest. IsRound net («at» rest) (drop c.args.place c.args.self.now.walk.items) in
    subst P (sym circuit) (subst Q (sym c.as_slice.ensures.value) round)

pub take_off-requires-clause-there : goal.take_off-requires-clause-there
take_off-requires-clause-there c =
    let circuit = take_rest c.deref.result.now c.args.place ∙ ap (drop c.args.place) c.deref.ensures.value in
    let round = is_round c.args.net.now (course c.args.self.now) c.args.place c.requires.course c.requires.in_walk c.requires.meets in
    let long = c.requires.course.numbers.one_each in
    let P : List Step → Type 0 = λ walk. (k : ℕ) → k < length walk → (step walk k).arc.0 < length c.args.self.now.rest.items in
    subst P (sym circuit) (λ k l. let there = round.there k l in omega arith)

pub take_off-requires-clause-differ : goal.take_off-requires-clause-differ
take_off-requires-clause-differ c =
    let circuit = take_rest c.deref.result.now c.args.place ∙ ap (drop c.args.place) c.deref.ensures.value in
    let round = is_round c.args.net.now (course c.args.self.now) c.args.place c.requires.course c.requires.in_walk c.requires.meets in
    let P : List Step → Type 0 = λ walk. ArcsDiffer walk in
    subst P (sym circuit) round.circuit.arcs_differ

pub returns-clause-course : goal.returns-clause-course
returns-clause-course c =
    let g = c.args.net.now in
    let before = course c.args.self.now in
    let place = c.args.place in
    let weight = c.in_ok-piece.piece.weight in
    let after = c.cut.new.self in
    let fits : SFits w64 weight = search rules in
    let circuit = take_rest c.deref.result.now place ∙ ap (drop place) c.deref.ensures.value in
    let round = is_round g before place c.requires.course c.requires.in_walk c.requires.meets in
    let P : List Step → Type 0 = λ walk. IsLeastAlong («at» c.as_slice.result.now) walk weight in
    let Q : List ℤ → Type 0 = λ rest. IsLeastAlong («at» rest) (drop place before.walk) weight in
    let weighs : IsLeastAlong («at» before.rest) (drop place before.walk) weight =
    subst Q c.as_slice.ensures.value (subst P circuit c.in_ok-piece.ensures.weighs) in
    let takes : (j : ℕ) → «at» after.rest.items j ≡ «at» before.rest j -ℤ carried weight (drop place before.walk) j =
    (λ j. ap (λ rest. «at» rest j) c.cut.ensures.rest ∙ c.take_off.ensures.less j
    ∙ ap (λ w. «at» before.rest j -ℤ carried w (take (length c.deref.result.now - place) (drop place c.deref.result.now)) j) (to_z-of_z fits)
    ∙ ap (λ walk. «at» before.rest j -ℤ carried weight walk j) circuit) in
    let long : length after.rest.items ≡ length before.rest = ap length c.cut.ensures.rest ∙ c.take_off.ensures.same in
    let R : List Step → Type 0 = λ walk. ArePlaces (bare g) walk after.places.items in
    let is : IsCourse g (record { rest = after.rest.items; walk = take place before.walk; places = after.places.items; looked = before.looked }) =
    closed g before place weight after.rest.items after.places.items c.requires.course c.requires.in_walk round weighs long takes
    (subst R c.cut.ensures.walk c.cut.ensures.placed) in
    let S : List Step → Type 0 = λ walk. IsCourse g (record { rest = after.rest.items; walk = walk; places = after.places.items; looked = before.looked }) in
    let T : List ℕ → Type 0 = λ looked. IsCourse g (record { rest = after.rest.items; walk = after.walk.items; places = after.places.items; looked = looked }) in
    subst T (sym c.cut.ensures.looked) (subst S (sym c.cut.ensures.walk) is)

pub returns-clause-left : goal.returns-clause-left
returns-clause-left c j =
    let rest = «at» c.args.self.now.rest.items j in
    let weight = c.in_ok-piece.piece.weight in
    let fits : SFits w64 weight = search rules in
    let circuit = take (length c.deref.result.now - c.args.place) (drop c.args.place c.deref.result.now) in
    ap (λ left. «at» left j) c.cut.ensures.rest ∙ c.take_off.ensures.less j
    ∙ ap (λ w. rest -ℤ carried w circuit j) (to_z-of_z fits)
    ∙ ap (λ z. rest -ℤ z) (sym (c.in_ok-piece.ensures.same j))
