use Rattle.std.proofs.Common.{◌≡◌, ℕ, Option, Some, List, length, set, sym, ap, ◌∙◌, subst, rules}
use Rattle.theory.specs.declared.network.Step.{Step}
use Rattle.theory.specs.Circuit.{begin_of}
use Rattle.net_incidence.specs.Graph.{bare}
use Rattle.flow_pieces.specs.Course.{course, IsCourse}
use Rattle.flow_pieces.proofs.Going.{further}
use Rattle.flow_pieces.proofs.walker.Walker.push.Goals as goal

pub returns-clause-course : goal.returns-clause-course
returns-clause-course c =
    let g = c.args.net.now in
    let before = course c.args.self.now in
    let is = further g before c.args.step c.requires.course c.requires.there c.requires.along c.requires.from_end c.requires.new in
    let long : c.len-place.result ≡ length before.walk = search rules in
    let places : set before.places c.begin.result.0 (Some c.len-place.result) ≡ set before.places (begin_of (bare g) c.args.step) (Some (length before.walk)) =
    ap (λ i. set before.places i (Some c.len-place.result)) c.begin.ensures
    ∙ ap (λ n. set before.places (begin_of (bare g) c.args.step) (Some n)) long in
    let P : List Step → Type 0 = λ walk. IsCourse g (record before { walk = walk; places = set before.places (begin_of (bare g) c.args.step) (Some (length before.walk)) }) in
    let Q : List (Option ℕ) → Type 0 = λ some. IsCourse g (record before { walk = c.push.new.self.items; places = some }) in
    subst Q (sym places) (subst P (sym c.in_ok-push.ensures.items) is)
