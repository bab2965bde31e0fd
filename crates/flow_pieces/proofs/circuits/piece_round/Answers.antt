use Rattle.std.proofs.Common.{ℤ, List, sym, ap, ◌∙◌, subst, to_z, of_z, w64, to_z-of_z, SFits, rules}
use Rattle.theory.specs.declared.network.Step.{Step}
use Rattle.theory.specs.Network.{«at»}
use Rattle.net_incidence.specs.Graph.{bare}
use Rattle.flow_pieces.specs.Pieces.{carried, IsPiece}
use Rattle.flow_pieces.proofs.Carrying.{carried-turned}
use Rattle.flow_pieces.proofs.Turning.{turned, turned-piece}
use Rattle.flow_pieces.proofs.circuits.piece_round.Goals as goal

pub returns-clause-piece : goal.returns-clause-piece
returns-clause-piece c =
    let net = bare c.args.net.now in
    let rest = «at» c.args.rest.now in
    let circuit = c.args.circuit.now in
    let weight = c.least_along.result in
    let turn = c.least_begin-turn.result in
    let fits : SFits w64 weight = search rules in
    let P : ℤ → Type 0 = λ w. IsPiece net rest (record { weight = w; walk = turned turn circuit }) in
    let Q : List Step → Type 0 = λ walk. IsPiece net rest (record { weight = to_z w64 (of_z w64 weight); walk = walk }) in
    subst Q (sym c.in_ok-turned.ensures)
    (subst P (sym (to_z-of_z fits))
    (turned-piece net rest circuit turn weight c.least_begin-turn.ensures.in_walk c.requires.round c.least_along.ensures c.least_begin-turn.ensures.least))

pub returns-clause-same : goal.returns-clause-same
returns-clause-same c j =
    let weight = to_z w64 (of_z w64 c.least_along.result) in
    ap (λ (walk : List Step). carried weight walk j) c.in_ok-turned.ensures ∙ carried-turned weight c.args.circuit.now c.least_begin-turn.result j
