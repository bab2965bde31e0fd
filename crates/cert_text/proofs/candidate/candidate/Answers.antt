use Rattle.std.proofs.Common.{◌≡◌, ◌≢◌, bytes_eq, length, sym, ap, subst, arith, ◌∙◌}
use Rattle.std.specs.Prelude.{codes}
use Rattle.std.specs.Cmp.Lexicographic.{bytes_decides}
use Rattle.std.proofs.lemmas.Bool.{both_ways}
use Rattle.cert_text.specs.CertificateText.{head_line}
use Rattle.cert_text.specs.Candidate.{first_line, IsCutRead, IsCircuitRead, IsOptimalRead, IsCandidate}
use Rattle.cert_text.specs.Shown.{shown}
use Rattle.cert_text.proofs.LineEnds.{after_no_longer}
use Rattle.cert_text.proofs.ByKind.{cut_candidate, circuit_candidate, optimal_candidate, if_ok}
use Rattle.cert_text.proofs.candidate.candidate.Goals as goal

pub candidate_circuit-requires : goal.candidate_circuit-requires
candidate_circuit-requires c = omega (arith, after_no_longer 1 c.args.text.now, ap length c.split_line.ensures.rest)

pub returns-then-eq : goal.returns-then-eq
returns-then-eq c =
    let m = c.args.m.now in
    let head : first_line c.args.text.now ≡ head_line m.scale (codes "cut") =
    sym c.split_line.ensures.line ∙ (bytes_decides c.split_line.result.0.now c.heads.result.0.now).0 (sym c.if-eq.ensures) ∙ c.heads.ensures.cut in
    if_ok c.candidate_cut.result (λ d. IsCutRead m.entries c.split_line.result.1.now (shown d)) (λ d. IsCandidate m.scale m.entries c.args.text.now (shown d))
    (λ d read. cut_candidate m.scale m.entries m.formed c.args.text.now (shown d) head (subst (λ l. IsCutRead m.entries l (shown d)) c.split_line.ensures.rest read))
    c.candidate_cut.ensures

pub returns-then-eq-2 : goal.returns-then-eq-2
returns-then-eq-2 c =
    let m = c.args.m.now in
    let head : first_line c.args.text.now ≡ head_line m.scale (codes "circuit") =
    sym c.split_line.ensures.line ∙ (bytes_decides c.split_line.result.0.now c.heads.result.1.now).0 (sym c.if-eq-2.ensures) ∙ c.heads.ensures.circuit in
    if_ok c.candidate_circuit.result (λ d. IsCircuitRead m.entries c.split_line.result.1.now (shown d)) (λ d. IsCandidate m.scale m.entries c.args.text.now (shown d))
    (λ d read. circuit_candidate m.scale m.entries m.formed c.args.text.now (shown d) head (subst (λ l. IsCircuitRead m.entries l (shown d)) c.split_line.ensures.rest read))
    c.candidate_circuit.ensures

pub returns-else-eq-2 : goal.returns-else-eq-2
returns-else-eq-2 c =
    let m = c.args.m.now in
    let no_cut : first_line c.args.text.now ≢ head_line m.scale (codes "cut") = λ same.
    both_ways (bytes_eq c.split_line.result.0.now c.heads.result.0.now) (sym c.if-eq.ensures)
    ((bytes_decides c.split_line.result.0.now c.heads.result.0.now).1 (c.split_line.ensures.line ∙ same ∙ sym c.heads.ensures.cut)) in
    let no_circuit : first_line c.args.text.now ≢ head_line m.scale (codes "circuit") = λ same.
    both_ways (bytes_eq c.split_line.result.0.now c.heads.result.1.now) (sym c.if-eq-2.ensures)
    ((bytes_decides c.split_line.result.0.now c.heads.result.1.now).1 (c.split_line.ensures.line ∙ same ∙ sym c.heads.ensures.circuit)) in
    if_ok c.candidate_optimal.result (λ d. IsOptimalRead m.entries c.split_line.result.1.now (shown d)) (λ d. IsCandidate m.scale m.entries c.args.text.now (shown d))
    (λ d read. optimal_candidate m.scale m.entries m.formed c.args.text.now (shown d) no_cut no_circuit (subst (λ l. IsOptimalRead m.entries l (shown d)) c.split_line.ensures.rest read))
    c.candidate_optimal.ensures
