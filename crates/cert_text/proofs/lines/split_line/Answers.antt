use Rattle.std.proofs.Common.{rules, ◌≡◌, ◌==◌, ◌∙◌, position}
use borrow.Author.Tests.{tests}
use Rattle.std.proofs.lemmas.Iterator.{YieldsList-from_slice}
use Rattle.std.proofs.lemmas.Iterator.Search.{position_from_yields_List}
use Rattle.cert_text.proofs.LineEnds.{line_found, no_line_found}
use Rattle.cert_text.proofs.lines.split_line.Goals as goal

pub returns-in-Some-clause-line : goal.returns-in-Some-clause-line
returns-in-Some-clause-line c =
    let is : c.position.result ≡ position (λ b. b == 10) c.args.text.now =
    position_from_yields_List _ _ _ c.position.result c.position.ensures.ran (YieldsList-from_slice c.args.text.now cc) (λ x b q k. search (rules, tests)) in
    c.split_at.ensures.front ∙ (line_found c.args.text.now c.position.result c.in-Some.end is c.in-Some.is).0

pub returns-in-Some-clause-rest : goal.returns-in-Some-clause-rest
returns-in-Some-clause-rest c =
    let is : c.position.result ≡ position (λ b. b == 10) c.args.text.now =
    position_from_yields_List _ _ _ c.position.result c.position.ensures.ran (YieldsList-from_slice c.args.text.now cc) (λ x b q k. search (rules, tests)) in
    c.split_at.ensures.back ∙ (line_found c.args.text.now c.position.result c.in-Some.end is c.in-Some.is).1

pub returns-in-None-clause-line : goal.returns-in-None-clause-line
returns-in-None-clause-line c =
    let is : c.position.result ≡ position (λ b. b == 10) c.args.text.now =
    position_from_yields_List _ _ _ c.position.result c.position.ensures.ran (YieldsList-from_slice c.args.text.now cc) (λ x b q k. search (rules, tests)) in
    (no_line_found c.args.text.now c.position.result is c.in-None.is).0

pub returns-in-None-clause-rest : goal.returns-in-None-clause-rest
returns-in-None-clause-rest c =
    let is : c.position.result ≡ position (λ b. b == 10) c.args.text.now =
    position_from_yields_List _ _ _ c.position.result c.position.ensures.ran (YieldsList-from_slice c.args.text.now cc) (λ x b q k. search (rules, tests)) in
    (no_line_found c.args.text.now c.position.result is c.in-None.is).1
