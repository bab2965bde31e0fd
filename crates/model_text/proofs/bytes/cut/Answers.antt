use Rattle.std.proofs.Common.{rules, ◌≡◌, ◌==◌, ◌+◌, arith, sym, ◌∙◌, ap, take, drop}
use borrow.Author.Tests.{tests}
use Rattle.std.proofs.lemmas.List.{take_rest, take_all, drop_all}
use Rattle.std.proofs.lemmas.Iterator.{YieldsList-from_slice}
use Rattle.std.proofs.lemmas.Iterator.Search.{position_from_yields_List}
use Rattle.model_text.proofs.FirstPlace.{found, absent, first_place}
use Rattle.model_text.proofs.bytes.cut.Goals as goal

pub returns-in-Some-clause-before : goal.returns-in-Some-clause-before
returns-in-Some-clause-before c =
    let is : c.position.result ≡ first_place (λ byte. byte == c.args.at) c.args.bytes.now =
    position_from_yields_List _ _ _ c.position.result c.position.ensures.ran (YieldsList-from_slice c.args.bytes.now cc) (λ x b q k. search (rules, tests)) in
    let at = found (λ byte. byte == c.args.at) c.args.bytes.now c.in-Some.place (sym c.in-Some.is ∙ is) in
    ap (λ n. take n c.args.bytes.now) at.0

pub returns-in-Some-clause-after : goal.returns-in-Some-clause-after
returns-in-Some-clause-after c =
    let is : c.position.result ≡ first_place (λ byte. byte == c.args.at) c.args.bytes.now =
    position_from_yields_List _ _ _ c.position.result c.position.ensures.ran (YieldsList-from_slice c.args.bytes.now cc) (λ x b q k. search (rules, tests)) in
    let at = found (λ byte. byte == c.args.at) c.args.bytes.now c.in-Some.place (sym c.in-Some.is ∙ is) in
    take_rest c.args.bytes.now (c.in-Some.place + 1) ∙ ap (λ n. drop (n + 1) c.args.bytes.now) at.0

pub returns-in-None-clause-before : goal.returns-in-None-clause-before
returns-in-None-clause-before c =
    let is : c.position.result ≡ first_place (λ byte. byte == c.args.at) c.args.bytes.now =
    position_from_yields_List _ _ _ c.position.result c.position.ensures.ran (YieldsList-from_slice c.args.bytes.now cc) (λ x b q k. search (rules, tests)) in
    let none = absent (λ byte. byte == c.args.at) c.args.bytes.now (sym c.in-None.is ∙ is) in
    sym (take_all _ c.args.bytes.now (omega arith))

pub returns-in-None-clause-after : goal.returns-in-None-clause-after
returns-in-None-clause-after c =
    let is : c.position.result ≡ first_place (λ byte. byte == c.args.at) c.args.bytes.now =
    position_from_yields_List _ _ _ c.position.result c.position.ensures.ran (YieldsList-from_slice c.args.bytes.now cc) (λ x b q k. search (rules, tests)) in
    let none = absent (λ byte. byte == c.args.at) c.args.bytes.now (sym c.in-None.is ∙ is) in
    sym (drop_all _ c.args.bytes.now (omega arith))
