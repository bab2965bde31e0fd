-- The part behind the names is read, so its tests are those of the line, and the curve is that of the line.
use Rattle.std.proofs.Common.{◌≡◌, rules, sym, ◌∙◌, subst, refl, Err}
use Rattle.model_text.specs.ModelText.{first_fault, line_listing, part_listing, listing_of}
use Rattle.model_text.specs.LineParts.{texts, number_tests, shape_tests, curve_tests, Passes}
use Rattle.model_text.proofs.EntryLemmas.{numbers-refused, room-lacking, shape-left, listing-is}
use Rattle.model_text.proofs.ReadLemmas.{passes-same}
use Rattle.model_text.proofs.entry.curve_of.Goals as goal

pub returns-in_err-numbers-clause-tests : goal.returns-in_err-numbers-clause-tests
returns-in_err-numbers-clause-tests c =
    let line = c.args.line.now in
    let named = sym c.lacks_names.ensures ∙ c.if-lacks_names.false in
    let same : c.from_residual.result ≡ Err c.in_err-numbers.field-0.0 = search rules in
    let refused = subst (Passes (number_tests c.args.model.now.scale (texts line.part.now))) c.in_err-numbers.was (rw c.scale.ensures at c.numbers_of.ensures.tests) in
    rw same (numbers-refused c.args.model.now.scale c.args.model.now.entries (texts line.words.now) (texts line.part.now) line.parts.part named c.in_err-numbers.field-0.0 refused)

pub returns-then-is_full-clause-tests : goal.returns-then-is_full-clause-tests
returns-then-is_full-clause-tests c =
    let line = c.args.line.now in
    let named = sym c.lacks_names.ensures ∙ c.if-lacks_names.false in
    let passed = subst (Passes (number_tests c.args.model.now.scale (texts line.part.now))) c.in_ok-numbers.was (rw c.scale.ensures at c.numbers_of.ensures.tests) in
    room-lacking c.args.model.now.scale c.args.model.now.entries (texts line.words.now) (texts line.part.now) line.parts.part named passed (sym c.is_full.ensures ∙ c.if-is_full.true)

pub returns-clause-tests : goal.returns-clause-tests
returns-clause-tests c =
    let line = c.args.line.now in
    let m = c.args.model.now.entries in
    let words = texts line.words.now in
    let part = texts line.part.now in
    let named = sym c.lacks_names.ensures ∙ c.if-lacks_names.false in
    let passed = subst (Passes (number_tests c.args.model.now.scale part)) c.in_ok-numbers.was (rw c.scale.ensures at c.numbers_of.ensures.tests) in
    let left = shape-left c.args.model.now.scale m words part line.parts.part named passed (sym c.is_full.ensures ∙ c.if-is_full.false) in
    let same : first_fault (curve_tests c.args.model.now.scale m words) ≡ first_fault (shape_tests c.is_node.result c.in_ok-numbers.numbers.items.items) =
    left ∙ rw (c.in_ok-numbers.ensures.items, c.scale.ensures, c.is_node.ensures, line.parts.node) refl in
    passes-same (curve_tests c.args.model.now.scale m words) (shape_tests c.is_node.result c.in_ok-numbers.numbers.items.items) same c.into_curve.result c.into_curve.ensures.tests

pub returns-clause-curve : goal.returns-clause-curve
unfolding part_listing
returns-clause-curve c =
    let line = c.args.line.now in
    let words = texts line.words.now in
    let part = texts line.part.now in
    let named = sym c.lacks_names.ensures ∙ c.if-lacks_names.false in
    let is : listing_of c.in_ok-numbers.numbers.items.items c.in_ok-numbers.numbers.base ≡ line_listing c.args.model.now.scale words =
    rw (c.in_ok-numbers.ensures.items, c.in_ok-numbers.ensures.base, c.scale.ensures) (listing-is c.args.model.now.scale c.args.model.now.entries words part line.parts.part named) in
    rw is at c.into_curve.ensures.curve
