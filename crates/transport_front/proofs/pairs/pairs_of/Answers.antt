use Rattle.std.proofs.Common.{◌≡◌, ◌<◌, ◌/◌, ◌%◌, ◌≤◌, true, false, [], ◌∷◌, length, IfOk, arith, sym, subst, ◌∙◌, refl, ap}
use Rattle.std.proofs.lemmas.Bool.Decides.{nat_tests}
use Rattle.std.specs.List.{list_any}
use Rattle.model_text.specs.LineParts.{texts}
use Rattle.model_text.specs.ModelText.{is_over}
use Rattle.transport_front.specs.Table.{pairs_most}
use Rattle.transport_front.specs.declared.fault.TableWord.TheVariants.{Limit}
use Rattle.transport_front.specs.TableText.{pairs_of, pair_tests, first_fault, are_wrong_sizes}
use Rattle.transport_front.proofs.PairLemmas.{is_even, over_told, many_told, sizes_told, kept_exact, passes-same}
use Rattle.transport_front.proofs.pairs.pairs_of.Goals as goal
use Rattle.transport_front.proofs.pairs.pairs_of.Goals.{then-are_over-via-then-are_over, then-are_over-via-else-are_over+then-len-gt-PAIRS_MOST}

pub returns-then-are_over-clause-tests : goal.returns-then-are_over-clause-tests
returns-then-are_over-clause-tests c =
    let words = texts c.args.words.now in
    let listed = c.in_ok-listed.listed.items in
    let some : 0 < length listed = grind (arith, nat_tests, c.in_ok-listed.listed.ok.0) in
    let even = is_even (length listed) some (λ odd. grind (arith, nat_tests, c.in_ok-listed.listed.ok.0)) in
    let over = c.are_over.ensures ∙ ap (list_any is_over) c.deref.ensures.value in
    elim c.then-are_over.branch [
      | then-are_over-via-then-are_over w ↦ over_told words listed c.in_ok-listed.ensures.numbers c.in_ok-listed.ensures.tests even (sym over ∙ w.if-are_over.true)
      | then-are_over-via-else-are_over+then-len-gt-PAIRS_MOST w ↦
          many_told words listed c.in_ok-listed.ensures.numbers c.in_ok-listed.ensures.tests even (sym over ∙ w.if-are_over.false) (grind (arith, nat_tests, c.in_ok-listed.listed.ok.0))
    ]

pub returns-clause-tests : goal.returns-clause-tests
returns-clause-tests c =
    let words = texts c.args.words.now in
    let listed = c.in_ok-listed.listed.items in
    let some : 0 < length listed = grind (arith, nat_tests, c.in_ok-listed.listed.ok.0) in
    let even = is_even (length listed) some (λ odd. grind (arith, nat_tests, c.in_ok-listed.listed.ok.0)) in
    let over = c.are_over.ensures ∙ ap (list_any is_over) c.deref.ensures.value in
    let few : length listed / 2 ≤ pairs_most = grind (arith, nat_tests, c.in_ok-listed.listed.ok.0) in
    let same = sizes_told words listed c.in_ok-listed.ensures.numbers c.in_ok-listed.ensures.tests even (sym over ∙ c.if-are_over.false) few in
    passes-same (pair_tests words) ((are_wrong_sizes (pairs_of c.deref-2.result.now), Limit) ∷ [])
    (same ∙ ap (λ ns. first_fault ((are_wrong_sizes (pairs_of ns), Limit) ∷ [])) (sym c.deref-2.ensures.value)) c.paired.result c.paired.ensures.tests

pub returns-clause-pairs : goal.returns-clause-pairs
returns-clause-pairs c =
    let words = texts c.args.words.now in
    let listed = c.in_ok-listed.listed.items in
    let some : 0 < length listed = grind (arith, nat_tests, c.in_ok-listed.listed.ok.0) in
    let even = is_even (length listed) some (λ odd. grind (arith, nat_tests, c.in_ok-listed.listed.ok.0)) in
    let over = c.are_over.ensures ∙ ap (list_any is_over) c.deref.ensures.value in
    let exact = kept_exact words listed c.in_ok-listed.ensures.numbers c.in_ok-listed.ensures.tests even (sym over ∙ c.if-are_over.false) in
    subst (λ ns. IfOk c.paired.result (λ pairs. pairs.items ≡ pairs_of ns)) (c.deref-2.ensures.value ∙ exact) c.paired.ensures.pairs
