-- Each test that was made is the next of the table. The items and the base are kept exactly where they are within the limit.
use Rattle.std.proofs.Common.{◌≡◌, ◌≤◌, rules, arith, sym, ◌∙◌, ap, subst, refl, true, false, map, length, None, Err, SFits, to_z-of_z}
use mir.Syntax.{w64}
use Rattle.std.specs.Prelude.{is_none, nat_lt}
use Rattle.std.proofs.lemmas.Bool.Decides.{nat_tests}
use Rattle.theory.specs.Limits.{list_most}
use Rattle.model_text.specs.LineParts.{texts, item_tests, Passes}
use Rattle.model_text.specs.ModelText.{are_over, is_over, is_no_base, first_fault, items_of, part_list, part_items}
use Rattle.model_text.specs.Scale.{cost_decimals}
use Rattle.model_text.specs.NearNumbers.{near_item}
use Rattle.model_text.proofs.LineLemmas.{list-is, based-is, items-near, base-near, list-length}
use Rattle.model_text.proofs.EntryLemmas.{beyond_long, beyond_kept, items_kept, base_kept, numbers-lacking, numbers-there, list-refused}
use Rattle.std.proofs.lemmas.List.{length-map}
use Rattle.model_text.proofs.SoundLists.{items-count}
use Rattle.model_text.proofs.FirstPlace.{none_left}
use Rattle.model_text.proofs.part.numbers_of.Goals as goal

pub returns-in_err-items-clause-tests : goal.returns-in_err-items-clause-tests
returns-in_err-items-clause-tests c =
    let part = texts c.args.part.now in
    let list = list-is c.args.part.now c.split_at.result.0.now c.before_base.result c.before_base.ensures.count c.split_at.ensures.front in
    let same : c.from_residual.result ≡ Err c.in_err-items.field-0.0 = search rules in
    let refused = subst (Passes (item_tests c.args.scale (texts c.split_at.result.0.now))) c.in_err-items.was c.items_of.ensures.tests in
    rw same (list-refused c.args.scale part (texts c.split_at.result.0.now) c.in_err-items.field-0.0 list refused)

pub returns-in_default-clause-tests : goal.returns-in_default-clause-tests
returns-in_default-clause-tests c =
    let part = texts c.args.part.now in
    let based = based-is c.args.part.now c.split_at.result.1.now c.before_base.result c.before_base.ensures.count c.split_at.ensures.back in
    let told = rw c.cost.ensures.is at c.base_of.ensures.none in
    let none = ap (is_no_base (cost_decimals c.args.scale)) (sym based) ∙ sym told ∙ ap is_none (none_left c.base_of.result c.in_default.not-Some) in
    rw (numbers-lacking c.args.scale part none) refl

pub returns-then-list-gt-LIST_MOST-clause-tests : goal.returns-then-list-gt-LIST_MOST-clause-tests
returns-then-list-gt-LIST_MOST-clause-tests c =
    let part = texts c.args.part.now in
    let list = list-is c.args.part.now c.split_at.result.0.now c.before_base.result c.before_base.ensures.count c.split_at.ensures.front in
    let based = based-is c.args.part.now c.split_at.result.1.now c.before_base.result c.before_base.ensures.count c.split_at.ensures.back in
    let passed : first_fault (item_tests c.args.scale (part_list part)) ≡ None =
    rw (← list) (subst (Passes (item_tests c.args.scale (texts c.split_at.result.0.now))) c.in_ok-items.was c.items_of.ensures.tests) in
    let told = rw c.cost.ensures.is at c.base_of.ensures.none in
    let numbers = numbers-there c.args.scale part passed (ap (is_no_base (cost_decimals c.args.scale)) (sym based) ∙ sym told ∙ ap is_none c.in-Some.is) in
    let count = list-length c.args.part.now c.split_at.result.0.now list in
    let long : nat_lt list_most (length (part_list part)) ≡ true = grind (arith, nat_tests) in
    rw (numbers, beyond_long c.args.scale part long) refl

pub returns-then-are_over-clause-tests : goal.returns-then-are_over-clause-tests
returns-then-are_over-clause-tests c =
    let part = texts c.args.part.now in
    let list = list-is c.args.part.now c.split_at.result.0.now c.before_base.result c.before_base.ensures.count c.split_at.ensures.front in
    let based = based-is c.args.part.now c.split_at.result.1.now c.before_base.result c.before_base.ensures.count c.split_at.ensures.back in
    let passed : first_fault (item_tests c.args.scale (part_list part)) ≡ None =
    rw (← list) (subst (Passes (item_tests c.args.scale (texts c.split_at.result.0.now))) c.in_ok-items.was c.items_of.ensures.tests) in
    let told = rw c.cost.ensures.is at c.base_of.ensures.none in
    let numbers = numbers-there c.args.scale part passed (ap (is_no_base (cost_decimals c.args.scale)) (sym based) ∙ sym told ∙ ap is_none c.in-Some.is) in
    let count = list-length c.args.part.now c.split_at.result.0.now list in
    let short : nat_lt list_most (length (part_list part)) ≡ false = grind (arith, nat_tests) in
    let items_is : c.deref.result.now ≡ map near_item (part_items c.args.scale part) = c.deref.ensures.value ∙ c.in_ok-items.ensures.items ∙ items-near c.args.scale c.args.part.now c.split_at.result.0.now list in
    let base_read = rw c.cost.ensures.is at c.in-Some.ensures.base in
    let base_is = base_read ∙ base-near c.args.scale c.args.part.now c.split_at.result.1.now based in
    let kept = beyond_kept c.args.scale part c.deref.result.now c.in-Some.base items_is base_is short in
    let over : are_over c.deref.result.now ≡ true = search rules in
    rw (numbers, kept, over) refl

pub returns-then-is_over-clause-tests : goal.returns-then-is_over-clause-tests
returns-then-is_over-clause-tests c =
    let part = texts c.args.part.now in
    let list = list-is c.args.part.now c.split_at.result.0.now c.before_base.result c.before_base.ensures.count c.split_at.ensures.front in
    let based = based-is c.args.part.now c.split_at.result.1.now c.before_base.result c.before_base.ensures.count c.split_at.ensures.back in
    let passed : first_fault (item_tests c.args.scale (part_list part)) ≡ None =
    rw (← list) (subst (Passes (item_tests c.args.scale (texts c.split_at.result.0.now))) c.in_ok-items.was c.items_of.ensures.tests) in
    let told = rw c.cost.ensures.is at c.base_of.ensures.none in
    let numbers = numbers-there c.args.scale part passed (ap (is_no_base (cost_decimals c.args.scale)) (sym based) ∙ sym told ∙ ap is_none c.in-Some.is) in
    let count = list-length c.args.part.now c.split_at.result.0.now list in
    let short : nat_lt list_most (length (part_list part)) ≡ false = grind (arith, nat_tests) in
    let items_is : c.deref.result.now ≡ map near_item (part_items c.args.scale part) = c.deref.ensures.value ∙ c.in_ok-items.ensures.items ∙ items-near c.args.scale c.args.part.now c.split_at.result.0.now list in
    let base_read = rw c.cost.ensures.is at c.in-Some.ensures.base in
    let base_is = base_read ∙ base-near c.args.scale c.args.part.now c.split_at.result.1.now based in
    let kept = beyond_kept c.args.scale part c.deref.result.now c.in-Some.base items_is base_is short in
    let within : are_over c.deref.result.now ≡ false = search rules in
    let over : is_over c.in-Some.base ≡ true = search rules in
    rw (numbers, kept, within, over) refl

pub returns-clause-tests : goal.returns-clause-tests
returns-clause-tests c =
    let part = texts c.args.part.now in
    let list = list-is c.args.part.now c.split_at.result.0.now c.before_base.result c.before_base.ensures.count c.split_at.ensures.front in
    let based = based-is c.args.part.now c.split_at.result.1.now c.before_base.result c.before_base.ensures.count c.split_at.ensures.back in
    let passed : first_fault (item_tests c.args.scale (part_list part)) ≡ None =
    rw (← list) (subst (Passes (item_tests c.args.scale (texts c.split_at.result.0.now))) c.in_ok-items.was c.items_of.ensures.tests) in
    let told = rw c.cost.ensures.is at c.base_of.ensures.none in
    let numbers = numbers-there c.args.scale part passed (ap (is_no_base (cost_decimals c.args.scale)) (sym based) ∙ sym told ∙ ap is_none c.in-Some.is) in
    let count = list-length c.args.part.now c.split_at.result.0.now list in
    let short : nat_lt list_most (length (part_list part)) ≡ false = grind (arith, nat_tests) in
    let items_is : c.deref.result.now ≡ map near_item (part_items c.args.scale part) = c.deref.ensures.value ∙ c.in_ok-items.ensures.items ∙ items-near c.args.scale c.args.part.now c.split_at.result.0.now list in
    let base_read = rw c.cost.ensures.is at c.in-Some.ensures.base in
    let base_is = base_read ∙ base-near c.args.scale c.args.part.now c.split_at.result.1.now based in
    let kept = beyond_kept c.args.scale part c.deref.result.now c.in-Some.base items_is base_is short in
    let within : are_over c.deref.result.now ≡ false = search rules in
    let base_within : is_over c.in-Some.base ≡ false = search rules in
    rw (numbers, kept, within, base_within) refl

pub returns-clause-items : goal.returns-clause-items
returns-clause-items c =
    let part = texts c.args.part.now in
    let list = list-is c.args.part.now c.split_at.result.0.now c.before_base.result c.before_base.ensures.count c.split_at.ensures.front in
    let items_is : c.deref.result.now ≡ map near_item (part_items c.args.scale part) = c.deref.ensures.value ∙ c.in_ok-items.ensures.items ∙ items-near c.args.scale c.args.part.now c.split_at.result.0.now list in
    let within : are_over c.deref.result.now ≡ false = search rules in
    sym c.deref.ensures.value ∙ items_kept c.args.scale part c.deref.result.now items_is within

pub returns-clause-base : goal.returns-clause-base
returns-clause-base c =
    let part = texts c.args.part.now in
    let based = based-is c.args.part.now c.split_at.result.1.now c.before_base.result c.before_base.ensures.count c.split_at.ensures.back in
    let base_read = rw c.cost.ensures.is at c.in-Some.ensures.base in
    let base_is = base_read ∙ base-near c.args.scale c.args.part.now c.split_at.result.1.now based in
    let within : is_over c.in-Some.base ≡ false = search rules in
    let fits : SFits w64 c.in-Some.base = search rules in
    to_z-of_z fits ∙ base_kept c.args.scale part c.in-Some.base base_is within

pub invariant_of-result-clause-short : goal.invariant_of-result-clause-short
invariant_of-result-clause-short c =
    let s = c.args.scale in
    let list = c.split_at.result.0.now in
    let items = items_of s.flow s.tension (texts list) in
    let short : length c.in_ok-items.items.items ≤ list_most =
    omega (arith, ap length c.in_ok-items.ensures.items, length-map items near_item, items-count s.flow s.tension (texts list), length-map list (λ word. word.now)) in
    short
