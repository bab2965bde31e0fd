use Rattle.std.proofs.Common.{◌≡◌, true, false, rules, [], ◌∷◌, Err, None, sym, subst, ◌∙◌, refl, ap, arith}
use Rattle.std.specs.Prelude.{is_some, is_none}
use Rattle.std.proofs.lemmas.Bool.Decides.{nat_tests}
use Rattle.model_text.specs.LineParts.{texts}
use Rattle.model_text.specs.Model.{place_of}
use Rattle.model_text.specs.ModelText.{word_at}
use Rattle.model_text.specs.Names.{IsName}
use Rattle.transport_front.specs.Table.{Kind, IsKind, has_fall, place_names, lane_names, ArePairs}
use Rattle.transport_front.specs.Table.Kind.{plant, shop}
use Rattle.transport_front.specs.TableText.{first_fault, lacks_names, behind, numbers, pairs_of, line_pairs, demand_of, pair_tests, demand_tests, has_all_places, has_all_lanes, has_place, has_lane, is_unknown, plant_tests, shop_tests, lane_tests}
use Rattle.transport_front.specs.Reading.{Passes}
use Rattle.transport_front.proofs.PairLemmas.{passes-same}
use Rattle.transport_front.proofs.EntryLemmas.{passed-front, refused-front, shop_rest, shop_unnamed, shop_named, shop_right}
use Rattle.transport_front.proofs.entry.read_shop.Goals as goal

pub returns-then-lacks_names-clause-tests : goal.returns-then-lacks_names-clause-tests
returns-then-lacks_names-clause-tests c = shop_unnamed c.args.table.now.table (texts c.args.words.now) (sym c.lacks_names.ensures ∙ c.if-lacks_names.true)

pub returns-in_err-demand-clause-tests : goal.returns-in_err-demand-clause-tests
returns-in_err-demand-clause-tests c =
    let words = texts c.args.words.now in
    let t = c.args.table.now.table in
    let named : lacks_names 1 words ≡ false = sym c.lacks_names.ensures ∙ c.if-lacks_names.false in
    let same : c.from_residual.result ≡ Err c.in_err-demand.field-0.0 = search rules in
    rw same
    (refused-front (shop_tests t words) (demand_tests (behind 1 words)) (shop_rest t words) (shop_named t words named) c.in_err-demand.field-0.0
    (subst (λ w. Passes {A = Unit {0}} (demand_tests w) (Err c.in_err-demand.field-0.0)) c.behind.ensures (subst (Passes (demand_tests (texts c.behind.result.now))) c.in_err-demand.was c.demand_of.ensures.tests)))

pub returns-then-places-ge-NODES_MOST-clause-tests : goal.returns-then-places-ge-NODES_MOST-clause-tests
returns-then-places-ge-NODES_MOST-clause-tests c =
    let words = texts c.args.words.now in
    let t = c.args.table.now.table in
    let named : lacks_names 1 words ≡ false = sym c.lacks_names.ensures ∙ c.if-lacks_names.false in
    let passed : first_fault (demand_tests (behind 1 words)) ≡ None = subst (λ w. first_fault (demand_tests w) ≡ None) c.behind.ensures c.in_ok-demand.ensures.tests in
    let rest : first_fault (shop_tests t words) ≡ first_fault (shop_rest t words) = shop_named t words named ∙ passed-front (demand_tests (behind 1 words)) (shop_rest t words) passed in
    let full : has_all_places t ≡ true = grind (arith, nat_tests) in
    rest ∙ rw full refl

pub returns-then-is_some-clause-tests : goal.returns-then-is_some-clause-tests
returns-then-is_some-clause-tests c =
    let words = texts c.args.words.now in
    let t = c.args.table.now.table in
    let named : lacks_names 1 words ≡ false = sym c.lacks_names.ensures ∙ c.if-lacks_names.false in
    let passed : first_fault (demand_tests (behind 1 words)) ≡ None = subst (λ w. first_fault (demand_tests w) ≡ None) c.behind.ensures c.in_ok-demand.ensures.tests in
    let rest : first_fault (shop_tests t words) ≡ first_fault (shop_rest t words) = shop_named t words named ∙ passed-front (demand_tests (behind 1 words)) (shop_rest t words) passed in
    let room : has_all_places t ≡ false = grind (arith, nat_tests) in
    let twice : c.is_some.result ≡ has_place t (word_at words 1) =
    c.is_some.ensures ∙ ap is_some (c.place_of.ensures.place ∙ ap (place_of (place_names t)) c.word.ensures) in
    rest ∙ rw (room, sym twice ∙ c.if-is_some.true) refl

pub returns-clause-tests : goal.returns-clause-tests
returns-clause-tests c =
    let words = texts c.args.words.now in
    let t = c.args.table.now.table in
    let named : lacks_names 1 words ≡ false = sym c.lacks_names.ensures ∙ c.if-lacks_names.false in
    let passed : first_fault (demand_tests (behind 1 words)) ≡ None = subst (λ w. first_fault (demand_tests w) ≡ None) c.behind.ensures c.in_ok-demand.ensures.tests in
    let rest : first_fault (shop_tests t words) ≡ first_fault (shop_rest t words) = shop_named t words named ∙ passed-front (demand_tests (behind 1 words)) (shop_rest t words) passed in
    let room : has_all_places t ≡ false = grind (arith, nat_tests) in
    let twice : c.is_some.result ≡ has_place t (word_at words 1) =
    c.is_some.ensures ∙ ap is_some (c.place_of.ensures.place ∙ ap (place_of (place_names t)) c.word.ensures) in
    passes-same (shop_tests t words) [] (rest ∙ rw (room, sym twice ∙ c.if-is_some.false) refl) c.add_place.result c.add_place.ensures.tests
