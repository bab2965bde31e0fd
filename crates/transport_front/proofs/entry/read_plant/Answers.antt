use Rattle.std.proofs.Common.{◌≡◌, true, false, rules, [], ◌∷◌, Err, None, sym, subst, ◌∙◌, refl, ap, arith}
use Rattle.std.specs.Prelude.{is_some, is_none}
use Rattle.std.proofs.lemmas.Bool.Decides.{nat_tests}
use Rattle.model_text.specs.LineParts.{texts}
use Rattle.model_text.specs.Model.{place_of}
use Rattle.model_text.specs.ModelText.{word_at}
use Rattle.model_text.specs.Names.{IsName}
use Rattle.transport_front.specs.Table.{Kind, IsKind, has_fall, place_names, lane_names, ArePairs}
use Rattle.transport_front.specs.Table.Kind.{plant, shop}
use Rattle.transport_front.specs.TableText.{first_fault, lacks_names, behind, numbers, pairs_of, line_pairs, demand_of, pair_tests, demand_tests, has_all_places, has_all_lanes, has_place, has_lane, is_unknown, plant_tests, shop_tests, lane_tests}
use Rattle.transport_front.specs.Reading.{Passes}
use Rattle.transport_front.proofs.PairLemmas.{passes-same}
use Rattle.transport_front.proofs.EntryLemmas.{passed-front, refused-front, plant_rest, plant_unnamed, plant_named, pairs_right, plant_right}
use Rattle.transport_front.proofs.entry.read_plant.Goals as goal

pub returns-then-lacks_names-clause-tests : goal.returns-then-lacks_names-clause-tests
returns-then-lacks_names-clause-tests c = plant_unnamed c.args.table.now.table (texts c.args.words.now) (sym c.lacks_names.ensures ∙ c.if-lacks_names.true)

pub returns-in_err-pairs-clause-tests : goal.returns-in_err-pairs-clause-tests
returns-in_err-pairs-clause-tests c =
    let words = texts c.args.words.now in
    let t = c.args.table.now.table in
    let named : lacks_names 1 words ≡ false = sym c.lacks_names.ensures ∙ c.if-lacks_names.false in
    let same : c.from_residual.result ≡ Err c.in_err-pairs.field-0.0 = search rules in
    rw same
    (refused-front (plant_tests t words) (pair_tests (behind 1 words)) (plant_rest t words) (plant_named t words named) c.in_err-pairs.field-0.0
    (subst (λ w. Passes {A = Unit {0}} (pair_tests w) (Err c.in_err-pairs.field-0.0)) c.behind.ensures (subst (Passes (pair_tests (texts c.behind.result.now))) c.in_err-pairs.was c.pairs_of.ensures.tests)))

pub returns-then-places-ge-NODES_MOST-clause-tests : goal.returns-then-places-ge-NODES_MOST-clause-tests
returns-then-places-ge-NODES_MOST-clause-tests c =
    let words = texts c.args.words.now in
    let t = c.args.table.now.table in
    let named : lacks_names 1 words ≡ false = sym c.lacks_names.ensures ∙ c.if-lacks_names.false in
    let passed : first_fault (pair_tests (behind 1 words)) ≡ None = subst (λ w. first_fault (pair_tests w) ≡ None) c.behind.ensures c.in_ok-pairs.ensures.tests in
    let rest : first_fault (plant_tests t words) ≡ first_fault (plant_rest t words) = plant_named t words named ∙ passed-front (pair_tests (behind 1 words)) (plant_rest t words) passed in
    let full : has_all_places t ≡ true = grind (arith, nat_tests) in
    rest ∙ rw full refl

pub returns-then-has_fall-clause-tests : goal.returns-then-has_fall-clause-tests
returns-then-has_fall-clause-tests c =
    let words = texts c.args.words.now in
    let t = c.args.table.now.table in
    let named : lacks_names 1 words ≡ false = sym c.lacks_names.ensures ∙ c.if-lacks_names.false in
    let passed : first_fault (pair_tests (behind 1 words)) ≡ None = subst (λ w. first_fault (pair_tests w) ≡ None) c.behind.ensures c.in_ok-pairs.ensures.tests in
    let rest : first_fault (plant_tests t words) ≡ first_fault (plant_rest t words) = plant_named t words named ∙ passed-front (pair_tests (behind 1 words)) (plant_rest t words) passed in
    let pairs_is : c.in_ok-pairs.pairs.items ≡ line_pairs 1 words = c.in_ok-pairs.ensures.pairs ∙ ap (λ w. pairs_of (numbers w)) c.behind.ensures in
    let fall : c.has_fall.result ≡ has_fall (line_pairs 1 words) = c.has_fall.ensures ∙ ap has_fall (c.deref.ensures.value ∙ pairs_is) in
    let room : has_all_places t ≡ false = grind (arith, nat_tests) in
    rest ∙ rw (room, sym fall ∙ c.if-has_fall.true) refl

pub returns-then-is_some-clause-tests : goal.returns-then-is_some-clause-tests
returns-then-is_some-clause-tests c =
    let words = texts c.args.words.now in
    let t = c.args.table.now.table in
    let named : lacks_names 1 words ≡ false = sym c.lacks_names.ensures ∙ c.if-lacks_names.false in
    let passed : first_fault (pair_tests (behind 1 words)) ≡ None = subst (λ w. first_fault (pair_tests w) ≡ None) c.behind.ensures c.in_ok-pairs.ensures.tests in
    let rest : first_fault (plant_tests t words) ≡ first_fault (plant_rest t words) = plant_named t words named ∙ passed-front (pair_tests (behind 1 words)) (plant_rest t words) passed in
    let pairs_is : c.in_ok-pairs.pairs.items ≡ line_pairs 1 words = c.in_ok-pairs.ensures.pairs ∙ ap (λ w. pairs_of (numbers w)) c.behind.ensures in
    let fall : c.has_fall.result ≡ has_fall (line_pairs 1 words) = c.has_fall.ensures ∙ ap has_fall (c.deref.ensures.value ∙ pairs_is) in
    let room : has_all_places t ≡ false = grind (arith, nat_tests) in
    let twice : c.is_some.result ≡ has_place t (word_at words 1) =
    c.is_some.ensures ∙ ap is_some (c.place_of.ensures.place ∙ ap (place_of (place_names t)) c.word.ensures) in
    rest ∙ rw (room, sym fall ∙ c.if-has_fall.false, sym twice ∙ c.if-is_some.true) refl

pub add_place-requires-clause-kind : goal.add_place-requires-clause-kind
add_place-requires-clause-kind c =
    let words = texts c.args.words.now in
    let t = c.args.table.now.table in
    let named : lacks_names 1 words ≡ false = sym c.lacks_names.ensures ∙ c.if-lacks_names.false in
    let passed : first_fault (pair_tests (behind 1 words)) ≡ None = subst (λ w. first_fault (pair_tests w) ≡ None) c.behind.ensures c.in_ok-pairs.ensures.tests in
    let rest : first_fault (plant_tests t words) ≡ first_fault (plant_rest t words) = plant_named t words named ∙ passed-front (pair_tests (behind 1 words)) (plant_rest t words) passed in
    let pairs_is : c.in_ok-pairs.pairs.items ≡ line_pairs 1 words = c.in_ok-pairs.ensures.pairs ∙ ap (λ w. pairs_of (numbers w)) c.behind.ensures in
    let fall : c.has_fall.result ≡ has_fall (line_pairs 1 words) = c.has_fall.ensures ∙ ap has_fall (c.deref.ensures.value ∙ pairs_is) in
    subst (λ pairs. IsKind (plant pairs)) (sym pairs_is) (plant_right (line_pairs 1 words) (pairs_right (behind 1 words) passed (sym fall ∙ c.if-has_fall.false)))

pub returns-clause-tests : goal.returns-clause-tests
returns-clause-tests c =
    let words = texts c.args.words.now in
    let t = c.args.table.now.table in
    let named : lacks_names 1 words ≡ false = sym c.lacks_names.ensures ∙ c.if-lacks_names.false in
    let passed : first_fault (pair_tests (behind 1 words)) ≡ None = subst (λ w. first_fault (pair_tests w) ≡ None) c.behind.ensures c.in_ok-pairs.ensures.tests in
    let rest : first_fault (plant_tests t words) ≡ first_fault (plant_rest t words) = plant_named t words named ∙ passed-front (pair_tests (behind 1 words)) (plant_rest t words) passed in
    let pairs_is : c.in_ok-pairs.pairs.items ≡ line_pairs 1 words = c.in_ok-pairs.ensures.pairs ∙ ap (λ w. pairs_of (numbers w)) c.behind.ensures in
    let fall : c.has_fall.result ≡ has_fall (line_pairs 1 words) = c.has_fall.ensures ∙ ap has_fall (c.deref.ensures.value ∙ pairs_is) in
    let room : has_all_places t ≡ false = grind (arith, nat_tests) in
    let twice : c.is_some.result ≡ has_place t (word_at words 1) =
    c.is_some.ensures ∙ ap is_some (c.place_of.ensures.place ∙ ap (place_of (place_names t)) c.word.ensures) in
    passes-same (plant_tests t words) [] (rest ∙ rw (room, sym fall ∙ c.if-has_fall.false, sym twice ∙ c.if-is_some.false) refl) c.add_place.result c.add_place.ensures.tests
