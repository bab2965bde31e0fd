use Rattle.std.proofs.Common.{◌≡◌, true, false, rules, [], ◌∷◌, Err, None, sym, subst, ◌∙◌, refl, ap, arith}
use Rattle.std.specs.Prelude.{is_some, is_none}
use Rattle.std.proofs.lemmas.Bool.Decides.{nat_tests}
use Rattle.model_text.specs.LineParts.{texts}
use Rattle.model_text.specs.Model.{place_of}
use Rattle.model_text.specs.ModelText.{word_at}
use Rattle.model_text.specs.Names.{IsName}
use Rattle.transport_front.specs.Table.{Kind, IsKind, has_fall, place_names, lane_names, ArePairs}
use Rattle.transport_front.specs.Table.Kind.{plant, shop}
use Rattle.transport_front.specs.TableText.{first_fault, lacks_names, behind, numbers, pairs_of, line_pairs, demand_of, pair_tests, demand_tests, has_all_places, has_all_lanes, has_place, has_lane, is_unknown, plant_tests, shop_tests, lane_tests}
use Rattle.transport_front.specs.Reading.{Passes}
use Rattle.transport_front.proofs.PairLemmas.{passes-same}
use Rattle.model_text.proofs.FirstPlace.{none_left}
use Rattle.transport_front.proofs.EntryLemmas.{passed-front, refused-front, lane_rest, lane_unnamed, lane_named, pairs_right, lane_right, first_named}
use Rattle.transport_front.proofs.entry.read_lane.Goals as goal

pub returns-then-lacks_names-clause-tests : goal.returns-then-lacks_names-clause-tests
returns-then-lacks_names-clause-tests c = lane_unnamed c.args.table.now.table (texts c.args.words.now) (sym c.lacks_names.ensures ∙ c.if-lacks_names.true)

pub returns-in_err-pairs-clause-tests : goal.returns-in_err-pairs-clause-tests
returns-in_err-pairs-clause-tests c =
    let words = texts c.args.words.now in
    let t = c.args.table.now.table in
    let named : lacks_names 3 words ≡ false = sym c.lacks_names.ensures ∙ c.if-lacks_names.false in
    let same : c.from_residual.result ≡ Err c.in_err-pairs.field-0.0 = search rules in
    rw same
    (refused-front (lane_tests t words) (pair_tests (behind 3 words)) (lane_rest t words) (lane_named t words named) c.in_err-pairs.field-0.0
    (subst (λ w. Passes {A = Unit {0}} (pair_tests w) (Err c.in_err-pairs.field-0.0)) c.behind.ensures (subst (Passes (pair_tests (texts c.behind.result.now))) c.in_err-pairs.was c.pairs_of.ensures.tests)))

pub returns-then-lanes-ge-ARCS_MOST-clause-tests : goal.returns-then-lanes-ge-ARCS_MOST-clause-tests
returns-then-lanes-ge-ARCS_MOST-clause-tests c =
    let words = texts c.args.words.now in
    let t = c.args.table.now.table in
    let named : lacks_names 3 words ≡ false = sym c.lacks_names.ensures ∙ c.if-lacks_names.false in
    let passed : first_fault (pair_tests (behind 3 words)) ≡ None = subst (λ w. first_fault (pair_tests w) ≡ None) c.behind.ensures c.in_ok-pairs.ensures.tests in
    let rest : first_fault (lane_tests t words) ≡ first_fault (lane_rest t words) = lane_named t words named ∙ passed-front (pair_tests (behind 3 words)) (lane_rest t words) passed in
    let full : has_all_lanes t ≡ true = grind (arith, nat_tests) in
    rest ∙ rw full refl

pub returns-then-has_fall-clause-tests : goal.returns-then-has_fall-clause-tests
returns-then-has_fall-clause-tests c =
    let words = texts c.args.words.now in
    let t = c.args.table.now.table in
    let named : lacks_names 3 words ≡ false = sym c.lacks_names.ensures ∙ c.if-lacks_names.false in
    let passed : first_fault (pair_tests (behind 3 words)) ≡ None = subst (λ w. first_fault (pair_tests w) ≡ None) c.behind.ensures c.in_ok-pairs.ensures.tests in
    let rest : first_fault (lane_tests t words) ≡ first_fault (lane_rest t words) = lane_named t words named ∙ passed-front (pair_tests (behind 3 words)) (lane_rest t words) passed in
    let pairs_is : c.in_ok-pairs.pairs.items ≡ line_pairs 3 words = c.in_ok-pairs.ensures.pairs ∙ ap (λ w. pairs_of (numbers w)) c.behind.ensures in
    let fall : c.has_fall.result ≡ has_fall (line_pairs 3 words) = c.has_fall.ensures ∙ ap has_fall (c.deref.ensures.value ∙ pairs_is) in
    let room : has_all_lanes t ≡ false = grind (arith, nat_tests) in
    rest ∙ rw (room, sym fall ∙ c.if-has_fall.true) refl

pub returns-then-has_lane-clause-tests : goal.returns-then-has_lane-clause-tests
returns-then-has_lane-clause-tests c =
    let words = texts c.args.words.now in
    let t = c.args.table.now.table in
    let named : lacks_names 3 words ≡ false = sym c.lacks_names.ensures ∙ c.if-lacks_names.false in
    let passed : first_fault (pair_tests (behind 3 words)) ≡ None = subst (λ w. first_fault (pair_tests w) ≡ None) c.behind.ensures c.in_ok-pairs.ensures.tests in
    let rest : first_fault (lane_tests t words) ≡ first_fault (lane_rest t words) = lane_named t words named ∙ passed-front (pair_tests (behind 3 words)) (lane_rest t words) passed in
    let pairs_is : c.in_ok-pairs.pairs.items ≡ line_pairs 3 words = c.in_ok-pairs.ensures.pairs ∙ ap (λ w. pairs_of (numbers w)) c.behind.ensures in
    let fall : c.has_fall.result ≡ has_fall (line_pairs 3 words) = c.has_fall.ensures ∙ ap has_fall (c.deref.ensures.value ∙ pairs_is) in
    let room : has_all_lanes t ≡ false = grind (arith, nat_tests) in
    let twice : c.has_lane.result ≡ has_lane t (word_at words 1) = c.has_lane.ensures ∙ ap (λ name. is_some (place_of (lane_names t) name)) c.word.ensures in
    rest ∙ rw (room, sym fall ∙ c.if-has_fall.false, sym twice ∙ c.if-has_lane.true) refl

pub returns-in_default-clause-tests : goal.returns-in_default-clause-tests
returns-in_default-clause-tests c =
    let words = texts c.args.words.now in
    let t = c.args.table.now.table in
    let named : lacks_names 3 words ≡ false = sym c.lacks_names.ensures ∙ c.if-lacks_names.false in
    let passed : first_fault (pair_tests (behind 3 words)) ≡ None = subst (λ w. first_fault (pair_tests w) ≡ None) c.behind.ensures c.in_ok-pairs.ensures.tests in
    let rest : first_fault (lane_tests t words) ≡ first_fault (lane_rest t words) = lane_named t words named ∙ passed-front (pair_tests (behind 3 words)) (lane_rest t words) passed in
    let pairs_is : c.in_ok-pairs.pairs.items ≡ line_pairs 3 words = c.in_ok-pairs.ensures.pairs ∙ ap (λ w. pairs_of (numbers w)) c.behind.ensures in
    let fall : c.has_fall.result ≡ has_fall (line_pairs 3 words) = c.has_fall.ensures ∙ ap has_fall (c.deref.ensures.value ∙ pairs_is) in
    let room : has_all_lanes t ≡ false = grind (arith, nat_tests) in
    let twice : c.has_lane.result ≡ has_lane t (word_at words 1) = c.has_lane.ensures ∙ ap (λ name. is_some (place_of (lane_names t) name)) c.word.ensures in
    let unknown : is_unknown t words ≡ true = sym c.ends_of.ensures.unknown ∙ ap is_none (none_left c.ends_of.result c.in_default.not-Some) in
    rest ∙ rw (room, sym fall ∙ c.if-has_fall.false, sym twice ∙ c.if-has_lane.false, unknown) refl

pub add_lane-requires-clause-name : goal.add_lane-requires-clause-name
add_lane-requires-clause-name c =
    let words = texts c.args.words.now in
    let t = c.args.table.now.table in
    let named : lacks_names 3 words ≡ false = sym c.lacks_names.ensures ∙ c.if-lacks_names.false in
    subst IsName (sym c.word-2.ensures) (first_named 3 words (omega arith) named)

pub add_lane-requires-clause-joined : goal.add_lane-requires-clause-joined
add_lane-requires-clause-joined c =
    let words = texts c.args.words.now in
    let t = c.args.table.now.table in
    let named : lacks_names 3 words ≡ false = sym c.lacks_names.ensures ∙ c.if-lacks_names.false in
    let passed : first_fault (pair_tests (behind 3 words)) ≡ None = subst (λ w. first_fault (pair_tests w) ≡ None) c.behind.ensures c.in_ok-pairs.ensures.tests in
    let rest : first_fault (lane_tests t words) ≡ first_fault (lane_rest t words) = lane_named t words named ∙ passed-front (pair_tests (behind 3 words)) (lane_rest t words) passed in
    let pairs_is : c.in_ok-pairs.pairs.items ≡ line_pairs 3 words = c.in_ok-pairs.ensures.pairs ∙ ap (λ w. pairs_of (numbers w)) c.behind.ensures in
    let fall : c.has_fall.result ≡ has_fall (line_pairs 3 words) = c.has_fall.ensures ∙ ap has_fall (c.deref.ensures.value ∙ pairs_is) in
    let are : ArePairs c.in_ok-pairs.pairs.items = subst ArePairs (sym pairs_is) (pairs_right (behind 3 words) passed (sym fall ∙ c.if-has_fall.false)) in
    lane_right t words c.word-2.result.now c.in-Some.from c.in-Some.to c.in_ok-pairs.pairs.items c.in-Some.ensures.ends are

pub returns-clause-tests : goal.returns-clause-tests
returns-clause-tests c =
    let words = texts c.args.words.now in
    let t = c.args.table.now.table in
    let named : lacks_names 3 words ≡ false = sym c.lacks_names.ensures ∙ c.if-lacks_names.false in
    let passed : first_fault (pair_tests (behind 3 words)) ≡ None = subst (λ w. first_fault (pair_tests w) ≡ None) c.behind.ensures c.in_ok-pairs.ensures.tests in
    let rest : first_fault (lane_tests t words) ≡ first_fault (lane_rest t words) = lane_named t words named ∙ passed-front (pair_tests (behind 3 words)) (lane_rest t words) passed in
    let pairs_is : c.in_ok-pairs.pairs.items ≡ line_pairs 3 words = c.in_ok-pairs.ensures.pairs ∙ ap (λ w. pairs_of (numbers w)) c.behind.ensures in
    let fall : c.has_fall.result ≡ has_fall (line_pairs 3 words) = c.has_fall.ensures ∙ ap has_fall (c.deref.ensures.value ∙ pairs_is) in
    let room : has_all_lanes t ≡ false = grind (arith, nat_tests) in
    let twice : c.has_lane.result ≡ has_lane t (word_at words 1) = c.has_lane.ensures ∙ ap (λ name. is_some (place_of (lane_names t) name)) c.word.ensures in
    let known : is_unknown t words ≡ false = sym c.ends_of.ensures.unknown ∙ ap is_none c.in-Some.is in
    passes-same (lane_tests t words) [] (rest ∙ rw (room, sym fall ∙ c.if-has_fall.false, sym twice ∙ c.if-has_lane.false, known) refl) c.add_lane.result c.add_lane.ensures.tests
