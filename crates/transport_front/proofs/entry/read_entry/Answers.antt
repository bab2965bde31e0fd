use Rattle.std.proofs.Common.{◌≡◌, true, false, sym, subst, ◌∙◌, refl, ap, codes}
use Rattle.std.specs.Str.{bytes_eq}
use Rattle.model_text.specs.LineParts.{texts}
use Rattle.transport_front.specs.TableText.{first_fault, is_plant_line, is_shop_line, is_lane_line, entry_tests, plant_tests, shop_tests, lane_tests}
use Rattle.transport_front.specs.Reading.{Passes}
use Rattle.transport_front.proofs.EntryLemmas.{entry_plant, entry_shop, entry_lane, entry_other, with_plant, with_shop, with_lane_is, plant_line-is, shop_line-is, lane_line-is}
use Rattle.transport_front.proofs.entry.read_entry.Goals as goal

pub returns-then-are_same-clause-tests : goal.returns-then-are_same-clause-tests
returns-then-are_same-clause-tests c =
    let words = texts c.args.words.now in
    let t = c.args.table.now.table in
    let plant_is : c.are_same.result ≡ is_plant_line words = c.are_same.ensures ∙ ap (λ w. bytes_eq w (codes "plant")) c.word-keyword.ensures ∙ sym (plant_line-is words) in
    subst (λ tests. Passes tests c.read_plant.result) (sym (entry_plant t words (sym plant_is ∙ c.if-are_same.true))) c.read_plant.ensures.tests

pub returns-then-are_same-clause-added : goal.returns-then-are_same-clause-added
returns-then-are_same-clause-added c =
    let words = texts c.args.words.now in
    let t = c.args.table.now.table in
    let plant_is : c.are_same.result ≡ is_plant_line words = c.are_same.ensures ∙ ap (λ w. bytes_eq w (codes "plant")) c.word-keyword.ensures ∙ sym (plant_line-is words) in
    rw (with_plant t words (sym plant_is ∙ c.if-are_same.true)) c.read_plant.ensures.added

pub returns-then-are_same-2-clause-tests : goal.returns-then-are_same-2-clause-tests
returns-then-are_same-2-clause-tests c =
    let words = texts c.args.words.now in
    let t = c.args.table.now.table in
    let plant_is : c.are_same.result ≡ is_plant_line words = c.are_same.ensures ∙ ap (λ w. bytes_eq w (codes "plant")) c.word-keyword.ensures ∙ sym (plant_line-is words) in
    let shop_is : c.are_same-else-are_same.result ≡ is_shop_line words = c.are_same-else-are_same.ensures ∙ ap (λ w. bytes_eq w (codes "shop")) c.word-keyword.ensures ∙ sym (shop_line-is words) in
    subst (λ tests. Passes tests c.read_shop.result) (sym (entry_shop t words (sym plant_is ∙ c.if-are_same.false) (sym shop_is ∙ c.if-are_same-2.true))) c.read_shop.ensures.tests

pub returns-then-are_same-2-clause-added : goal.returns-then-are_same-2-clause-added
returns-then-are_same-2-clause-added c =
    let words = texts c.args.words.now in
    let t = c.args.table.now.table in
    let plant_is : c.are_same.result ≡ is_plant_line words = c.are_same.ensures ∙ ap (λ w. bytes_eq w (codes "plant")) c.word-keyword.ensures ∙ sym (plant_line-is words) in
    let shop_is : c.are_same-else-are_same.result ≡ is_shop_line words = c.are_same-else-are_same.ensures ∙ ap (λ w. bytes_eq w (codes "shop")) c.word-keyword.ensures ∙ sym (shop_line-is words) in
    rw (with_shop t words (sym plant_is ∙ c.if-are_same.false) (sym shop_is ∙ c.if-are_same-2.true)) c.read_shop.ensures.added

pub returns-then-are_same-3-clause-tests : goal.returns-then-are_same-3-clause-tests
returns-then-are_same-3-clause-tests c =
    let words = texts c.args.words.now in
    let t = c.args.table.now.table in
    let plant_is : c.are_same.result ≡ is_plant_line words = c.are_same.ensures ∙ ap (λ w. bytes_eq w (codes "plant")) c.word-keyword.ensures ∙ sym (plant_line-is words) in
    let shop_is : c.are_same-else-are_same.result ≡ is_shop_line words = c.are_same-else-are_same.ensures ∙ ap (λ w. bytes_eq w (codes "shop")) c.word-keyword.ensures ∙ sym (shop_line-is words) in
    let lane_is : c.are_same-else-are_same-2.result ≡ is_lane_line words = c.are_same-else-are_same-2.ensures ∙ ap (λ w. bytes_eq w (codes "lane")) c.word-keyword.ensures ∙ sym (lane_line-is words) in
    subst (λ tests. Passes tests c.read_lane.result) (sym (entry_lane t words (sym plant_is ∙ c.if-are_same.false) (sym shop_is ∙ c.if-are_same-2.false) (sym lane_is ∙ c.if-are_same-3.true)))
    c.read_lane.ensures.tests

pub returns-then-are_same-3-clause-added : goal.returns-then-are_same-3-clause-added
returns-then-are_same-3-clause-added c =
    let words = texts c.args.words.now in
    let t = c.args.table.now.table in
    let plant_is : c.are_same.result ≡ is_plant_line words = c.are_same.ensures ∙ ap (λ w. bytes_eq w (codes "plant")) c.word-keyword.ensures ∙ sym (plant_line-is words) in
    let shop_is : c.are_same-else-are_same.result ≡ is_shop_line words = c.are_same-else-are_same.ensures ∙ ap (λ w. bytes_eq w (codes "shop")) c.word-keyword.ensures ∙ sym (shop_line-is words) in
    let lane_is : c.are_same-else-are_same-2.result ≡ is_lane_line words = c.are_same-else-are_same-2.ensures ∙ ap (λ w. bytes_eq w (codes "lane")) c.word-keyword.ensures ∙ sym (lane_line-is words) in
    rw (with_lane_is t words (sym plant_is ∙ c.if-are_same.false) (sym shop_is ∙ c.if-are_same-2.false) (sym lane_is ∙ c.if-are_same-3.true)) c.read_lane.ensures.added

pub returns-else-are_same-3-clause-tests : goal.returns-else-are_same-3-clause-tests
returns-else-are_same-3-clause-tests c =
    let words = texts c.args.words.now in
    let t = c.args.table.now.table in
    let plant_is : c.are_same.result ≡ is_plant_line words = c.are_same.ensures ∙ ap (λ w. bytes_eq w (codes "plant")) c.word-keyword.ensures ∙ sym (plant_line-is words) in
    let shop_is : c.are_same-else-are_same.result ≡ is_shop_line words = c.are_same-else-are_same.ensures ∙ ap (λ w. bytes_eq w (codes "shop")) c.word-keyword.ensures ∙ sym (shop_line-is words) in
    let lane_is : c.are_same-else-are_same-2.result ≡ is_lane_line words = c.are_same-else-are_same-2.ensures ∙ ap (λ w. bytes_eq w (codes "lane")) c.word-keyword.ensures ∙ sym (lane_line-is words) in
    entry_other t words (sym plant_is ∙ c.if-are_same.false) (sym shop_is ∙ c.if-are_same-2.false) (sym lane_is ∙ c.if-are_same-3.false)
