use Rattle.std.proofs.Common.{◌≡◌, true, false, arith, sym, ◌∙◌, refl, ap, pos, ◌<ℤ◌, to_z, of_z, w64}
use Rattle.std.specs.Prelude.{int_lt, ◌||◌}
use Rattle.std.proofs.lemmas.Int.{ints}
use Rattle.model_text.specs.ModelText.{is_over}
use Rattle.model_text.proofs.ListTests.{false-unless}
use Rattle.transport_front.proofs.NumberLemmas.{demand_told, kept-within, is_below_zero}
use Rattle.transport_front.proofs.pairs.demand_of.Goals as goal
use Rattle.transport_front.proofs.pairs.demand_of.Goals.{then-is_over-via-then-is_over, then-is_over-via-else-is_over+then-demand-lt0}

pub returns-then-is_over-clause-tests : goal.returns-then-is_over-clause-tests
returns-then-is_over-clause-tests c =
    let told = demand_told c.args.words.now _ c.in-Some.demand (omega arith) (sym c.number.ensures ∙ c.in-Some.is) in
    let within = kept-within _ c.in-Some.demand (sym c.number.ensures ∙ c.in-Some.is) in
    let low = within.0 in
    let high = within.1 in
    let passed : to_z w64 (of_z w64 c.in-Some.demand) ≡ c.in-Some.demand = omega (arith, ints) in
    let over = ap is_over (sym passed) ∙ sym c.is_over.ensures in
    elim c.then-is_over.branch [
      | then-is_over-via-then-is_over w ↦ told ∙ rw (over ∙ w.if-is_over.true) refl
      | then-is_over-via-else-is_over+then-demand-lt0 w ↦
          let less : c.in-Some.demand <ℤ pos 0 = omega (arith, ints) in
          let below : int_lt c.in-Some.demand (pos 0) ≡ true = is_below_zero c.in-Some.demand less in
          told ∙ rw (over ∙ w.if-is_over.false, below) refl
    ]

pub returns-clause-tests : goal.returns-clause-tests
returns-clause-tests c =
    let told = demand_told c.args.words.now _ c.in-Some.demand (omega arith) (sym c.number.ensures ∙ c.in-Some.is) in
    let within = kept-within _ c.in-Some.demand (sym c.number.ensures ∙ c.in-Some.is) in
    let low = within.0 in
    let high = within.1 in
    let passed : to_z w64 (of_z w64 c.in-Some.demand) ≡ c.in-Some.demand = omega (arith, ints) in
    let over = ap is_over (sym passed) ∙ sym c.is_over.ensures in
    let below : int_lt c.in-Some.demand (pos 0) ≡ false = false-unless (int_lt c.in-Some.demand (pos 0)) (λ less. omega (arith, ints)) in
    told ∙ rw (over ∙ c.if-is_over.false, below) refl
