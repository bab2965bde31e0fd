use Rattle.std.proofs.Common.{◌≡◌, ◌+◌, ◌≤◌, ℤ, ◌≤ℤ◌, [], ◌∷◌, ◌++◌, true, false, length, get_or, arith, sym, ◌∙◌, refl, ap, pos, to_z, of_z, w64}
use Rattle.std.specs.Prelude.{unsigned_abs}
use Rattle.std.proofs.lemmas.List.{take_rest}
use Rattle.theory.specs.Sums.{positive_part}
use Rattle.transport_front.specs.declared.pair.Pair.{Pair}
use Rattle.transport_front.specs.Table.{size_of}
use Rattle.std.proofs.lemmas.Int.{ints}
use Rattle.transport_front.proofs.PairLemmas.{size_below, size_over, within-two, within-number, abs_positive, all_positive, size_of-append, goes_on_with, sizes_with}
use Rattle.transport_front.proofs.pairs.paired.Goals as goal
use Rattle.transport_front.proofs.pairs.paired.Goals.{then-size-lt1-via-then-size-lt1, then-size-lt1-via-else-size-lt1+then-size-from}

pub returns-then-size-lt1-clause-tests : goal.returns-then-size-lt1-clause-tests
returns-then-size-lt1-clause-tests c =
    elim c.then-size-lt1.branch [
      | then-size-lt1-via-then-size-lt1 w ↦ size_below c.args.listed.now c.loop-rest.rest.now c.loop-rest.pairs.items (pos 0) (pos 0) (omega arith) c.loop-rest.invariant.joined (omega (arith, ints))
      | then-size-lt1-via-else-size-lt1+then-size-from w ↦
          size_over c.args.listed.now c.loop-rest.rest.now c.loop-rest.pairs.items (pos 0) (pos 0) (omega arith) c.loop-rest.invariant.joined (omega (arith, ints))
          (omega (arith, ints, c.loop-rest.invariant.total))
    ]

pub loop-rest-preserved : goal.loop-rest-preserved
loop-rest-preserved c =
    let rest = c.loop-rest.rest.now in
    let pairs = c.loop-rest.pairs.items in
    let size : ℤ = get_or rest 0 (pos 0) in
    let price : ℤ = get_or rest 1 (pos 0) in
    let two : 2 ≤ length rest = omega arith in
    let within = within-two rest (pos 0) (pos 0) two c.loop-rest.invariant.within in
    let size_within = within-number size within.0 in
    let price_within = within-number price within.1 in
    let size_low = size_within.0 in
    let size_high = size_within.1 in
    let price_low = price_within.0 in
    let price_high = price_within.1 in
    let some : pos 1 ≤ℤ size = omega (arith, ints) in
    let size_passed : to_z w64 (of_z w64 size) ≡ size = omega (arith, ints) in
    let price_passed : to_z w64 (of_z w64 price) ≡ price = omega (arith, ints) in
    let made : unsigned_abs (to_z w64 (of_z w64 size)) ≡ positive_part size = ap unsigned_abs size_passed ∙ abs_positive size some in
    let is = all_positive size some in
    let p : Pair = record { size = positive_part size; price = price } in
    let pushed : c.push.new.self.items ≡ pairs ++ p ∷ [] =
    c.in-Ok.ensures.items ∙ ap (λ n. pairs ++ record { size = n; price = to_z w64 (of_z w64 price) } ∷ []) made
    ∙ ap (λ z. pairs ++ record { size = positive_part size; price = z } ∷ []) price_passed in
    let so_far = c.loop-rest.invariant.total in
    let sum : size_of c.push.new.self.items ≡ size_of pairs + (positive_part size + 0) = ap size_of pushed ∙ size_of-append pairs (p ∷ []) in
    record {
      joined = rw (pushed, take_rest rest 2) (goes_on_with c.args.listed.now rest pairs (pos 0) (pos 0) two c.loop-rest.invariant.joined (positive_part size) refl);
      sizes = rw pushed (sizes_with pairs p c.loop-rest.invariant.sizes (omega (arith, ints)));
      total = omega (arith, sum, made, so_far);
      within = rw (take_rest rest 2) within.2;
      most = omega (arith, ints, made, is, c.from.ensures);
    }
