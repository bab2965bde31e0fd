use Rattle.std.proofs.Common.{◌≡◌, ◌⊎◌, ◌+◌, ◌-◌, suc, inl, inr, length, sym, ap, subst, ◌∙◌, arith, add-zero}
use Rattle.cert_text.specs.Candidate.{IsFirstDifference}
use Rattle.cert_text.proofs.Differences.{bytes_differ, ends_differ, both_end, differ_after_feed, differ_after_byte}
use Rattle.cert_text.proofs.lines.first_difference.Goals as goal

pub loop-byte-init : goal.loop-byte-init
loop-byte-init c =
    let text : c.into_iter-byte-iterator.result.a.rest.now ≡ c.args.text.now =
    ap (λ z. z.a.rest.now) c.into_iter-byte-iterator.ensures.into_iter_gives ∙ ap (λ i. i.rest.now) c.zip-byte-items.ensures.first ∙ c.iter.ensures.rest in
    let other : c.into_iter-byte-iterator.result.b.rest.now ≡ c.args.other.now =
    ap (λ z. z.b.rest.now) c.into_iter-byte-iterator.ensures.into_iter_gives ∙ c.zip-byte-items.ensures.second.0 in
    record {
      from_one = omega arith;
      even = rw (text, other) (omega arith);
      room = rw text (omega arith);
      same = λ same. sym other ∙ same ∙ text;
      apart = λ k d. rw add-zero (rw (text, other) at d);
    }

pub returns-then-byte-expected : goal.returns-then-byte-expected
returns-then-byte-expected c =
    let steps = c.in-Some.ensures.steps in
    let here = bytes_differ c.in-Some.byte.now c.in-Some.expected.now c.next.new.self.a.rest.now c.next.new.self.b.rest.now c.if-byte-expected.true in
    let line : 1 + (c.loop-byte.line - 1) ≡ c.loop-byte.line = omega (arith, c.loop-byte.invariant.from_one) in
    subst (IsFirstDifference c.args.text.now c.args.other.now) line (c.loop-byte.invariant.apart 1 (rw (steps.0, steps.1) here))

pub loop-byte-preserved : goal.loop-byte-preserved
loop-byte-preserved c =
    let steps = c.in-Some.ensures.steps in
    let same_byte = c.if-byte-expected.false in
    record {
      from_one = c.loop-byte.invariant.from_one;
      even = omega (arith, c.loop-byte.invariant.even, ap length steps.0, ap length steps.1);
      room = omega (arith, c.loop-byte.invariant.room, ap length steps.0);
      same = λ same. c.loop-byte.invariant.same (cc);
      apart = λ k d. c.loop-byte.invariant.apart k
          (rw (steps.0, steps.1, ← same_byte) (differ_after_byte c.in-Some.byte.now c.next.new.self.a.rest.now c.next.new.self.b.rest.now k c.if-byte-eq10.false d));
    }

pub loop-byte-preserved-then-byte-eq10 : goal.loop-byte-preserved-then-byte-eq10
loop-byte-preserved-then-byte-eq10 c =
    let steps = c.in-Some.ensures.steps in
    let same_byte = c.if-byte-expected.false in
    let feed = c.if-byte-eq10.true in
    record {
      from_one = omega arith;
      even = omega (arith, c.loop-byte.invariant.even, ap length steps.0, ap length steps.1);
      room = omega (arith, c.loop-byte.invariant.room, ap length steps.0);
      same = λ same. c.loop-byte.invariant.same (cc);
      apart = λ k d.
          let line : suc k + (c.loop-byte.line - 1) ≡ k + (c.loop-byte.line + 1 - 1) = omega (arith, c.loop-byte.invariant.from_one) in
          let more = differ_after_feed c.next.new.self.a.rest.now c.next.new.self.b.rest.now k d in
          subst (IsFirstDifference c.args.text.now c.args.other.now) line (c.loop-byte.invariant.apart (suc k) (rw (steps.0, steps.1, ← same_byte, feed) more));
    }

pub returns-then-text-other : goal.returns-then-text-other
returns-then-text-other c =
    let steps = c.in-None.ensures.steps in
    let one : (length c.loop-byte.byte-iterator.a.rest.now ≡ 0) ⊎ (length c.loop-byte.byte-iterator.b.rest.now ≡ 0) = elim steps [ inl s ↦ inl s.1.0 | inr s ↦ inr s.1.0 ] in
    c.loop-byte.invariant.same (both_end c.loop-byte.byte-iterator.a.rest.now c.loop-byte.byte-iterator.b.rest.now one (omega (arith, c.if-text-other.true, c.loop-byte.invariant.even)))

pub returns-else-text-other : goal.returns-else-text-other
returns-else-text-other c =
    let steps = c.in-None.ensures.steps in
    let one : (length c.loop-byte.byte-iterator.a.rest.now ≡ 0) ⊎ (length c.loop-byte.byte-iterator.b.rest.now ≡ 0) = elim steps [ inl s ↦ inl s.1.0 | inr s ↦ inr s.1.0 ] in
    let line : 1 + (c.loop-byte.line - 1) ≡ c.loop-byte.line = omega (arith, c.loop-byte.invariant.from_one) in
    subst (IsFirstDifference c.args.text.now c.args.other.now) line (c.loop-byte.invariant.apart 1 (ends_differ c.loop-byte.byte-iterator.a.rest.now c.loop-byte.byte-iterator.b.rest.now one (omega (arith, c.if-text-other.false, c.loop-byte.invariant.even))))
