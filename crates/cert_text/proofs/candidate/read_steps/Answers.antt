use Rattle.std.proofs.Common.{◌≡◌, ◌+◌, ◌<◌, ℕ, List, length, sym, ap, subst, ◌∙◌, arith}
use Rattle.std.proofs.lemmas.List.{length_push}
use Rattle.theory.specs.declared.network.Step.{Step}
use Rattle.theory.specs.Circuit.{step}
use Rattle.cert_text.specs.Candidate.{first_line, after, line_at, IsStepRead}
use Rattle.cert_text.proofs.LineEnds.{shorter}
use Rattle.cert_text.proofs.Readings.{steps_more, left_more}
use Rattle.cert_text.proofs.candidate.read_steps.Goals as goal

pub loop-step-smaller : goal.loop-step-smaller
loop-step-smaller c =
    let less = shorter c.loop-step.rest.now (λ none. c.in-Some.ensures.some (c.split_line.ensures.line ∙ none)) in
    rw c.split_line.ensures.rest less

pub loop-step-preserved : goal.loop-step-preserved
loop-step-preserved c =
    let items = c.in_ok-push.ensures.items in
    let longer : length c.push.new.self.items ≡ length c.loop-step.walk.items + 1 =
    ap length items ∙ length_push c.loop-step.walk.items c.in-Some.step in
    let less = shorter c.loop-step.rest.now (λ none. c.in-Some.ensures.some (c.split_line.ensures.line ∙ none)) in
    let here = subst (λ l. IsStepRead c.args.m.now.entries l c.in-Some.step) (c.split_line.ensures.line ∙ ap first_line c.loop-step.invariant.rest) c.in-Some.ensures in
    record {
      rest = left_more c.args.text.now c.loop-step.rest.now c.split_line.result.0.now c.split_line.result.1.now (length c.loop-step.walk.items)
          c.loop-step.invariant.rest c.split_line.ensures.line c.split_line.ensures.rest ∙ ap (λ n. after n c.args.text.now) (sym longer);
      room = omega (arith, c.loop-step.invariant.room, less, ap length c.split_line.ensures.rest, longer);
      read = subst (λ (l : List Step). (k : ℕ) → k < length l → IsStepRead c.args.m.now.entries (line_at c.args.text.now k) (step l k)) (sym items)
          (steps_more c.args.m.now.entries c.args.text.now c.loop-step.walk.items c.in-Some.step c.loop-step.invariant.read here);
    }
