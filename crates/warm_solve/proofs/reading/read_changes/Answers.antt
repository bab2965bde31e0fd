use Rattle.std.proofs.Common.{◌≡◌, ◌||◌, ◌+◌, ◌++◌, ◌<◌, ◌==◌, arith, sym, ◌∙◌, ap, refl, length, [], ◌∷◌, below_more, length-drop}
use Rattle.std.specs.List.{before_first, after_first, list_any, position_or_len}
use Rattle.std.proofs.lemmas.Bool.Decides.{nat_tests}
use Rattle.std.proofs.lemmas.List.{drop_all}
use Rattle.model_text.specs.Lines.{text_lines, line_words}
use Rattle.model_text.specs.ModelText.{has_words, first_fault}
use Rattle.warm_solve.specs.ChangesText.{fault_at, line_tests, changes_in, changes_of, no_words}
use Rattle.model_text.proofs.LinesLemmas.{no-lines, first-line, here, left-after, words-after, all-read}
use Rattle.warm_solve.proofs.ChangesLines.{changes-after, fault-here, right_error}
use Rattle.warm_solve.proofs.reading.read_changes.Goals as goal

pub loop-rest-init : goal.loop-rest-init
unfolding changes_of
loop-rest-init c = record {
  bytes = omega arith;
  within = omega arith;
  lines_left = refl;
  changes = c.new.ensures;
  begun = refl;
  no_fault = λ k below. absurd (omega arith);
}

pub loop-rest-preserved : goal.loop-rest-preserved
loop-rest-preserved c =
    let s = c.args.m.now.scale in
    let m = c.args.m.now.entries in
    let text = c.args.text.now in
    let k = c.loop-rest.count in
    let line = c.cut.result.0.now in
    let some : 0 < length c.loop-rest.rest.now = grind (arith, nat_tests) in
    let cuts : before_first (λ b. b == 10) c.loop-rest.rest.now ∷ text_lines (after_first (λ b. b == 10) c.loop-rest.rest.now) ≡ line ∷ text_lines c.cut.result.1.now =
    rw (c.cut.ensures.before, c.cut.ensures.after) refl in
    let left = c.loop-rest.invariant.lines_left ∙ first-line c.loop-rest.rest.now some ∙ cuts in
    let fault : fault_at s m (text_lines text) k ≡ first_fault (line_tests s m c.loop-rest.reader.begun (length c.loop-rest.reader.changes) line) =
    fault-here s m (text_lines text) k line (text_lines c.cut.result.1.now) left
    ∙ rw (c.loop-rest.invariant.begun, c.loop-rest.invariant.changes) refl in
    let others = text_lines c.cut.result.1.now in
    record {
      bytes = omega (arith, ap length c.cut.ensures.after, length-drop (position_or_len (λ b. b == 10) c.loop-rest.rest.now + 1) c.loop-rest.rest.now);
      within = omega (arith, here (text_lines text) k line others left);
      lines_left = left-after (text_lines text) k line others left;
      changes =
          c.in-Ok.ensures.changes ∙ ap (λ changes. changes ++ changes_in s m (k + 1) (line_words line)) c.loop-rest.invariant.changes
          ∙ sym (changes-after s m (text_lines text) k line others left);
      begun = c.in-Ok.ensures.begun ∙ ap (λ b. b || has_words line) c.loop-rest.invariant.begun ∙ sym (words-after (text_lines text) k line others left);
      no_fault = below_more _ _ c.loop-rest.invariant.no_fault (fault ∙ c.in-Ok.ensures.tests);
    }

pub returns-in-Err-clause-error : goal.returns-in-Err-clause-error
returns-in-Err-clause-error c =
    let s = c.args.m.now.scale in
    let m = c.args.m.now.entries in
    let text = c.args.text.now in
    let k = c.loop-rest.count in
    let line = c.cut.result.0.now in
    let some : 0 < length c.loop-rest.rest.now = grind (arith, nat_tests) in
    let cuts : before_first (λ b. b == 10) c.loop-rest.rest.now ∷ text_lines (after_first (λ b. b == 10) c.loop-rest.rest.now) ≡ line ∷ text_lines c.cut.result.1.now =
    rw (c.cut.ensures.before, c.cut.ensures.after) refl in
    let left = c.loop-rest.invariant.lines_left ∙ first-line c.loop-rest.rest.now some ∙ cuts in
    let fault : fault_at s m (text_lines text) k ≡ first_fault (line_tests s m c.loop-rest.reader.begun (length c.loop-rest.reader.changes) line) =
    fault-here s m (text_lines text) k line (text_lines c.cut.result.1.now) left
    ∙ rw (c.loop-rest.invariant.begun, c.loop-rest.invariant.changes) refl in
    let wrong = right_error s m text k c.in-Err.fault (line_tests s m c.loop-rest.reader.begun (length c.loop-rest.reader.changes) line)
    (here (text_lines text) k line (text_lines c.cut.result.1.now) left) c.loop-rest.invariant.no_fault fault c.in-Err.ensures.tests in
    rw c.error_at.ensures wrong

pub returns-then-begun-clause-changes : goal.returns-then-begun-clause-changes
returns-then-begun-clause-changes c =
    let text = c.args.text.now in
    let k = c.loop-rest.count in
    let done : length c.loop-rest.rest.now ≡ 0 = grind (arith, nat_tests) in
    let none : text_lines c.loop-rest.rest.now ≡ [] = ap text_lines (drop_all 0 c.loop-rest.rest.now (omega arith)) ∙ no-lines in
    let all = all-read (text_lines text) k c.loop-rest.invariant.within (c.loop-rest.invariant.lines_left ∙ none) in
    record {
      begun = ap (list_any has_words) (sym all.1) ∙ sym c.loop-rest.invariant.begun ∙ c.if-begun.true;
      no_fault = rw all.0 at c.loop-rest.invariant.no_fault;
      are = c.loop-rest.invariant.changes ∙ ap (changes_of c.args.m.now.scale c.args.m.now.entries) all.1;
    }

pub returns-else-begun-clause-error : goal.returns-else-begun-clause-error
returns-else-begun-clause-error c =
    let text = c.args.text.now in
    let k = c.loop-rest.count in
    let done : length c.loop-rest.rest.now ≡ 0 = grind (arith, nat_tests) in
    let none : text_lines c.loop-rest.rest.now ≡ [] = ap text_lines (drop_all 0 c.loop-rest.rest.now (omega arith)) ∙ no-lines in
    let all = all-read (text_lines text) k c.loop-rest.invariant.within (c.loop-rest.invariant.lines_left ∙ none) in
    let begun = ap (list_any has_words) (sym all.1) ∙ sym c.loop-rest.invariant.begun ∙ c.if-begun.false in
    rw all.0 (no_words begun (rw all.0 at c.loop-rest.invariant.no_fault))
