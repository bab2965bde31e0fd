use Rattle.std.proofs.Common.{◌≡◌, ◌+◌, ◌<◌, ◌==◌, arith, sym, ◌∙◌, ap, refl, false, inl, inr, length, [], ◌∷◌, below_more, length-drop}
use Rattle.std.specs.List.{before_first, after_first, position_or_len}
use Rattle.std.proofs.lemmas.Bool.Decides.{nat_tests}
use Rattle.std.proofs.lemmas.List.{drop_all}
use Rattle.model_text.specs.Lines.{text_lines, line_words}
use Rattle.model_text.specs.ModelText.{Spells, made, fault_at, first_fault, line_tests, with_words, is_made, progress_of, no_front}
use Rattle.model_text.specs.Reading.{progress_at}
use Rattle.model_text.proofs.LinesLemmas.{no-lines, first-line, here, left-after, progress-after, fault-here, all-read}
use Rattle.model_text.proofs.ReadLemmas.{right_error}
use Rattle.model_text.proofs.read.read_model.Goals as goal

pub loop-rest-init : goal.loop-rest-init
unfolding progress_of
loop-rest-init c = record {
  bytes = omega arith;
  within = omega arith;
  lines_left = refl;
  progress = refl;
  no_fault = λ k below. absurd (omega arith);
}

pub loop-rest-preserved : goal.loop-rest-preserved
loop-rest-preserved c =
    let text = c.args.text.now in
    let k = c.loop-rest.count in
    let line = c.cut.result.0.now in
    let progress = progress_at c.loop-rest.reader.stage c.loop-rest.reader.model.scale c.loop-rest.reader.model.entries in
    let some : 0 < length c.loop-rest.rest.now = grind (arith, nat_tests) in
    let cuts : before_first (λ b. b == 10) c.loop-rest.rest.now ∷ text_lines (after_first (λ b. b == 10) c.loop-rest.rest.now) ≡ line ∷ text_lines c.cut.result.1.now =
    rw (c.cut.ensures.before, c.cut.ensures.after) refl in
    let left = c.loop-rest.invariant.lines_left ∙ first-line c.loop-rest.rest.now some ∙ cuts in
    let others = text_lines c.cut.result.1.now in
    let fault : fault_at (text_lines text) k ≡ first_fault (line_tests progress line) =
    fault-here (text_lines text) k line others left ∙ ap (λ p. first_fault (line_tests p line)) (sym c.loop-rest.invariant.progress) in
    record {
      bytes = omega (arith, ap length c.cut.ensures.after, length-drop (position_or_len (λ b. b == 10) c.loop-rest.rest.now + 1) c.loop-rest.rest.now);
      within = omega (arith, here (text_lines text) k line others left);
      lines_left = left-after (text_lines text) k line others left;
      progress = c.in-Ok.ensures.progress ∙ ap (λ p. with_words p (line_words line)) c.loop-rest.invariant.progress ∙ sym (progress-after (text_lines text) k line others left);
      no_fault = below_more _ _ c.loop-rest.invariant.no_fault (fault ∙ c.in-Ok.ensures.tests);
    }

pub returns-in-Err-clause-error : goal.returns-in-Err-clause-error
returns-in-Err-clause-error c =
    let text = c.args.text.now in
    let k = c.loop-rest.count in
    let line = c.cut.result.0.now in
    let progress = progress_at c.loop-rest.reader.stage c.loop-rest.reader.model.scale c.loop-rest.reader.model.entries in
    let some : 0 < length c.loop-rest.rest.now = grind (arith, nat_tests) in
    let cuts : before_first (λ b. b == 10) c.loop-rest.rest.now ∷ text_lines (after_first (λ b. b == 10) c.loop-rest.rest.now) ≡ line ∷ text_lines c.cut.result.1.now =
    rw (c.cut.ensures.before, c.cut.ensures.after) refl in
    let left = c.loop-rest.invariant.lines_left ∙ first-line c.loop-rest.rest.now some ∙ cuts in
    let others = text_lines c.cut.result.1.now in
    let fault : fault_at (text_lines text) k ≡ first_fault (line_tests progress line) =
    fault-here (text_lines text) k line others left ∙ ap (λ p. first_fault (line_tests p line)) (sym c.loop-rest.invariant.progress) in
    let wrong = right_error text k c.in-Err.fault (line_tests progress line)
    (here (text_lines text) k line others left) c.loop-rest.invariant.no_fault fault c.in-Err.ensures.tests in
    rw c.at.ensures wrong

pub returns-in-Made-clause-model : goal.returns-in-Made-clause-model
returns-in-Made-clause-model c =
    let text = c.args.text.now in
    let k = c.loop-rest.count in
    let m = c.loop-rest.reader.model in
    let done : length c.loop-rest.rest.now ≡ 0 = grind (arith, nat_tests) in
    let none : text_lines c.loop-rest.rest.now ≡ [] = ap text_lines (drop_all 0 c.loop-rest.rest.now (omega arith)) ∙ no-lines in
    let all = all-read (text_lines text) k c.loop-rest.invariant.within (c.loop-rest.invariant.lines_left ∙ none) in
    let now : progress_at c.loop-rest.reader.stage m.scale m.entries ≡ made m.scale m.entries = rw c.in-Made.is refl in
    let spelled : Spells text m.scale m.entries = record {
      no_fault = rw all.0 at c.loop-rest.invariant.no_fault;
      is = ap progress_of (sym all.1) ∙ sym c.loop-rest.invariant.progress ∙ now;
    } in
    rw c.into_model.ensures spelled

pub returns-in-Nothing-clause-error : goal.returns-in-Nothing-clause-error
returns-in-Nothing-clause-error c =
    let text = c.args.text.now in
    let k = c.loop-rest.count in
    let m = c.loop-rest.reader.model in
    let done : length c.loop-rest.rest.now ≡ 0 = grind (arith, nat_tests) in
    let none : text_lines c.loop-rest.rest.now ≡ [] = ap text_lines (drop_all 0 c.loop-rest.rest.now (omega arith)) ∙ no-lines in
    let all = all-read (text_lines text) k c.loop-rest.invariant.within (c.loop-rest.invariant.lines_left ∙ none) in
    let open_yet : is_made (progress_at c.loop-rest.reader.stage m.scale m.entries) ≡ false =
    elim c.in-Nothing.is as (λ _. is_made (progress_at c.loop-rest.reader.stage m.scale m.entries) ≡ false) [ inl e ↦ rw e refl | inr e ↦ rw e refl ] in
    let lacks = ap (λ lines. is_made (progress_of lines)) (sym all.1) ∙ ap is_made (sym c.loop-rest.invariant.progress) ∙ open_yet in
    rw all.0 (no_front lacks (rw all.0 at c.loop-rest.invariant.no_fault))
