use Rattle.std.proofs.Common.{◌≡◌, ◌<◌, arith, sym, ◌∙◌, ap, length, true}
use Rattle.std.specs.Str.{is_utf8}
use Rattle.std.proofs.lemmas.Bool.Decides.{nat_tests}
use Rattle.std.proofs.lemmas.List.{length-map}
use Rattle.model_text.specs.Lines.{line_words}
use Rattle.model_text.specs.ModelText.{line_tests, words_tests, first_fault}
use Rattle.model_text.specs.Reading.{progress_at}
use Rattle.model_text.specs.LineParts.{texts}
use Rattle.model_text.proofs.ReadLemmas.{not_text, blank, goes_on, blank_adds, no-words, some-words, passes-same}
use Rattle.model_text.proofs.read.Reader.read_line.Goals as goal

pub returns-then-not-is_text-clause-tests : goal.returns-then-not-is_text-clause-tests
returns-then-not-is_text-clause-tests c =
    not_text (progress_at c.args.self.now.stage c.args.self.now.model.scale c.args.self.now.model.entries) c.args.line.now (sym c.is_text.ensures ∙ c.if-not-is_text.true)

pub returns-then-is_empty-clause-tests : goal.returns-then-is_empty-clause-tests
returns-then-is_empty-clause-tests c =
    let line = c.args.line.now in
    let text : is_utf8 line ≡ true = sym c.is_text.ensures ∙ c.if-not-is_text.false in
    let empty : length c.in-Ok.words.items ≡ 0 = grind (arith, nat_tests, c.in-Ok.words.ok.0) in
    let none : length (line_words line) ≡ 0 = ap length (sym c.in-Ok.ensures) ∙ length-map c.in-Ok.words.items (λ word. word.now) ∙ empty in
    blank (progress_at c.args.self.now.stage c.args.self.now.model.scale c.args.self.now.model.entries) line text (no-words line none)

pub returns-then-is_empty-clause-progress : goal.returns-then-is_empty-clause-progress
returns-then-is_empty-clause-progress c =
    let line = c.args.line.now in
    let empty : length c.in-Ok.words.items ≡ 0 = grind (arith, nat_tests, c.in-Ok.words.ok.0) in
    let none : length (line_words line) ≡ 0 = ap length (sym c.in-Ok.ensures) ∙ length-map c.in-Ok.words.items (λ word. word.now) ∙ empty in
    sym (blank_adds (progress_at c.args.self.now.stage c.args.self.now.model.scale c.args.self.now.model.entries) (line_words line) none)

pub returns-clause-tests : goal.returns-clause-tests
returns-clause-tests c =
    let line = c.args.line.now in
    let progress = progress_at c.args.self.now.stage c.args.self.now.model.scale c.args.self.now.model.entries in
    let text : is_utf8 line ≡ true = sym c.is_text.ensures ∙ c.if-not-is_text.false in
    let filled : 0 < length c.in-Ok.words.items = grind (arith, nat_tests, c.in-Ok.words.ok.0) in
    let some : 0 < length (line_words line) = rw (← c.in-Ok.ensures, length-map c.in-Ok.words.items (λ word. word.now)) filled in
    let shown : texts c.deref.result.now ≡ line_words line = ap texts c.deref.ensures.value ∙ c.in-Ok.ensures in
    let same = goes_on progress line text (some-words line some) ∙ ap (λ words. first_fault (words_tests progress words)) (sym shown) in
    passes-same (line_tests progress line) (words_tests progress (texts c.deref.result.now)) same c.read_words.result c.read_words.ensures.tests

pub returns-clause-progress : goal.returns-clause-progress
returns-clause-progress c =
    let line = c.args.line.now in
    let progress = progress_at c.args.self.now.stage c.args.self.now.model.scale c.args.self.now.model.entries in
    let shown : texts c.deref.result.now ≡ line_words line = ap texts c.deref.ensures.value ∙ c.in-Ok.ensures in
    rw shown at c.read_words.ensures.progress
