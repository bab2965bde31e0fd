use Rattle.std.proofs.Common.{◌≡◌, ◌<◌, ◌||◌, ◌++◌, arith, sym, ◌∙◌, ap, length, true, false, refl}
use Rattle.std.specs.Str.{is_utf8}
use Rattle.std.proofs.lemmas.Bool.Decides.{nat_tests}
use Rattle.std.proofs.lemmas.List.{length-map}
use Rattle.model_text.specs.Lines.{line_words}
use Rattle.std.proofs.lemmas.List.{append-nil}
use Rattle.model_text.specs.LineParts.{texts}
use Rattle.model_text.specs.ModelText.{first_fault}
use Rattle.model_text.proofs.ListTests.{or-none}
use Rattle.model_text.proofs.ReadLemmas.{no-words, some-words, passes-same}
use Rattle.warm_solve.specs.ChangesText.{is_header, line_tests, entry_tests}
use Rattle.warm_solve.proofs.ChangesLines.{not_text, blank, begins, goes_on, blank_adds, header_adds}
use Rattle.warm_solve.proofs.reading.Reader.read_line.Goals as goal

pub returns-then-not-is_text-clause-tests : goal.returns-then-not-is_text-clause-tests
returns-then-not-is_text-clause-tests c =
    not_text c.args.m.now.scale c.args.m.now.entries c.args.self.now.begun (length c.args.self.now.changes) c.args.line.now (sym c.is_text.ensures ∙ c.if-not-is_text.true)

pub returns-then-is_empty-clause-tests : goal.returns-then-is_empty-clause-tests
returns-then-is_empty-clause-tests c =
    let line = c.args.line.now in
    let s = c.args.m.now.scale in
    let m = c.args.m.now.entries in
    let begun = c.args.self.now.begun in
    let count = length c.args.self.now.changes in
    let text : is_utf8 line ≡ true = sym c.is_text.ensures ∙ c.if-not-is_text.false in
    let empty : length c.in-Ok.words.items ≡ 0 = grind (arith, nat_tests, c.in-Ok.words.ok.0) in
    let none : length (line_words line) ≡ 0 = ap length (sym c.in-Ok.ensures) ∙ length-map c.in-Ok.words.items (λ word. word.now) ∙ empty in
    blank s m begun count line text (no-words line none)

pub returns-then-is_empty-clause-begun : goal.returns-then-is_empty-clause-begun
returns-then-is_empty-clause-begun c =
    let line = c.args.line.now in
    let s = c.args.m.now.scale in
    let m = c.args.m.now.entries in
    let begun = c.args.self.now.begun in
    let count = length c.args.self.now.changes in
    let text : is_utf8 line ≡ true = sym c.is_text.ensures ∙ c.if-not-is_text.false in
    let empty : length c.in-Ok.words.items ≡ 0 = grind (arith, nat_tests, c.in-Ok.words.ok.0) in
    let none : length (line_words line) ≡ 0 = ap length (sym c.in-Ok.ensures) ∙ length-map c.in-Ok.words.items (λ word. word.now) ∙ empty in
    sym (ap (λ b. begun || b) (no-words line none) ∙ or-none begun)

pub returns-then-is_empty-clause-changes : goal.returns-then-is_empty-clause-changes
returns-then-is_empty-clause-changes c =
    let line = c.args.line.now in
    let s = c.args.m.now.scale in
    let m = c.args.m.now.entries in
    let begun = c.args.self.now.begun in
    let count = length c.args.self.now.changes in
    let text : is_utf8 line ≡ true = sym c.is_text.ensures ∙ c.if-not-is_text.false in
    let empty : length c.in-Ok.words.items ≡ 0 = grind (arith, nat_tests, c.in-Ok.words.ok.0) in
    let none : length (line_words line) ≡ 0 = ap length (sym c.in-Ok.ensures) ∙ length-map c.in-Ok.words.items (λ word. word.now) ∙ empty in
    sym (ap (λ more. c.args.self.now.changes ++ more) (blank_adds s m c.args.number (line_words line) none) ∙ append-nil c.args.self.now.changes)

pub returns-then-self-clause-tests : goal.returns-then-self-clause-tests
returns-then-self-clause-tests c =
    let line = c.args.line.now in
    let s = c.args.m.now.scale in
    let m = c.args.m.now.entries in
    let begun = c.args.self.now.begun in
    let count = length c.args.self.now.changes in
    let text : is_utf8 line ≡ true = sym c.is_text.ensures ∙ c.if-not-is_text.false in
    let filled : 0 < length c.in-Ok.words.items = grind (arith, nat_tests, c.in-Ok.words.ok.0) in
    let some : 0 < length (line_words line) = rw (← c.in-Ok.ensures, length-map c.in-Ok.words.items (λ word. word.now)) filled in
    let shown : texts c.deref.result.now ≡ line_words line = ap texts c.deref.ensures.value ∙ c.in-Ok.ensures in
    let same = goes_on s m begun count line text (some-words line some) c.if-self.true ∙ ap (λ words. first_fault (entry_tests s m count words)) (sym shown) in
    passes-same (line_tests s m begun count line) (entry_tests s m count (texts c.deref.result.now)) same c.read_change.result c.read_change.ensures.tests

pub returns-then-not-is_header-clause-tests : goal.returns-then-not-is_header-clause-tests
returns-then-not-is_header-clause-tests c =
    let line = c.args.line.now in
    let s = c.args.m.now.scale in
    let m = c.args.m.now.entries in
    let begun = c.args.self.now.begun in
    let count = length c.args.self.now.changes in
    let text : is_utf8 line ≡ true = sym c.is_text.ensures ∙ c.if-not-is_text.false in
    let filled : 0 < length c.in-Ok.words.items = grind (arith, nat_tests, c.in-Ok.words.ok.0) in
    let some : 0 < length (line_words line) = rw (← c.in-Ok.ensures, length-map c.in-Ok.words.items (λ word. word.now)) filled in
    let shown : texts c.deref-2.result.now ≡ line_words line = ap texts c.deref-2.ensures.value ∙ c.in-Ok.ensures in
    let other : is_header (line_words line) ≡ false = ap is_header (sym shown) ∙ sym c.is_header.ensures ∙ c.if-not-is_header.true in
    begins s m begun count line text (some-words line some) c.if-self.false ∙ rw other refl

pub returns-clause-tests : goal.returns-clause-tests
returns-clause-tests c =
    let line = c.args.line.now in
    let s = c.args.m.now.scale in
    let m = c.args.m.now.entries in
    let begun = c.args.self.now.begun in
    let count = length c.args.self.now.changes in
    let text : is_utf8 line ≡ true = sym c.is_text.ensures ∙ c.if-not-is_text.false in
    let filled : 0 < length c.in-Ok.words.items = grind (arith, nat_tests, c.in-Ok.words.ok.0) in
    let some : 0 < length (line_words line) = rw (← c.in-Ok.ensures, length-map c.in-Ok.words.items (λ word. word.now)) filled in
    let shown : texts c.deref-2.result.now ≡ line_words line = ap texts c.deref-2.ensures.value ∙ c.in-Ok.ensures in
    let header : is_header (line_words line) ≡ true = ap is_header (sym shown) ∙ sym c.is_header.ensures ∙ c.if-not-is_header.false in
    begins s m begun count line text (some-words line some) c.if-self.false ∙ rw header refl

pub returns-clause-begun : goal.returns-clause-begun
returns-clause-begun c =
    let line = c.args.line.now in
    let s = c.args.m.now.scale in
    let m = c.args.m.now.entries in
    let begun = c.args.self.now.begun in
    let count = length c.args.self.now.changes in
    let text : is_utf8 line ≡ true = sym c.is_text.ensures ∙ c.if-not-is_text.false in
    let filled : 0 < length c.in-Ok.words.items = grind (arith, nat_tests, c.in-Ok.words.ok.0) in
    let some : 0 < length (line_words line) = rw (← c.in-Ok.ensures, length-map c.in-Ok.words.items (λ word. word.now)) filled in
    let shown : texts c.deref-2.result.now ≡ line_words line = ap texts c.deref-2.ensures.value ∙ c.in-Ok.ensures in
    rw (c.if-self.false, some-words line some) refl

pub returns-clause-changes : goal.returns-clause-changes
returns-clause-changes c =
    let line = c.args.line.now in
    let s = c.args.m.now.scale in
    let m = c.args.m.now.entries in
    let begun = c.args.self.now.begun in
    let count = length c.args.self.now.changes in
    let text : is_utf8 line ≡ true = sym c.is_text.ensures ∙ c.if-not-is_text.false in
    let filled : 0 < length c.in-Ok.words.items = grind (arith, nat_tests, c.in-Ok.words.ok.0) in
    let some : 0 < length (line_words line) = rw (← c.in-Ok.ensures, length-map c.in-Ok.words.items (λ word. word.now)) filled in
    let shown : texts c.deref-2.result.now ≡ line_words line = ap texts c.deref-2.ensures.value ∙ c.in-Ok.ensures in
    let header : is_header (line_words line) ≡ true = ap is_header (sym shown) ∙ sym c.is_header.ensures ∙ c.if-not-is_header.false in
    sym (ap (λ more. c.args.self.now.changes ++ more) (header_adds s m c.args.number (line_words line) header) ∙ append-nil c.args.self.now.changes)
