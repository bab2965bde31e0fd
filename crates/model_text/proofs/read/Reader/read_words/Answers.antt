use Rattle.std.proofs.Common.{sym, ◌∙◌}
use Rattle.model_text.specs.LineParts.{texts}
use Rattle.model_text.proofs.ReadLemmas.{first-adds, scale-adds, entry-adds}
use Rattle.model_text.proofs.read.Reader.read_words.Goals as goal

pub returns-in-Some-clause-progress : goal.returns-in-Some-clause-progress
returns-in-Some-clause-progress c =
    let words = texts c.args.words.now in
    rw c.in-Nothing.is
    (first-adds words c.in-Some.stage c.new.result.scale c.new.result.entries (sym c.stage_of.ensures ∙ c.in-Some.is) c.new.ensures.scale c.new.ensures.entries)

pub returns-in-Some-scale_of-clause-progress : goal.returns-in-Some-scale_of-clause-progress
returns-in-Some-scale_of-clause-progress c =
    let words = texts c.args.words.now in
    rw c.in-Front.is
    (scale-adds words c.in-Some-scale_of.scale c.with_scale.result.scale c.with_scale.result.entries (sym c.scale_of.ensures.is ∙ c.in-Some-scale_of.is) c.with_scale.ensures.scale c.with_scale.ensures.entries)

pub returns-in-Made-clause-progress : goal.returns-in-Made-clause-progress
returns-in-Made-clause-progress c =
    let m = c.args.self.now.model in
    rw c.in-Made.is
    (entry-adds c.read_entry.result (texts c.args.words.now) m.scale c.read_entry.new.model.scale m.entries c.read_entry.new.model.entries
    c.read_entry.ensures.added c.read_entry.ensures.scale)
