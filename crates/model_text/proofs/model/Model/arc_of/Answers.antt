use Rattle.std.proofs.Common.{sym, ap, ◌∙◌}
use Rattle.model_text.specs.Model.{place_of, arc_names}
use Rattle.model_text.proofs.Tables.{arc_place}
use Rattle.model_text.proofs.model.Model.arc_of.Goals as goal

pub returns-in-Some-clause-place : goal.returns-in-Some-clause-place
returns-in-Some-clause-place c =
    sym c.in-Some.is ∙ c.get_index_of.ensures.index ∙ arc_place c.args.name.now c.self.inside.arcs.entries
    ∙ ap (λ m. place_of (arc_names m.entries) c.args.name.now) c.self.view_is

pub returns-in-None-clause-place : goal.returns-in-None-clause-place
returns-in-None-clause-place c =
    sym c.in-None.is ∙ c.get_index_of.ensures.index ∙ arc_place c.args.name.now c.self.inside.arcs.entries
    ∙ ap (λ m. place_of (arc_names m.entries) c.args.name.now) c.self.view_is
