use Rattle.std.proofs.Common.{sym, ap, ◌∙◌}
use Rattle.model_text.specs.Model.{place_of, node_names}
use Rattle.model_text.proofs.Tables.{node_place}
use Rattle.model_text.proofs.model.Model.node_of.Goals as goal

pub returns-in-Some-clause-place : goal.returns-in-Some-clause-place
returns-in-Some-clause-place c =
    sym c.in-Some.is ∙ c.get_index_of.ensures.index ∙ node_place c.args.name.now c.self.inside.nodes.entries
    ∙ ap (λ m. place_of (node_names m.entries) c.args.name.now) c.self.view_is

pub returns-in-None-clause-place : goal.returns-in-None-clause-place
returns-in-None-clause-place c =
    sym c.in-None.is ∙ c.get_index_of.ensures.index ∙ node_place c.args.name.now c.self.inside.nodes.entries
    ∙ ap (λ m. place_of (node_names m.entries) c.args.name.now) c.self.view_is
