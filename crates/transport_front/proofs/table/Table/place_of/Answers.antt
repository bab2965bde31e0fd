use Rattle.std.proofs.Common.{sym, ap, ◌∙◌}
use Rattle.model_text.specs.Model.{place_of}
use Rattle.transport_front.specs.Table.{place_names}
use Rattle.transport_front.proofs.RowLemmas.{place_found}
use Rattle.transport_front.proofs.table.Table.place_of.Goals as goal

pub returns-in-Some-clause-place : goal.returns-in-Some-clause-place
returns-in-Some-clause-place c =
    sym c.in-Some.is ∙ c.get_index_of.ensures.index ∙ place_found c.args.name.now c.self.inside.places.entries
    ∙ ap (λ m. place_of (place_names m.table) c.args.name.now) c.self.view_is

pub returns-in-None-clause-place : goal.returns-in-None-clause-place
returns-in-None-clause-place c =
    sym c.in-None.is ∙ c.get_index_of.ensures.index ∙ place_found c.args.name.now c.self.inside.places.entries
    ∙ ap (λ m. place_of (place_names m.table) c.args.name.now) c.self.view_is
