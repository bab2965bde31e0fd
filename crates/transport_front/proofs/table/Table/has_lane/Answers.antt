use Rattle.std.proofs.Common.{sym, ap, ◌∙◌}
use Rattle.std.specs.Prelude.{is_some}
use Rattle.model_text.specs.Model.{place_of}
use Rattle.transport_front.specs.Table.{lane_names}
use Rattle.transport_front.proofs.RowLemmas.{lane_found}
use Rattle.transport_front.proofs.table.Table.has_lane.Goals as goal

pub returns : goal.returns
returns c =
    c.is_some.ensures
    ∙ ap is_some (c.get_index_of.ensures.index ∙ lane_found c.args.name.now c.self.inside.lanes.entries ∙ ap (λ m. place_of (lane_names m.table) c.args.name.now) c.self.view_is)
