-- The name has no place among the names, so the table puts its row last. The model is well-formed with that row, and
-- as it was where memory ran out.
use Rattle.std.proofs.Common.{sym, ap, subst, ◌∙◌, ◌<◌, length, arith}
use Rattle.theory.specs.Limits.{arcs_most}
use Rattle.model_text.specs.Model.{arc_names, with_arc, IsWithinLimits, IsWellFormed}
use Rattle.model_text.specs.ModelTables.{table_entries, arc_entry}
use Rattle.model_text.specs.Names.{IsName}
use Rattle.std.proofs.lemmas.List.{length-map}
use Rattle.model_text.proofs.SoundLines.{arc_room}
use Rattle.model_text.proofs.Tables.{arc_inserted, arc_keeps, either_way, free}
use Rattle.model_text.proofs.model.Model.push_arc.Goals as goal

pub invariant_of-self-inside : goal.invariant_of-self-inside
invariant_of-self-inside c =
    let nodes = c.self.inside.nodes.entries in
    let arcs = c.self.inside.arcs.entries in
    let key = c.into_vec.result in
    let fits = arc_room c.args.self.now.entries c.args.name.bytes c.args.from c.args.to c.requires.free in
    let none = free _ _ key.items _ fits.0 c.into_vec.ensures (ap (λ m. arc_names m.entries) c.self.view_is) in
    let room : length arcs < arcs_most = omega (arith, fits.2, length-map arcs arc_entry, ap (λ m. length m.entries.arcs) c.self.view_is) in
    let small : IsWithinLimits c.args.curve.listing = record { short = c.requires.short; items = c.args.curve.valid.items_within; base = c.requires.base } in
    let nodes_is = ap (λ m. length m.entries.nodes) c.self.view_is in (
      c.self.inside.scaled,
      (
        either_way (λ rows. IsWellFormed (table_entries nodes rows)) c.insert.result arcs _ _ c.insert.ensures.entries c.insert.ensures.err c.self.inside.formed
            (arc_keeps nodes arcs key (record { from = c.args.from; to = c.args.to; curve = c.args.curve }) c.self.inside.formed (subst IsName (sym c.into_vec.ensures) c.args.name.named) none room (omega (arith, nodes_is)) (omega (arith, nodes_is)) fits.1 small),
        tt,
      ),
    )

pub returns-in-Ok-clause-added : goal.returns-in-Ok-clause-added
returns-in-Ok-clause-added c =
    let nodes = c.self.inside.nodes.entries in
    let arcs = c.self.inside.arcs.entries in
    let key = c.into_vec.result in
    let fits = arc_room c.args.self.now.entries c.args.name.bytes c.args.from c.args.to c.requires.free in
    let none = free _ _ key.items _ fits.0 c.into_vec.ensures (ap (λ m. arc_names m.entries) c.self.view_is) in
    ap (λ rows. table_entries nodes rows) c.in-Ok.ensures.entries ∙ arc_inserted nodes arcs key (record { from = c.args.from; to = c.args.to; curve = c.args.curve }) none
    ∙ ap (λ m. with_arc m.entries key.items c.args.from c.args.to c.args.curve.listing) c.self.view_is
    ∙ ap (λ name. with_arc c.args.self.now.entries name c.args.from c.args.to c.args.curve.listing) c.into_vec.ensures
