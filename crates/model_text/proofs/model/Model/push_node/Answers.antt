-- The name has no place among the names, so the table puts its row last. The model is well-formed with that row, and
-- as it was where memory ran out.
use Rattle.std.proofs.Common.{sym, ap, subst, ◌∙◌, ◌<◌, length, arith}
use Rattle.theory.specs.Limits.{nodes_most}
use Rattle.model_text.specs.Model.{node_names, with_node, IsWithinLimits, IsWellFormed}
use Rattle.model_text.specs.ModelTables.{table_entries, node_entry}
use Rattle.model_text.specs.Names.{IsName}
use Rattle.std.proofs.lemmas.List.{length-map}
use Rattle.model_text.proofs.SoundLines.{node_room}
use Rattle.model_text.proofs.Tables.{node_inserted, node_keeps, either_way, free}
use Rattle.model_text.proofs.model.Model.push_node.Goals as goal

pub invariant_of-self-inside : goal.invariant_of-self-inside
invariant_of-self-inside c =
    let nodes = c.self.inside.nodes.entries in
    let arcs = c.self.inside.arcs.entries in
    let key = c.into_vec.result in
    let fits = node_room c.args.self.now.entries c.args.name.bytes c.requires.free in
    let none = free _ _ key.items _ fits.0 c.into_vec.ensures (ap (λ m. node_names m.entries) c.self.view_is) in
    let room : length nodes < nodes_most = omega (arith, fits.1, length-map nodes node_entry, ap (λ m. length m.entries.nodes) c.self.view_is) in
    let small : IsWithinLimits c.args.supply.listing = record { short = c.requires.short; items = c.args.supply.valid.items_within; base = c.requires.base } in (
      c.self.inside.scaled,
      (
        either_way (λ rows. IsWellFormed (table_entries rows arcs)) c.insert.result nodes _ _ c.insert.ensures.entries c.insert.ensures.err c.self.inside.formed
            (node_keeps nodes arcs key c.args.supply c.self.inside.formed (subst IsName (sym c.into_vec.ensures) c.args.name.named) none room small),
        tt,
      ),
    )

pub returns-in-Ok-clause-added : goal.returns-in-Ok-clause-added
returns-in-Ok-clause-added c =
    let nodes = c.self.inside.nodes.entries in
    let arcs = c.self.inside.arcs.entries in
    let key = c.into_vec.result in
    let fits = node_room c.args.self.now.entries c.args.name.bytes c.requires.free in
    let none = free _ _ key.items _ fits.0 c.into_vec.ensures (ap (λ m. node_names m.entries) c.self.view_is) in
    ap (λ rows. table_entries rows arcs) c.in-Ok.ensures.entries ∙ node_inserted nodes arcs key c.args.supply none
    ∙ ap (λ m. with_node m.entries key.items c.args.supply.listing) c.self.view_is
    ∙ ap (λ name. with_node c.args.self.now.entries name c.args.supply.listing) c.into_vec.ensures
