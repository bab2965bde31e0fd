-- The tests that were passed are those that the row wants: the name is free, and there is room.
use Rattle.std.proofs.Common.{◌≡◌, sym, ap, ◌∙◌, refl, ◌<◌, length, false, arith}
use Rattle.std.specs.Prelude.{is_some, nat_le}
use Rattle.std.proofs.lemmas.List.{length-map}
use Rattle.std.proofs.lemmas.Bool.Decides.{nat_tests}
use Rattle.theory.specs.Limits.{nodes_most}
use Rattle.model_text.specs.ModelTables.{node_entry}
use Rattle.model_text.specs.Model.{node_names, place_of}
use Rattle.model_text.proofs.model.Model.add_node.Goals as goal

pub push_node-requires-clause-free : goal.push_node-requires-clause-free
push_node-requires-clause-free c =
    let m = c.args.self.now.entries in
    let once : is_some (place_of (node_names m) c.args.name.bytes) ≡ false =
    ap is_some (ap (place_of (node_names m)) (sym c.as_slice.ensures) ∙ sym c.node_of.ensures.place) ∙ sym c.is_some.ensures ∙ c.if-is_some.false in
    let there = length-map c.self.inside.nodes.entries node_entry in
    let same = ap (λ m. length m.entries.nodes) c.self.view_is in
    let below : length m.nodes < nodes_most = omega (arith, c.len.ensures.len, there, same) in
    let room : nat_le nodes_most (length m.nodes) ≡ false = grind (arith, nat_tests) in
    rw (once, room) refl
