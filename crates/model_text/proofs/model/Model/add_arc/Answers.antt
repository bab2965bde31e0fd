-- The tests that were passed are those that the row wants: the name is free, the ends differ, and there is room.
use Rattle.std.proofs.Common.{◌≡◌, sym, ap, ◌∙◌, refl, ◌<◌, length, false, arith}
use Rattle.std.specs.Prelude.{◌==◌, is_some, nat_le}
use Rattle.std.proofs.lemmas.List.{length-map}
use Rattle.std.proofs.lemmas.Bool.Decides.{nat_tests}
use Rattle.theory.specs.Limits.{arcs_most}
use Rattle.model_text.specs.ModelTables.{arc_entry}
use Rattle.model_text.specs.Model.{arc_names, place_of}
use Rattle.model_text.proofs.model.Model.add_arc.Goals as goal

pub push_arc-requires-clause-free : goal.push_arc-requires-clause-free
push_arc-requires-clause-free c =
    let m = c.args.self.now.entries in
    let once : is_some (place_of (arc_names m) c.args.name.bytes) ≡ false =
    ap is_some (ap (place_of (arc_names m)) (sym c.as_slice.ensures) ∙ sym c.arc_of.ensures.place) ∙ sym c.is_some.ensures ∙ c.if-is_some.false in
    let apart : (c.args.from == c.args.to) ≡ false = grind (arith, nat_tests) in
    let there = length-map c.self.inside.arcs.entries arc_entry in
    let same = ap (λ m. length m.entries.arcs) c.self.view_is in
    let below : length m.arcs < arcs_most = omega (arith, c.len.ensures.len, there, same) in
    let room : nat_le arcs_most (length m.arcs) ≡ false = grind (arith, nat_tests) in
    rw (once, apart, room) refl
