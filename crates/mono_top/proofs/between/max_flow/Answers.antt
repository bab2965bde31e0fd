-- two different names are those of two different nodes
use Rattle.std.proofs.Common.{◌≡◌, Some, rules}
use Rattle.model_text.specs.Model.{node_names, place_of}
use Rattle.mono_top.proofs.BetweenLemmas.{places_differ}
use Rattle.mono_top.proofs.between.max_flow.Goals as goal

pub flow_reply-requires-clause-apart : goal.flow_reply-requires-clause-apart
flow_reply-requires-clause-apart g c =
    let first : place_of (node_names c.args.model.now.entries) c.args.from.now ≡ Some c.in-Some.i = search rules in
    let second : place_of (node_names c.args.model.now.entries) c.args.to.now ≡ Some c.in-Some-node_of.k = search rules in
    places_differ (node_names c.args.model.now.entries) c.args.from.now c.args.to.now c.in-Some.i c.in-Some-node_of.k first second c.requires.apart
