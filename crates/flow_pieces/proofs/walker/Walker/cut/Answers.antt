use Rattle.std.proofs.Common.{◌≡◌, ℕ, ◌<◌, length, take, refl, sym, ap, ◌∙◌, subst, arith}
use Rattle.std.proofs.lemmas.List.{get_or_read}
use Rattle.theory.specs.Circuit.{step, begin_of}
use Rattle.net_incidence.specs.Graph.{bare}
use Rattle.flow_pieces.proofs.Going.{begins-differ, begin-there}
use Rattle.flow_pieces.proofs.Closing.{left-none, left-more, left-all}
use Rattle.flow_pieces.proofs.walker.Walker.cut.Goals as goal

pub loop-k-init : goal.loop-k-init
loop-k-init c = record {
  walk = refl;
  rest = refl;
  looked = refl;
  placed = left-none (bare c.args.net.now) c.args.self.now.walk.items c.args.self.now.places.items c.args.place c.requires.placed c.requires.in_walk;
}

pub loop-k-preserved : goal.loop-k-preserved
loop-k-preserved c =
    let net = bare c.args.net.now in
    let walk = c.args.self.now.walk.items in
    let k = c.loop-k.k in
    let there : k < length walk = (let e = c.len-k-end.ensures in omega arith) in
    let also : k < length c.loop-k.self.walk.items = (let same = ap length c.loop-k.invariant.walk in omega arith) in
    let read : c.index.result.now ≡ step c.loop-k.self.walk.items k = get_or_read c.loop-k.self.walk.items k c.index.result.now also c.index.ensures _ in
    let is : c.begin-node.result.0 ≡ begin_of net (step walk k) =
    c.begin-node.ensures ∙ ap (begin_of net) (read ∙ ap (λ w. step w k) c.loop-k.invariant.walk) in
    let node : c.begin-node.result.0 < net.nodes = (let P : ℕ → Type 0 = λ n. n < net.nodes in
    subst P (sym is) (begin-there c.args.net.now (step walk k) (c.requires.there k there))) in
    record {
      walk = c.loop-k.invariant.walk;
      rest = c.loop-k.invariant.rest;
      looked = c.loop-k.invariant.looked;
      placed = left-more net walk c.loop-k.self.places.items c.args.place k c.begin-node.result.0
          (begins-differ net walk c.args.self.now.places.items c.requires.placed) (omega arith) there is node c.loop-k.invariant.placed;
    }

pub returns-clause-placed : goal.returns-clause-placed
returns-clause-placed c =
    let walk = c.args.self.now.walk.items in
    let all : c.loop-k.k ≡ length walk = (let e = c.len-k-end.ensures in omega (arith, c.requires.in_walk)) in
    let shorter = c.truncate.ensures.items ∙ ap (take c.args.place) c.loop-k.invariant.walk in
    left-all (bare c.args.net.now) walk c.truncate.new.self.items c.loop-k.self.places.items c.args.place c.loop-k.k c.requires.in_walk all shorter
    c.loop-k.invariant.placed
