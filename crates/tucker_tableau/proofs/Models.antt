-- The grounded network of a model is one whose model arcs `lead` can take: they join nodes above the ground.
use Rattle.std.proofs.Common.{◌≡◌, ℕ, ◌+◌, ◌-◌, ◌<◌, ◌≤◌, length, ap, arith}
use Rattle.std.specs.Prelude.{[], pos}
use Rattle.theory.specs.Network.{tail, head}
use Rattle.theory.specs.Grounded.{Entries, ArcEntry, grounded}
use Rattle.theory.proofs.GroundedLaw.{length-grounded_arcs, tail-ground, head-ground, tail-model, head-model}
use Rattle.tucker_tableau.specs.Lead.{IsModelNetwork}

pub model_network : (m : Entries) → IsModelNetwork (grounded m) (length m.nodes)
model_network m =
    let n = length m.nodes in
    let d : ArcEntry = record { name = []; from = 0; to = 0; curve = record { items = []; base = pos 0 } } in
    let place : (k : ℕ) → n ≤ k → n + (k - n) ≡ k = λ k l. omega arith in
    let there : (k : ℕ) → k < length (grounded m).arcs → n ≤ k → k - n < length m.arcs = λ k l h. (let e = length-grounded_arcs m in omega arith) in
    record {
      nodes = omega arith;
      ground_tails = λ i l. tail-ground m i l;
      ground_heads = λ i l. head-ground m i l;
      model_tails = λ k l h. (let e = tail-model m (k - n) d (there k h l) in let f = ap (tail (grounded m)) (place k l) in omega arith);
      model_heads = λ k l h. (let e = head-model m (k - n) d (there k h l) in let f = ap (head (grounded m)) (place k l) in omega arith);
    }
