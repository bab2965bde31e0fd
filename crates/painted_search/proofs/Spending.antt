-- What a search spends: at each node that it leaves the weight for each step, at most. The nodes of the tree are different, so
-- they have no more steps than all nodes have, which is two for each arc.
use Rattle.std.proofs.Common.{◌≡◌, ℕ, ◌+◌, ◌*◌, ◌≤◌, List, length, add-one, sym, ap, ◌∙◌, arith}
use Rattle.std.proofs.Math.Nat.{mul-le-mul_left}
use Rattle.theory.specs.declared.colour.Colour.{Colour}
use Rattle.theory.specs.declared.network.Step.{Step}
use Rattle.net_incidence.specs.Graph.{Graph, bare}
use Rattle.net_incidence.specs.Incidence.{incident_steps}
use Rattle.painted_search.specs.Room.{Room}
use Rattle.painted_search.specs.Tree.{node_at, IsTree, GoesOn}
use Rattle.theory.proofs.Counting.{total_below-same, total_below-distinct}
use Rattle.theory.specs.Sums.{total_below}
use Rattle.net_incidence.proofs.Degrees.{degrees}
use Rattle.painted_search.proofs.Growing.{node_at-kept}

-- how many steps begin at the first nodes of the tree
abbrev pub degree_sum : Graph → ℕ → List Step → ℕ → ℕ
degree_sum g from walk count = total_below count (λ k. length (incident_steps g.arcs (node_at (bare g) from walk k)))

pub spent-more : (g : Graph) (from : ℕ) (v w : Room) (count weight start old new node : ℕ) → GoesOn v w → count ≤ length v.walk
    → old ≤ start + degree_sum g from v.walk count * weight
    → node ≡ node_at (bare g) from v.walk count
    → new ≤ old + length (incident_steps g.arcs node) * weight
    → new ≤ start + degree_sum g from w.walk (count + 1) * weight
spent-more g from v w count weight start old new node on within before at_node here =
    let degree : ℕ → ℕ = λ i. length (incident_steps g.arcs i) in
    let kept = node_at-kept (bare g) from v.walk w.walk on.walk in
    let same = total_below-same count (λ k. degree (node_at (bare g) from w.walk k)) (λ k. degree (node_at (bare g) from v.walk k))
    (λ k l. ap degree (kept k (omega arith))) in
    let here_same : degree (node_at (bare g) from w.walk count) ≡ degree node = ap degree (kept count within) ∙ ap degree (sym at_node) in
    rw (add-one, same, here_same) (omega arith)

pub spent-most : (g : Graph) (colours : ℕ → Colour) (from : ℕ) (w : Room) (count weight start new : ℕ) → IsTree (bare g) colours from w
    → count ≤ length w.walk + 1 → new ≤ start + degree_sum g from w.walk count * weight → new ≤ start + 2 * length g.arcs * weight
spent-most g colours from w count weight start new tree within before =
    let degree : ℕ → ℕ = λ i. length (incident_steps g.arcs i) in
    let few = total_below-distinct count g.nodes (node_at (bare g) from w.walk) degree
    (λ i k l h. tree.differ i k l (omega arith)) (λ k l. tree.nodes_there k (omega arith)) in
    let all = degrees g.nodes g.arcs in
    let most : degree_sum g from w.walk count ≤ 2 * length g.arcs = omega (arith, few, all) in
    omega (arith, mul-le-mul_left weight most)
