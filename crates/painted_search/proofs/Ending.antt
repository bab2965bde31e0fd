-- The tree of a search that met no goal, in the words of its answer.
use Rattle.std.proofs.Common.{◌≡◌, ◌≢◌, ◌⊎◌, ℕ, ℤ, zero, suc, ◌<◌, ◌≤◌, List, length, inl, inr, sym, subst}
use Rattle.theory.specs.declared.colour.Colour.{Colour}
use Rattle.theory.specs.declared.network.Step.{Step}
use Rattle.theory.specs.Network.{Network}
use Rattle.theory.specs.Circuit.{step, begin_of, end_of}
use Rattle.painted_search.specs.Room.{Room}
use Rattle.painted_search.specs.Path.{IsGrowth}
use Rattle.painted_search.specs.Tree.{node_at, IsTree}

-- node number i of the tree is the root, or the end of a step before step k
rooted : (net : Network) (from : ℕ) (walk : List Step) (begin i k : ℕ) → i ≤ k → begin ≡ node_at net from walk i
    → (begin ≡ from) ⊎ ((j : ℕ) × (j < k) × (end_of net (step walk j) ≡ begin))
rooted net from walk begin zero k l is = inl is
rooted net from walk begin (suc j) k l is = inr (j, l, sym is)

spanning : (net : Network) (from : ℕ) (walk : List Step) (i k : ℕ) → k ≤ length walk → node_at net from walk k ≡ i → i ≢ from
    → (j : ℕ) × (j < length walk) × (end_of net (step walk j) ≡ i)
spanning net from walk i zero l is other = absurd (other (sym is))
spanning net from walk i (suc j) l is other = (j, l, is)

tree-growth : (net : Network) (colours : ℕ → Colour) (from : ℕ) (w : Room) → IsTree net colours from w
    → IsGrowth net colours w.reached w.walk from
tree-growth net colours from w tree = record {
  there = tree.there;
  free = tree.free;
  rooted = λ k l.
      let found = tree.earlier k l in
      rooted net from w.walk (begin_of net (step w.walk k)) found.0 k found.1 found.2;
  inside = λ k l. tree.marked (suc k) l;
  spanning = λ i held other.
      let found = tree.spanned i held in
      spanning net from w.walk i found.0 found.1 found.2 other;
}

pub growth-is : (net : Network) (paint : List ℤ → List ℤ → ℕ → Colour) (from : ℕ) (flows potentials : List ℤ) (w : Room)
    → IsTree net (paint w.flows w.potentials) from w → w.flows ≡ flows → w.potentials ≡ potentials
    → IsGrowth net (paint flows potentials) w.reached w.walk from
growth-is net paint from flows potentials w tree same_flows same_potentials =
    let P : List ℤ → Type 0 = λ x. IsGrowth net (paint x w.potentials) w.reached w.walk from in
    let Q : List ℤ → Type 0 = λ u. IsGrowth net (paint flows u) w.reached w.walk from in
    subst Q same_potentials (subst P same_flows (tree-growth net (paint w.flows w.potentials) from w tree))

-- ---- the next search
