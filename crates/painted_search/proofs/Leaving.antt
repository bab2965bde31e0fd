-- A node is left when each free step at it was passed. What was passed stays so as the tree goes on: colours stay, and the
-- reached nodes stay reached. A step that begins at the node stands among the node's steps, so none is forgotten.
use Rattle.std.proofs.Common.{◌≡◌, ℕ, ℤ, ◌+◌, ◌<◌, ◌≤◌, IsTrue, List, length, sym, ap, ◌∙◌, subst, below_more, arith}
use Rattle.theory.specs.declared.colour.Colour.{Colour}
use Rattle.theory.specs.declared.network.Step.{Step}
use Rattle.theory.specs.Network.{Network}
use Rattle.theory.specs.Cut.{holds}
use Rattle.theory.specs.Circuit.{step, begin_of, end_of}
use Rattle.net_incidence.specs.Graph.{Graph, bare}
use Rattle.net_incidence.specs.Incidence.{incident_steps}
use Rattle.painted_search.specs.Room.{Room}
use Rattle.painted_search.specs.Path.{IsFreeStep}
use Rattle.painted_search.specs.Tree.{node_at, GoesOn, AreLeft}
use Rattle.net_incidence.proofs.Degrees.{incident-stands}
use Rattle.painted_search.proofs.Growing.{node_at-kept}

pub free-back : (paint : List ℤ → List ℤ → ℕ → Colour) (v w : Room) (s : Step) → GoesOn v w
    → IsFreeStep (paint w.flows w.potentials) s → IsFreeStep (paint v.flows v.potentials) s
free-back paint v w s on free =
    let P : List ℤ → Type 0 = λ x. IsFreeStep (paint x w.potentials) s in
    let Q : List ℤ → Type 0 = λ u. IsFreeStep (paint v.flows u) s in
    subst Q on.potentials (subst P on.flows free)

-- ---- the first steps of a list

abbrev pub ArePassed : Network → (List ℤ → List ℤ → ℕ → Colour) → List Step → Room → ℕ → Type 0
ArePassed net paint steps w count =
    (k : ℕ) → k < count → IsFreeStep (paint w.flows w.potentials) (step steps k) → IsTrue (holds w.reached (end_of net (step steps k)))

pub passed-all : (g : Graph) (paint : List ℤ → List ℤ → ℕ → Colour) (steps : List Step) (w : Room) (i count : ℕ)
    → ArePassed (bare g) paint steps w count → count ≡ length steps → steps ≡ incident_steps g.arcs i
    → (s : Step) → s.arc.0 < length g.arcs → begin_of (bare g) s ≡ i → IsFreeStep (paint w.flows w.potentials) s
    → IsTrue (holds w.reached (end_of (bare g) s))
passed-all g paint steps w i count before all are s there begins free =
    let found = incident-stands (bare g) s there g.good in
    let same : incident_steps g.arcs (begin_of (bare g) s) ≡ steps = ap (incident_steps g.arcs) begins ∙ sym are in
    let is : step steps found.place ≡ s = ap (λ some. step some found.place) (sym same) ∙ found.is in
    let within : found.place < count = (let long = ap length same in omega (arith, found.within)) in
    let P : Step → Type 0 = λ t. IsTrue (holds w.reached (end_of (bare g) t)) in
    let Free : Step → Type 0 = λ t. IsFreeStep (paint w.flows w.potentials) t in
    subst P is (before found.place within (subst Free (sym is) free))

-- ---- the first nodes of the tree

pub left-more : (net : Network) (paint : List ℤ → List ℤ → ℕ → Colour) (from : ℕ) (v w : Room) (count node : ℕ) → GoesOn v w
    → count ≤ length v.walk → node ≡ node_at net from v.walk count
    → AreLeft net (paint v.flows v.potentials) from v count
    → ((s : Step) → s.arc.0 < length net.arcs → begin_of net s ≡ node → IsFreeStep (paint w.flows w.potentials) s → IsTrue (holds w.reached (end_of net s)))
    → AreLeft net (paint w.flows w.potentials) from w (count + 1)
left-more net paint from v w count node on within at_node before here =
    below_more _ _
    (λ k l s there begins free.
    on.reached (end_of net s)
    (before k l s there (begins ∙ node_at-kept net from v.walk w.walk on.walk k (omega arith)) (free-back paint v w s on free)))
    (λ s there begins free.
    here s there (begins ∙ node_at-kept net from v.walk w.walk on.walk count within ∙ sym at_node) free)
