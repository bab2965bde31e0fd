-- A branch of the tree: steps of the tree in rising order, from a node of the tree to another node. Each begins where the one
-- before ends, and the numbers of the nodes on it rise. So no node is met twice, since the nodes of the tree are different, and
-- no arc: two steps over one arc begin at one node, or the later one ends where the earlier begins.
use Rattle.std.proofs.Common.{◌≡◌, ◌≢◌, ◌⊎◌, ℕ, zero, suc, ◌+◌, ◌<◌, ◌≤◌, Bool, true, false, Some, List, [], ◌∷◌, length, inl, inr, refl, sym, ap, ◌∙◌, subst, ⊎_elim, arith}
use Rattle.theory.specs.declared.colour.Colour.{Colour}
use Rattle.theory.specs.declared.network.Step.{Step}
use Rattle.theory.specs.Network.{Network}
use Rattle.theory.specs.Circuit.{step, begin_of, end_of}
use Rattle.net_incidence.specs.Incidence.{over}
use Rattle.painted_search.specs.Room.{Room}
use Rattle.painted_search.specs.Path.{IsFreeStep, IsFreePath, LeadAlong, label_at}
use Rattle.painted_search.specs.Tree.{node_at, IsTree}

-- a branch from node number n of the tree to the node `to`
abbrev pub IsBranch : Network → ℕ → List Step → ℕ → ℕ → List Step → Type 0
IsBranch net from tree to n [] = node_at net from tree n ≡ to
IsBranch net from tree to n (s ∷ rest) =
    (i : ℕ) × (n ≤ i) × (i < length tree) × (step tree i ≡ s) × (begin_of net s ≡ node_at net from tree n) × IsBranch net from tree to (suc i) rest

pub branch-length : (net : Network) (from : ℕ) (tree : List Step) (to n : ℕ) (path : List Step) → IsBranch net from tree to n path
    → n ≤ length tree → n + length path ≤ length tree
branch-length net from tree to n [] branch within = omega arith
branch-length net from tree to n (s ∷ rest) branch within =
    let later = branch-length net from tree to (suc branch.0) rest branch.5 (let l = branch.2 in omega arith) in
    let rising = branch.1 in
    omega arith

-- ---- where a step of the branch stands in the tree

pub record Place (net : Network) (from : ℕ) (tree : List Step) (n : ℕ) (s : Step) : Type 0 where
  pub number : ℕ
  pub begin_number : ℕ
  pub low : n ≤ begin_number
  pub rising : begin_number ≤ number
  pub within : number < length tree
  pub is : step tree number ≡ s
  pub begin : begin_of net s ≡ node_at net from tree begin_number

place : (net : Network) (from : ℕ) (tree : List Step) (to n : ℕ) (path : List Step) → IsBranch net from tree to n path
    → (k : ℕ) → k < length path → Place net from tree n (step path k)
place net from tree to n [] branch k l = absurd (omega arith)
place net from tree to n (s ∷ rest) branch zero l = record {
  number = branch.0;
  begin_number = n;
  low = omega arith;
  rising = branch.1;
  within = branch.2;
  is = branch.3;
  begin = branch.4;
}
place net from tree to n (s ∷ rest) branch (suc k) l =
    let later = place net from tree to (suc branch.0) rest branch.5 k (omega arith) in
    let rising = branch.1 in
    record {
      number = later.number;
      begin_number = later.begin_number;
      low = omega (arith, later.low);
      rising = later.rising;
      within = later.within;
      is = later.is;
      begin = later.begin;
    }

-- the places of two steps, the second of which begins no earlier than the first ends
pub record Places (net : Network) (from : ℕ) (tree : List Step) (r s : Step) : Type 0 where
  pub lowest : ℕ
  pub first : Place net from tree lowest r
  pub second : Place net from tree (suc first.number) s

places : (net : Network) (from : ℕ) (tree : List Step) (to n : ℕ) (path : List Step) → IsBranch net from tree to n path
    → (j k : ℕ) → j < k → k < length path → Places net from tree (step path j) (step path k)
unfolding place
places net from tree to n [] branch j k before l = absurd (omega arith)
places net from tree to n (s ∷ rest) branch j zero before l = absurd (omega arith)
places net from tree to n (s ∷ rest) branch zero (suc k) before l = record {
  lowest = n;
  first = place net from tree to n (s ∷ rest) branch zero (omega arith);
  second = place net from tree to (suc branch.0) rest branch.5 k (omega arith);
}
places net from tree to n (s ∷ rest) branch (suc j) (suc k) before l =
    places net from tree to (suc branch.0) rest branch.5 j k (omega arith) (omega arith)

-- ---- the steps are joined

branch-joined : (net : Network) (from : ℕ) (tree : List Step) (to n : ℕ) (path : List Step) → IsBranch net from tree to n path
    → (k : ℕ) → suc k < length path → end_of net (step path k) ≡ begin_of net (step path (suc k))
branch-joined net from tree to n [] branch k l = absurd (omega arith)
branch-joined net from tree to n (s ∷ []) branch k l = absurd (omega arith)
branch-joined net from tree to n (s ∷ r ∷ rest) branch zero l = ap (end_of net) (sym branch.3) ∙ sym (branch.5.4)
branch-joined net from tree to n (s ∷ r ∷ rest) branch (suc k) l =
    branch-joined net from tree to (suc branch.0) (r ∷ rest) branch.5 k (omega arith)

branch-ends : (net : Network) (from : ℕ) (tree : List Step) (to n : ℕ) (path : List Step) → IsBranch net from tree to n path
    → (k : ℕ) → suc k ≡ length path → end_of net (step path k) ≡ to
branch-ends net from tree to n [] branch k l = absurd (omega arith)
branch-ends net from tree to n (s ∷ []) branch zero l = ap (end_of net) (sym branch.3) ∙ branch.5
branch-ends net from tree to n (s ∷ []) branch (suc k) l = absurd (omega arith)
branch-ends net from tree to n (s ∷ r ∷ rest) branch zero l = absurd (omega arith)
branch-ends net from tree to n (s ∷ r ∷ rest) branch (suc k) l =
    branch-ends net from tree to (suc branch.0) (r ∷ rest) branch.5 k (omega arith)

branch-begins : (net : Network) (from : ℕ) (tree : List Step) (to n : ℕ) (path : List Step) → IsBranch net from tree to n path
    → 0 < length path → begin_of net (step path 0) ≡ node_at net from tree n
branch-begins net from tree to n [] branch l = absurd (omega arith)
branch-begins net from tree to n (s ∷ rest) branch l = branch.4

-- ---- two steps over one arc

over_one_arc : (net : Network) (j : ℕ) (first second : Bool)
    → (begin_of net (over j first) ≡ begin_of net (over j second)) ⊎ (begin_of net (over j first) ≡ end_of net (over j second))
over_one_arc net j true true = inl refl
over_one_arc net j true false = inr refl
over_one_arc net j false true = inr refl
over_one_arc net j false false = inl refl

one_arc : (net : Network) (r s : Step) → r.arc.0 ≡ s.arc.0
    → (begin_of net r ≡ begin_of net s) ⊎ (begin_of net r ≡ end_of net s)
one_arc net r s same =
    let P : ℕ → Type 0 = λ j. (begin_of net r ≡ begin_of net (over j s.forward)) ⊎ (begin_of net r ≡ end_of net (over j s.forward)) in
    subst P same (over_one_arc net r.arc.0 r.forward s.forward)

-- ---- the path

pub branch-path : (net : Network) (colours : ℕ → Colour) (from to : ℕ) (w : Room) (path : List Step) → IsTree net colours from w
    → IsBranch net from w.walk to 0 path → from ≢ to → IsFreePath net colours path from to
branch-path net colours from to w path tree branch apart =
    let at = λ (k : ℕ) (l : k < length path). place net from w.walk to 0 path branch k l in
    let both = λ (j k : ℕ) (before : j < k) (l : k < length path). places net from w.walk to 0 path branch j k before l in
    let some : 0 < length path = not_nothing path branch in
    record {
      not_empty = some;
      there = λ k l. subst (λ (s : Step). s.arc.0 < length net.arcs) (at k l).is (tree.there (at k l).number (at k l).within);
      free = λ k l. subst (IsFreeStep colours) (at k l).is (tree.free (at k l).number (at k l).within);
      begins = branch-begins net from w.walk to 0 path branch some;
      joined = λ k l. let e : k + 1 ≡ suc k = omega arith in rw e (branch-joined net from w.walk to 0 path branch k (omega arith));
      ends = λ k last. branch-ends net from w.walk to 0 path branch k (omega arith);
      begins_differ = λ j k before l same.
          let p = both j k before l in
          tree.differ p.first.begin_number p.second.begin_number (omega (arith, p.first.rising, p.second.low))
          (omega (arith, p.second.rising, p.second.within)) (sym p.first.begin ∙ same ∙ p.second.begin);
      ends_differ = λ j k before l same.
          let p = both j k before l in
          tree.differ (suc p.first.number) (suc p.second.number) (omega (arith, p.second.low, p.second.rising))
          (omega (arith, p.second.within)) (ap (end_of net) p.first.is ∙ same ∙ sym (ap (end_of net) p.second.is));
      arcs_differ = λ j k before l same.
          let p = both j k before l in
          ⊎_elim
          (λ begins.
          tree.differ p.first.begin_number p.second.begin_number (omega (arith, p.first.rising, p.second.low))
          (omega (arith, p.second.rising, p.second.within)) (sym p.first.begin ∙ begins ∙ p.second.begin))
          (λ turned.
          tree.differ p.first.begin_number (suc p.second.number) (omega (arith, p.first.rising, p.second.low, p.second.rising))
          (omega (arith, p.second.within)) (sym p.first.begin ∙ turned ∙ sym (ap (end_of net) p.second.is)))
          (one_arc net (step path j) (step path k) same);
    } where
      not_nothing : (path : List Step) → IsBranch net from w.walk to 0 path → 0 < length path
      not_nothing [] none = absurd (apart none)
      not_nothing (s ∷ rest) more = omega arith

pub branch-labels : (net : Network) (colours : ℕ → Colour) (from to : ℕ) (w : Room) (path : List Step) → IsTree net colours from w
    → IsBranch net from w.walk to 0 path → LeadAlong net w.labels path
branch-labels net colours from to w path tree branch k l =
    let at = place net from w.walk to 0 path branch k l in
    let P : Step → Type 0 = λ s. label_at w.labels (end_of net s) ≡ Some s in
    subst P at.is (tree.labelled at.number at.within)
