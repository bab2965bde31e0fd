-- Flow sent round the last arc and a path of room. Each arc's flow moves by the amount at most and stays in its domain; the last one
-- rises by the whole amount. So no flow has ever moved further than the last one has risen, and the last one is bounded.
use Rattle.std.proofs.Common.{◌≡◌, ◌≢◌, ℕ, zero, suc, ◌*◌, ◌<◌, ◌≤◌, ℤ, pos, ◌+ℤ◌, ◌-ℤ◌, ◌≤ℤ◌, Bool, true, false, List, ◌∷◌, length, ◌∙◌, ⊎_elim, arith}
use Rattle.std.proofs.lemmas.Int.{ints, clamps}
use Rattle.std.proofs.lemmas.Bool.{cases_lt}
use Rattle.std.proofs.lemmas.List.{get_or_past}
use Rattle.theory.specs.declared.ext.Ext.{Ext}
use Rattle.theory.specs.declared.ext.Ext.TheVariants.{PlusInf}
use Rattle.theory.specs.declared.network.Step.{Step}
use Rattle.theory.specs.Sums.{positive_part}
use Rattle.theory.specs.CurveList.{last}
use Rattle.theory.specs.Domain.{InDomain}
use Rattle.theory.specs.Limits.{IsWithin, flow_most}
use Rattle.theory.specs.Network.{Network, IsNetwork, «at», list_at}
use Rattle.theory.specs.Conserved.{IsConserved, divergence}
use Rattle.theory.specs.Feasible.{IsFeasibleFlow}
use Rattle.theory.specs.Certificate.{AreNumbers}
use Rattle.theory.specs.Circuit.{step, IsCircuit, WalkIsThere}
use Rattle.theory.specs.Sent.{sends, sent_round}
use Rattle.theory.proofs.Bounds.{nothing_within}
use Rattle.theory.proofs.Refusals.{around}
use Rattle.theory.proofs.SumLaw.{divergence-conserved}
use Rattle.theory.proofs.Unbounded.{brought, mark_of}
use Rattle.net_incidence.specs.Graph.{Graph, bare}
use Rattle.net_incidence.specs.Incidence.{over}
use Rattle.net_incidence.specs.WithoutBases.{without_bases, passable_arcs_most}
use Rattle.net_incidence.proofs.WithoutBases.{without_bases-items}
use Rattle.feasible_flow.specs.Violations.{HasRoom}
use Rattle.feasible_flow.specs.UnderWay.{ArcsDiffer, AllHaveRoom}
use Rattle.feasible_flow.proofs.OneArc.{positive_part-is}
use Rattle.feasible_flow.proofs.Sending.{divergence-sent, length-sent, sent-here, sent-elsewhere, passes}
use Rattle.path_cut.specs.GreatestFlow.{return_arc, HasReturn, IsFlowBound}
use Rattle.path_cut.specs.Augmenting.{IsAugmented, IsWay, top_most}
use Rattle.path_cut.proofs.Ends.{moved-inside}
use Rattle.path_cut.proofs.Walks.{closed-by}
use Rattle.path_cut.proofs.OpenPath.{balanced}

-- ---- one arc

record IsMoved (items : List Ext) (t : ℕ) (x y : ℤ) : Type 0 where
  inside : InDomain 1 items x → InDomain 1 items y
  up : y ≤ℤ (x +ℤ pos t)
  down : x ≤ℤ (y +ℤ pos t)

moved-not : (items : List Ext) (t : ℕ) (x y : ℤ) → y ≡ x → IsMoved items t x y
moved-not items t x y same =
    rw same (record { inside = λ within. within; up = omega (arith, ints); down = omega (arith, ints) })

sends-up : (x : ℤ) (t : ℕ) (forward : Bool) → (x +ℤ sends t forward) ≤ℤ (x +ℤ pos t)
sends-up x t true = omega (arith, ints)
sends-up x t false = omega (arith, ints)

sends-down : (x : ℤ) (t : ℕ) (forward : Bool) → x ≤ℤ ((x +ℤ sends t forward) +ℤ pos t)
sends-down x t true = omega (arith, ints)
sends-down x t false = omega (arith, ints)

moved-by : (items : List Ext) (t : ℕ) (x y : ℤ) (forward : Bool) → HasRoom items x forward t → y ≡ x +ℤ sends t forward → IsMoved items t x y
moved-by items t x y forward room same =
    rw same (record { inside = moved-inside items x forward t room; up = sends-up x t forward; down = sends-down x t forward })

-- ---- all arcs

each-moved : (g : Graph) (lists : List (List Ext)) (t : ℕ) (walk : List Step) (x : List ℤ) → length x ≡ length g.arcs → ArcsDiffer walk
    → WalkIsThere (bare g) walk → AllHaveRoom lists x walk t → (j : ℕ)
    → IsMoved (list_at lists j) t («at» x j) («at» (sent_round t walk x) j)
each-moved g lists t walk x one_each differ all_there rooms j =
    ⊎_elim
    (λ (passed : (k : ℕ) × (k < length walk) × ((step walk k).arc.0 ≡ j)).
    let k = passed.0 in
    let there = all_there k passed.1 in
    let here = moved-by (list_at lists (step walk k).arc.0) t («at» x (step walk k).arc.0) («at» (sent_round t walk x) (step walk k).arc.0)
    (step walk k).forward (rooms k passed.1)
    (sent-here t walk x k differ passed.1 (omega (arith, there, one_each))) in
    rw (← passed.2) here)
    (λ (apart : (k : ℕ) → k < length walk → j ≢ (step walk k).arc.0).
    moved-not (list_at lists j) t («at» x j) («at» (sent_round t walk x) j) (sent-elsewhere t walk x j apart))
    (passes walk j)

-- ---- a round

last-room : (items : List Ext) (x : ℤ) (t : ℕ) → last items ≡ PlusInf → HasRoom items x true t
last-room items x t endless = rw endless tt

module _ (g : Graph) (lists : List (List Ext)) (good : IsNetwork (without_bases g lists)) (returns : HasReturn (without_bases g lists)) where
  abbrev net : Network
  net = without_bases g lists

  abbrev m : ℕ
  m = return_arc net

  pub last-there : m < length g.arcs
  last-there = let some = returns.some in omega arith

  pub round-circuit : (x : List ℤ) (walk : List Step) (amount : ℕ) → IsWay net lists x walk amount → IsCircuit net (over m true ∷ walk)
  round-circuit x walk amount way = closed-by net walk m (good.no_loops m last-there) way.path way.others

  round-there : (x : List ℤ) (walk : List Step) (amount : ℕ) → IsWay net lists x walk amount → WalkIsThere (bare g) (over m true ∷ walk)
  round-there x walk amount way zero l = last-there
  round-there x walk amount way (suc k) l = way.path.there k (omega arith)

  round-room : (x : List ℤ) (walk : List Step) (amount : ℕ) → IsWay net lists x walk amount → AllHaveRoom lists x (over m true ∷ walk) amount
  round-room x walk amount way zero l =
      last-room (list_at lists m) («at» x m) amount (rw (without_bases-items g lists m) at returns.no_upper)
  round-room x walk amount way (suc k) l = way.room k (omega arith)

  round-moved : (x : List ℤ) (walk : List Step) (amount : ℕ) → length x ≡ length g.arcs → IsWay net lists x walk amount → (j : ℕ)
      → IsMoved (list_at lists j) amount («at» x j) («at» (sent_round amount (over m true ∷ walk) x) j)
  round-moved x walk amount one_each way j =
      each-moved g lists amount (over m true ∷ walk) x one_each (round-circuit x walk amount way).arcs_differ (round-there x walk amount way)
      (round-room x walk amount way) j

  pub round-rises : (x : List ℤ) (walk : List Step) (amount : ℕ) → length x ≡ length g.arcs → IsWay net lists x walk amount
      → «at» (sent_round amount (over m true ∷ walk) x) m ≡ «at» x m +ℤ pos amount
  round-rises x walk amount one_each way =
      let there = last-there in
      sent-here amount (over m true ∷ walk) x 0 (round-circuit x walk amount way).arcs_differ (omega arith) (omega (arith, there, one_each))

  round-conserved : (x : List ℤ) (walk : List Step) (amount : ℕ) → length x ≡ length g.arcs → IsWay net lists x walk amount
      → IsConserved net («at» x) → IsConserved net («at» (sent_round amount (over m true ∷ walk) x))
  round-conserved x walk amount one_each way conserved i l =
      let all : List Step = over m true ∷ walk in
      let y : List ℤ = sent_round amount all x in
      let still = balanced amount (divergence net («at» x) i) (divergence net («at» y) i) (brought net i all)
      (divergence-sent g amount all x one_each (round-there x walk amount way) i)
      (around net (mark_of i) all (round-circuit x walk amount way)) (divergence-conserved net («at» x) conserved i l) in
      omega (arith, ints)

  round-feasible : (x : List ℤ) (walk : List Step) (amount : ℕ) → IsWay net lists x walk amount → IsFeasibleFlow 1 net x
      → IsFeasibleFlow 1 net (sent_round amount (over m true ∷ walk) x)
  round-feasible x walk amount way flow = record {
    one_each = length-sent amount (over m true ∷ walk) x ∙ flow.one_each;
    conserved = round-conserved x walk amount flow.one_each way flow.conserved;
    in_domains = λ j l.
        rw (without_bases-items g lists j)
        ((round-moved x walk amount flow.one_each way j).inside (rw (without_bases-items g lists j) at (flow.in_domains j l)));
  }

  pub augmented-more : (begun x y : List ℤ) (walk : List Step) (amount : ℕ) → IsWay net lists x walk amount → IsAugmented net begun x
      → y ≡ sent_round amount (over m true ∷ walk) x → IsAugmented net begun y
  augmented-more begun x y walk amount way before is =
      let one_each = before.feasible.one_each in
      let rises = round-rises x walk amount one_each way in
      rw is
      (record {
        feasible = round-feasible x walk amount way before.feasible;
        up = λ j. let here = (round-moved x walk amount one_each way j).up in let old = before.up j in omega (arith, ints);
        down = λ j. let here = (round-moved x walk amount one_each way j).down in let old = before.down j in omega (arith, ints);
      })

  -- the room for the last arc shrinks
  pub augmented-falls : (begun x y : List ℤ) (walk : List Step) (amount top : ℕ) → IsWay net lists x walk amount → IsAugmented net begun x
      → IsFlowBound net (pos top) → y ≡ sent_round amount (over m true ∷ walk) x
      → positive_part (pos top -ℤ «at» y m) < positive_part (pos top -ℤ «at» x m)
  augmented-falls begun x y walk amount top way before bound is =
      let feasible = round-feasible x walk amount way before.feasible in
      let most = bound 1 (sent_round amount (over m true ∷ walk) x) (omega arith) feasible in
      let rises = round-rises x walk amount before.feasible.one_each way in
      let some = way.some in
      let p = positive_part-is (pos top -ℤ «at» x m) in
      let q = positive_part-is (pos top -ℤ «at» (sent_round amount (over m true ∷ walk) x) m) in
      rw is (omega (arith, ints, clamps))

-- ---- ranges

pub numbers-within : (count : ℕ) (x : List ℤ) → AreNumbers count x → (j : ℕ) → IsWithin flow_most («at» x j)
numbers-within count x numbers j =
    ⊎_elim
    (λ (there : j < count). numbers.within j there)
    (λ (past : count ≤ j).
    let e : «at» x j ≡ pos 0 = get_or_past x j (pos 0) (let n = numbers.one_each in omega arith) in
    rw e (nothing_within flow_most))
    (cases_lt j count)

top-few : (net : Network) → length net.arcs ≤ passable_arcs_most → top_most net ≤ flow_most
top-few net few = omega (arith, few)

pub augmented-within : (net : Network) (begun x : List ℤ) → length net.arcs ≤ passable_arcs_most → AreNumbers (length net.arcs) begun
    → IsFlowBound net (pos (top_most net)) → IsAugmented net begun x → (j : ℕ) → IsWithin (4 * flow_most) («at» x j)
augmented-within net begun x few numbers bound augmented j =
    let m = return_arc net in
    let most = bound 1 x (omega arith) augmented.feasible in
    let top = top-few net few in
    let low = (numbers-within (length net.arcs) begun numbers m).0 in
    let here = numbers-within (length net.arcs) begun numbers j in
    let here_low = here.0 in
    let here_high = here.1 in
    let up = augmented.up j in
    let down = augmented.down j in
    (omega (arith, ints), omega (arith, ints))

pub begun-augmented : (net : Network) (x : List ℤ) → IsFeasibleFlow 1 net x → IsAugmented net x x
begun-augmented net x flow = record { feasible = flow; up = λ j. omega (arith, ints); down = λ j. omega (arith, ints) }
