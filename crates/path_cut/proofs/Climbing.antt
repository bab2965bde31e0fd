-- How potentials climb. Inside the reached set a walk of tight steps leads from the first node to each node, and each rises by a finite
-- end of a span; so no node of the set is further from the first one than the walk is long. The step that becomes tight leads to a node
-- outside, which is one step further, and what this node has gained all nodes outside have. That bounds the gain, whatever was lifted
-- before. Steps of the set keep their tensions, so the next set holds this one, and the new node too.
use Rattle.std.proofs.Common.{◌≡◌, ◌⊎◌, ℕ, zero, suc, ◌+◌, ◌*◌, ◌<◌, ◌≤◌, ℤ, pos, ◌+ℤ◌, ◌-ℤ◌, ◌≤ℤ◌, Bool, true, false, not, if◌then◌else◌, None, List, [], ◌∷◌, length, refl, sym, ap, ◌∙◌, subst, inl, inr, ⊎_elim, arith}
use Rattle.std.proofs.lemmas.Int.{ints}
use Rattle.std.proofs.lemmas.Bool.{cases_eq, false≢true}
use Rattle.theory.specs.declared.ext.Ext.{Ext}
use Rattle.theory.specs.declared.network.Step.{Step}
use Rattle.theory.specs.Sums.{sum_over}
use Rattle.theory.specs.Ends.{IsFinite, whole}
use Rattle.theory.specs.Span.{span_low, span_high}
use Rattle.theory.specs.Limits.{IsWithin, number_most, grounded_nodes_most}
use Rattle.theory.specs.Painting.{IsFree}
use Rattle.theory.specs.Network.{Network, IsNetwork, «at», tail, head, list_at}
use Rattle.theory.specs.Conserved.{tension}
use Rattle.theory.specs.Feasible.{IsFeasiblePotential}
use Rattle.theory.specs.Cut.{holds}
use Rattle.theory.specs.Circuit.{step, begin_of, end_of, span_end}
use Rattle.theory.proofs.Sums.{sum_over-each}
use Rattle.theory.proofs.Bounds.{within_more}
use Rattle.theory.proofs.Counting.{total_below-most, total_below-term}
use Rattle.net_incidence.specs.Graph.{Graph, bare}
use Rattle.net_incidence.specs.FlowAlong.{AreSmall}
use Rattle.net_incidence.specs.Incidence.{over}
use Rattle.net_incidence.specs.WithoutBases.{without_bases}
use Rattle.net_incidence.proofs.Graphs.{end-in_graph}
use Rattle.net_incidence.proofs.SumParts.{each-places}
use Rattle.net_incidence.proofs.WithoutBases.{without_bases-items}
use Rattle.painted_search.specs.Room.{Room}
use Rattle.painted_search.specs.Path.{IsFreeStep, IsFreePath, IsFreeCut, IsGrowth}
use Rattle.feasible_flow.proofs.Lists.{AreCurves}
use Rattle.feasible_flow.proofs.ViolationFalls.{total_below-falls}
use Rattle.path_cut.specs.Paintings.{tight, tight_colour}
use Rattle.path_cut.specs.GreatestTension.{rise, IsPathOf, IsOpenCut}
use Rattle.path_cut.specs.Slack.{slack_at, IsLeast}
use Rattle.path_cut.specs.Lifting.{lift}
use Rattle.path_cut.specs.Climbing.{gain, IsRisen, IsClimbing, lacked}
use Rattle.path_cut.proofs.Ends.{span-ends}
use Rattle.path_cut.proofs.Walks.{differences}
use Rattle.path_cut.proofs.Lifting.{IsLifted, tension-lifted, lifted-feasible}
use Rattle.path_cut.proofs.Slacks.{directed, tight-is, passing-within, slack-has, slack-most, leaving-none, entering-none, bridge-is}

-- ---- marks

held-or-not : (b : Bool) → (b ≡ true) ⊎ (b ≡ false)
held-or-not true = inl refl
held-or-not false = inr refl

pub lift-some : (t : ℕ) (b : Bool) → pos 0 ≤ℤ lift t b
lift-some t true = omega (arith, ints)
lift-some t false = omega (arith, ints)

pub lift-most : (t : ℕ) (b : Bool) → lift t b ≤ℤ pos t
lift-most t true = omega (arith, ints)
lift-most t false = omega (arith, ints)

lift-held : (t : ℕ) (b : Bool) → b ≡ true → lift t b ≡ pos 0
lift-held t b held = rw held refl

lift-lacked : (t : ℕ) (b : Bool) → b ≡ false → lift t b ≡ pos t
lift-lacked t b lacks = rw lacks refl

fewer-lack : (old new : Bool) → (old ≡ true → new ≡ true) → (if new then 0 else 1) ≤ (if old then 0 else 1)
fewer-lack true true kept = omega arith
fewer-lack true false kept = absurd (false≢true (kept refl))
fewer-lack false true kept = omega arith
fewer-lack false false kept = omega arith

one-less : (old new : Bool) → old ≡ false → new ≡ true → (if new then 0 else 1) + 1 ≤ (if old then 0 else 1)
one-less old new lacks held = rw (lacks, held) (omega arith)

zero-or-one : (b : Bool) → (if b then 0 else 1) ≤ 1
zero-or-one true = omega arith
zero-or-one false = omega arith

one-for : (b : Bool) → b ≡ false → 1 ≤ (if b then 0 else 1)
one-for b lacks = rw lacks (omega arith)

pub lacked-most : (n : ℕ) (side : List Bool) → lacked n side ≤ n
lacked-most n side =
    let most = total_below-most n 1 (λ i. if holds side i then 0 else 1) (λ k l. zero-or-one (holds side k)) in omega arith

pub lacked-some : (n i : ℕ) (side : List Bool) → i < n → holds side i ≡ false → 1 ≤ lacked n side
lacked-some n i side there lacks =
    let term = total_below-term n i (λ k. if holds side k then 0 else 1) there in
    let here = one-for (holds side i) lacks in
    omega arith

-- potentials within the limit are small
pub within-small : (n : ℕ) (u : List ℤ) → n ≤ grounded_nodes_most → length u ≡ n
    → ((i : ℕ) → i < n → IsWithin (4 * (n * number_most)) («at» u i)) → AreSmall u
within-small n u few one_each within = record {
  low = λ i l. (let low = (within i (omega arith)).0 in omega (arith, ints));
  high = λ i l. (let high = (within i (omega arith)).1 in omega (arith, ints));
}

pub near-within : (n : ℕ) (u : List ℤ) → ((i : ℕ) → i < n → IsWithin (n * number_most) («at» u i)) → (i : ℕ) → i < n
    → IsWithin (4 * (n * number_most)) («at» u i)
near-within n u near i l = within_more (n * number_most) (4 * (n * number_most)) («at» u i) (omega arith) (near i l)

-- ---- steps

-- the difference of a step is the tension in its direction
difference-is : (net : Network) (u : ℕ → ℤ) (s : Step) → u (end_of net s) -ℤ u (begin_of net s) ≡ directed (tension net u s.arc.0) s.forward
difference-is net u s = by_direction s.forward
  where
    by_direction : (forward : Bool) → u (end_of net (over s.arc.0 forward)) -ℤ u (begin_of net (over s.arc.0 forward))
        ≡ directed (tension net u s.arc.0) forward
    by_direction true = refl
    by_direction false = omega (arith, ints)

-- both ends of a step are in the set, so both ends of its arc are
ends-held : (net : Network) (side : List Bool) (s : Step) → holds side (begin_of net s) ≡ true → holds side (end_of net s) ≡ true
    → (holds side (tail net s.arc.0) ≡ true) × (holds side (head net s.arc.0) ≡ true)
ends-held net side s begin_in end_in = by_direction s.forward begin_in end_in
  where
    by_direction : (forward : Bool) → holds side (begin_of net (over s.arc.0 forward)) ≡ true
        → holds side (end_of net (over s.arc.0 forward)) ≡ true
        → (holds side (tail net s.arc.0) ≡ true) × (holds side (head net s.arc.0) ≡ true)
    by_direction true b e = (b, e)
    by_direction false b e = (e, b)

-- where a bridge begins and ends
bridge-begins : (net : Network) (side : List Bool) (j : ℕ) (forward : Bool) → holds side (tail net j) ≡ forward
    → holds side (head net j) ≡ not forward → holds side (begin_of net (over j forward)) ≡ true
bridge-begins net side j true tail_is head_is = tail_is
bridge-begins net side j false tail_is head_is = head_is

bridge-ends : (net : Network) (side : List Bool) (j : ℕ) (forward : Bool) → holds side (tail net j) ≡ forward
    → holds side (head net j) ≡ not forward → holds side (end_of net (over j forward)) ≡ false
bridge-ends net side j true tail_is head_is = head_is
bridge-ends net side j false tail_is head_is = tail_is

module _ (g : Graph) (lists : List (List Ext)) (curves : AreCurves lists) (good : IsNetwork (without_bases g lists)) where
  abbrev net : Network
  net = without_bases g lists

  pub tight-rises : (u : List ℤ) (s : Step) → IsFeasiblePotential 1 net u → s.arc.0 < length g.arcs → IsFreeStep (tight g lists u) s
      → IsFinite (span_end net s) × («at» u (end_of net s) -ℤ «at» u (begin_of net s) ≡ whole (span_end net s))
  tight-rises u s potential there free =
      let j = s.arc.0 in
      let is = tight-is (list_at lists j) (tension net («at» u) j) s.forward (span-ends (list_at lists j) (curves.are_lists j))
      (rw (without_bases-items g lists j) at (potential.in_spans j there)) free in
      rw (without_bases-items g lists j) (is.0, difference-is net («at» u) s ∙ is.1)

  pub step-within : (s : Step) → IsWithin number_most (whole (span_end net s))
  step-within s = rw (without_bases-items g lists s.arc.0) (passing-within (list_at lists s.arc.0) s.forward (curves.within s.arc.0))

  -- a path of tight steps
  pub tight-path : (u : List ℤ) (walk : List Step) (from to : ℕ) → IsFeasiblePotential 1 net u
      → IsFreePath (bare g) (tight g lists u) walk from to → IsPathOf net walk from to (rise u from to)
  tight-path u walk from to potential path = record {
    path = record {
      not_empty = path.not_empty;
      there = path.there;
      begins = path.begins;
      joined = path.joined;
      ends = path.ends;
      begins_differ = path.begins_differ;
      ends_differ = path.ends_differ;
      arcs_differ = path.arcs_differ;
    };
    counts = each-places (λ s. IsFinite (span_end net s)) walk (λ k l. (tight-rises u (step walk k) potential (path.there k l) (path.free k l)).0);
    sum =
        sum_over-each (λ s. «at» u (end_of net s) -ℤ «at» u (begin_of net s) ≡ whole (span_end net s)) (λ s. whole (span_end net s))
        (λ s. «at» u (end_of net s) -ℤ «at» u (begin_of net s)) walk
        (each-places (λ s. «at» u (end_of net s) -ℤ «at» u (begin_of net s) ≡ whole (span_end net s)) walk
        (λ k l. (tight-rises u (step walk k) potential (path.there k l) (path.free k l)).1))
        (λ s e. sym e)
        ∙ along walk path;
  }
    where
      along : (walk : List Step) → IsFreePath (bare g) (tight g lists u) walk from to
          → sum_over (λ s. «at» u (end_of net s) -ℤ «at» u (begin_of net s)) walk ≡ rise u from to
      along [] p = absurd (omega (arith, p.not_empty))
      along (s ∷ rest) p =
          let all = differences net («at» u) s rest p.joined in
          let ends = ap («at» u) (p.ends (length rest) (omega arith)) in
          let begins = ap («at» u) p.begins in
          omega (arith, ints)

  pub answered : (u : List ℤ) (walk : List Step) (from to : ℕ) (t : ℤ) → t ≡ rise u from to → IsFeasiblePotential 1 net u
      → IsFreePath (bare g) (tight g lists u) walk from to → (rise u from to ≡ t) × IsPathOf net walk from to t
  answered u walk from to t is potential path = (sym is, rw is (tight-path u walk from to potential path))

  -- where nothing has slack
  pub open-is : (u : List ℤ) (side : List Bool) (from to : ℕ) → IsFreeCut (bare g) (tight g lists u) side from to
      → ((j : ℕ) → j < length g.arcs → slack_at g lists u side j ≡ None) → IsOpenCut net side from to
  open-is u side from to cut none = record {
    holds_from = cut.holds_from;
    lacks_to = cut.lacks_to;
    leaving = λ j l tail_in head_out.
        rw (without_bases-items g lists j)
        (leaving-none (span_low (list_at lists j)) (span_high (list_at lists j)) (tension net («at» u) j) (holds side (tail net j)) (holds side (head net j))
        (span-ends (list_at lists j) (curves.are_lists j)) (none j l) tail_in head_out);
    entering = λ j l tail_out head_in.
        rw (without_bases-items g lists j)
        (entering-none (span_low (list_at lists j)) (span_high (list_at lists j)) (tension net («at» u) j) (holds side (tail net j)) (holds side (head net j))
        (span-ends (list_at lists j) (curves.are_lists j)) (none j l) tail_out head_in);
  }

  -- ---- near the first node

  near-walk : (from : ℕ) (side : List Bool) (u : List ℤ) (walk : List Step) → IsFeasiblePotential 1 net u
      → IsGrowth (bare g) (tight g lists u) side walk from → (bound k : ℕ) → k < bound → k < length walk
      → IsWithin ((k + 1) * number_most) (rise u from (end_of net (step walk k)))
  near-walk from side u walk potential growth zero k below there = absurd (omega arith)
  near-walk from side u walk potential growth (suc bound) k below there =
      let rises = (tight-rises u (step walk k) potential (growth.there k there) (growth.free k there)).1 in
      let within = step-within (step walk k) in
      let low = within.0 in
      let high = within.1 in
      ⊎_elim
      (λ (first : begin_of (bare g) (step walk k) ≡ from).
      let same = ap («at» u) first in
      (omega (arith, ints), omega (arith, ints)))
      (λ (later : (i : ℕ) × (i < k) × (end_of (bare g) (step walk i) ≡ begin_of (bare g) (step walk k))).
      let i = later.0 in
      let before = later.1 in
      let old = near-walk from side u walk potential growth bound i (omega (arith, before)) (omega (arith, before)) in
      let old_low = old.0 in
      let old_high = old.1 in
      let same = ap («at» u) later.2 in
      let fewer : (i + 1) * number_most + number_most ≤ (k + 1) * number_most = omega (arith, before) in
      (omega (arith, ints), omega (arith, ints)))
      (growth.rooted k there)

  near-first : (from : ℕ) (side : List Bool) (u : List ℤ) (walk : List Step) → IsFeasiblePotential 1 net u
      → IsGrowth (bare g) (tight g lists u) side walk from → (i : ℕ) → holds side i ≡ true
      → IsWithin (length walk * number_most) (rise u from i)
  near-first from side u walk potential growth i held =
      ⊎_elim
      (λ (here : i ≡ from). rw here (omega (arith, ints), omega (arith, ints)))
      (λ (apart : i ≡ from → ⊥).
      let place = growth.spanning i held apart in
      let k = place.0 in
      let there = place.1 in
      let near = near-walk from side u walk potential growth (suc k) k (omega arith) there in
      let low = near.0 in
      let high = near.1 in
      let same = ap («at» u) place.2 in
      let fewer : (k + 1) * number_most ≤ length walk * number_most = omega (arith, there) in
      (omega (arith, ints), omega (arith, ints)))
      (cases_eq i from)

  -- ---- one lifting

  pub record IsBridged (u w : List ℤ) (side : List Bool) (room : ℕ) : Type 0 where
    pub arc : ℕ
    pub forward : Bool
    pub there : arc < length g.arcs
    pub begins : holds side (begin_of net (over arc forward)) ≡ true
    pub ends : holds side (end_of net (over arc forward)) ≡ false
    pub free : IsFreeStep (tight g lists w) (over arc forward)

  pub bridged : (u w : List ℤ) (side : List Bool) (room : ℕ) → IsLeast (length g.arcs) (slack_at g lists u side) room
      → IsLifted net room side u w → IsBridged u w side room
  bridged u w side room least is =
      let j = least.met.0 in
      let there = least.met.1 in
      let bridge = bridge-is (list_at lists j) (tension net («at» u) j) (holds side (tail net j)) (holds side (head net j)) room least.met.2 in
      record {
        arc = j;
        forward = bridge.forward;
        there = there;
        begins = bridge-begins net side j bridge.forward bridge.tail_is bridge.head_is;
        ends = bridge-ends net side j bridge.forward bridge.tail_is bridge.head_is;
        free = subst (λ (v : ℤ). IsFree (tight_colour (list_at lists j) v) bridge.forward)
            (sym (tension-lifted net room side u w j good is there)) bridge.tight;
      }

  lifted-again : (u w : List ℤ) (side : List Bool) (room : ℕ) → 0 < g.nodes → IsFeasiblePotential 1 net u
      → IsLeast (length g.arcs) (slack_at g lists u side) room → IsLifted net room side u w → IsFeasiblePotential 1 net w
  lifted-again u w side room some potential least is =
      lifted-feasible net room side u w good some is potential
      (λ j l.
      rw (without_bases-items g lists j)
      (slack-has (list_at lists j) (tension net («at» u) j) (holds side (tail net j)) (holds side (head net j)) room
      (rw (without_bases-items g lists j) at (potential.in_spans j l)) (λ s e. least.least j s l e)))

  -- what a node has gained after the lifting
  gain-lifted : (from : ℕ) (begun u w : List ℤ) (side : List Bool) (room i : ℕ) → IsLifted net room side u w → from < g.nodes
      → holds side from ≡ true → i < g.nodes → gain begun w from i ≡ gain begun u from i +ℤ lift room (holds side i)
  gain-lifted from begun u w side room i is from_there held there =
      let at_i = is.lifts i there in
      let at_from = is.lifts from from_there in
      let none = lift-held room (holds side from) held in
      omega (arith, ints)

  pub risen-more : (from to : ℕ) (begun w : List ℤ) (v : Room) (room : ℕ) → 0 < g.nodes → from < g.nodes
      → ((i : ℕ) → i < g.nodes → IsWithin (g.nodes * number_most) («at» begun i))
      → IsClimbing g lists from to begun v → IsLeast (length g.arcs) (slack_at g lists v.potentials v.reached) room
      → IsLifted net room v.reached v.potentials w → IsRisen net from begun v.reached w
  risen-more from to begun w v room some from_there near climbing least is =
      let u = v.potentials in
      let side = v.reached in
      let held : holds side from ≡ true = climbing.parted.holds_from in
      let potential = climbing.risen.feasible in
      let feasible = lifted-again u w side room some potential least is in
      let bridge = bridged u w side room least is in
      let s = over bridge.arc bridge.forward in
      let e = end_of net s in
      let b = begin_of net s in
      let e_there : e < g.nodes = end-in_graph g s bridge.there in
      let b_there : b < g.nodes = begin-in g s bridge.there in
      let rises = (tight-rises w s feasible bridge.there bridge.free).1 in
      let within = step-within s in
      let high = within.1 in
      let close = (near-first from side u v.walk potential climbing.growth b bridge.begins).1 in
      let at_b = is.lifts b b_there in
      let at_from = is.lifts from from_there in
      let none_b = lift-held room (holds side b) bridge.begins in
      let none_from = lift-held room (holds side from) held in
      let gained_e = gain-lifted from begun u w side room e is from_there held e_there in
      let old_e = climbing.risen.outside e e_there bridge.ends in
      let lifts_e = lift-lacked room (holds side e) bridge.ends in
      let near_e = (near e e_there).0 in
      let near_from = (near from from_there).1 in
      let short = climbing.short in
      let few : climbing.risen.gained + room ≤ 3 * (g.nodes * number_most) = omega (arith, ints) in
      record {
        feasible = feasible;
        gained = climbing.risen.gained + room;
        few = few;
        gains_some = λ i l. (
            let e = gain-lifted from begun u w side room i is from_there held l in
            let old = climbing.risen.gains_some i l in
            let more = lift-some room (holds side i) in
            omega (arith, ints));
        gains_most = λ i l. (
            let e = gain-lifted from begun u w side room i is from_there held l in
            let old = climbing.risen.gains_most i l in
            let more = lift-most room (holds side i) in
            omega (arith, ints));
        outside = λ i l lacks. (
            let e = gain-lifted from begun u w side room i is from_there held l in
            let old = climbing.risen.outside i l lacks in
            let more = lift-lacked room (holds side i) lacks in
            omega (arith, ints));
      }
    where
      begin-in : (g : Graph) (s : Step) → s.arc.0 < length g.arcs → begin_of (bare g) s < g.nodes
      begin-in g s there = by_direction s.forward
        where
          by_direction : (forward : Bool) → begin_of (bare g) (over s.arc.0 forward) < g.nodes
          by_direction true = g.good.tails s.arc.0 there
          by_direction false = g.good.heads s.arc.0 there

  -- ---- the next set

  grown-step : (from to room : ℕ) (u w : List ℤ) (side next : List Bool) (walk : List Step) → IsLifted net room side u w
      → IsFreeCut (bare g) (tight g lists u) side from to → IsGrowth (bare g) (tight g lists u) side walk from
      → IsFreeCut (bare g) (tight g lists w) next from to → (bound k : ℕ) → k < bound → k < length walk
      → holds next (end_of net (step walk k)) ≡ true
  grown-step from to room u w side next walk is parted growth now zero k below there = absurd (omega arith)
  grown-step from to room u w side next walk is parted growth now (suc bound) k below there =
      let s = step walk k in
      let begins : (holds side (begin_of net s) ≡ true) × (holds next (begin_of net s) ≡ true) =
      ⊎_elim
      (λ (first : begin_of (bare g) s ≡ from). (ap (holds side) first ∙ parted.holds_from, ap (holds next) first ∙ now.holds_from))
      (λ (later : (i : ℕ) × (i < k) × (end_of (bare g) (step walk i) ≡ begin_of (bare g) s)).
      let i = later.0 in
      let before = later.1 in (
        ap (holds side) (sym later.2) ∙ growth.inside i (omega (arith, before)),
        ap (holds next) (sym later.2)
            ∙ grown-step from to room u w side next walk is parted growth now bound i (omega (arith, before)) (omega (arith, before)),
      ))
      (growth.rooted k there) in
      let both = ends-held net side s begins.0 (growth.inside k there) in
      let tail_none = lift-held room (holds side (tail net s.arc.0)) both.0 in
      let head_none = lift-held room (holds side (head net s.arc.0)) both.1 in
      let now_is = tension-lifted net room side u w s.arc.0 good is (growth.there k there) in
      let same : tension net («at» w) s.arc.0 ≡ tension net («at» u) s.arc.0 = omega (arith, ints) in
      now.none_leaves s (growth.there k there)
      (subst (λ (v : ℤ). IsFree (tight_colour (list_at lists s.arc.0) v) s.forward) (sym same) (growth.free k there)) begins.1

  pub grown-again : (from to room : ℕ) (u w : List ℤ) (side next : List Bool) (walk : List Step) → IsLifted net room side u w
      → IsFreeCut (bare g) (tight g lists u) side from to → IsGrowth (bare g) (tight g lists u) side walk from
      → IsFreeCut (bare g) (tight g lists w) next from to → (i : ℕ) → holds side i ≡ true → holds next i ≡ true
  grown-again from to room u w side next walk is parted growth now i held =
      ⊎_elim
      (λ (here : i ≡ from). ap (holds next) here ∙ now.holds_from)
      (λ (apart : i ≡ from → ⊥).
      let place = growth.spanning i held apart in
      ap (holds next) (sym place.2)
      ∙ grown-step from to room u w side next walk is parted growth now (suc place.0) place.0 (omega arith) place.1)
      (cases_eq i from)

  pub lacked-falls : (from to room : ℕ) (u w : List ℤ) (side next : List Bool) → ((i : ℕ) → holds side i ≡ true → holds next i ≡ true)
      → IsBridged u w side room → IsFreeCut (bare g) (tight g lists w) next from to → lacked g.nodes next + 1 ≤ lacked g.nodes side
  lacked-falls from to room u w side next kept bridge now =
      let s = over bridge.arc bridge.forward in
      let e = end_of net s in
      let reached : holds next e ≡ true = now.none_leaves s bridge.there bridge.free (kept (begin_of net s) bridge.begins) in
      total_below-falls g.nodes e 1 (λ i. if holds side i then 0 else 1) (λ i. if holds next i then 0 else 1) (end-in_graph g s bridge.there)
      (λ i. fewer-lack (holds side i) (holds next i) (kept i)) (one-less (holds side e) (holds next e) bridge.ends reached)

  pub risen-kept : (from : ℕ) (begun w : List ℤ) (side next : List Bool) → ((i : ℕ) → holds side i ≡ true → holds next i ≡ true)
      → IsRisen net from begun side w → IsRisen net from begun next w
  risen-kept from begun w side next kept risen = record {
    feasible = risen.feasible;
    gained = risen.gained;
    few = risen.few;
    gains_some = risen.gains_some;
    gains_most = risen.gains_most;
    outside = λ i l lacks.
        risen.outside i l
        (⊎_elim (λ (held : holds side i ≡ true). absurd (false≢true (sym lacks ∙ kept i held))) (λ (none : holds side i ≡ false). none)
        (held-or-not (holds side i)));
  }

  -- ---- ranges

  pub risen-begun : (from : ℕ) (begun : List ℤ) (side : List Bool) → IsFeasiblePotential 1 net begun → IsRisen net from begun side begun
  risen-begun from begun side potential = record {
    feasible = potential;
    gained = 0;
    few = omega arith;
    gains_some = λ i l. omega (arith, ints);
    gains_most = λ i l. omega (arith, ints);
    outside = λ i l lacks. omega (arith, ints);
  }

  pub risen-within : (from : ℕ) (begun w : List ℤ) (side : List Bool) → 0 < g.nodes → IsFeasiblePotential 1 net begun
      → ((i : ℕ) → i < g.nodes → IsWithin (g.nodes * number_most) («at» begun i)) → IsRisen net from begun side w
      → (i : ℕ) → i < g.nodes → IsWithin (4 * (g.nodes * number_most)) («at» w i)
  risen-within from begun w side some potential near risen i l =
      let ground = risen.feasible.ground in
      let ground_begun = potential.ground in
      let here = near i l in
      let low = here.0 in
      let high = here.1 in
      let some_i = risen.gains_some i l in
      let most_i = risen.gains_most i l in
      let some_0 = risen.gains_some 0 some in
      let most_0 = risen.gains_most 0 some in
      let few = risen.few in
      (omega (arith, ints), omega (arith, ints))

  -- the slack of an arc is not more than a range of tensions
  pub room-most : (u : List ℤ) (side : List Bool) (n room : ℕ) → ((i : ℕ) → i < g.nodes → IsWithin n («at» u i))
      → IsLeast (length g.arcs) (slack_at g lists u side) room → room ≤ number_most + 2 * n
  room-most u side n room near least =
      let j = least.met.0 in
      let there = least.met.1 in
      let at_head = near (head net j) (g.good.heads j there) in
      let at_tail = near (tail net j) (g.good.tails j there) in
      let head_low = at_head.0 in
      let head_high = at_head.1 in
      let tail_low = at_tail.0 in
      let tail_high = at_tail.1 in
      slack-most (list_at lists j) (tension net («at» u) j) (holds side (tail net j)) (holds side (head net j)) (2 * n) room (curves.within j)
      (omega (arith, ints), omega (arith, ints)) least.met.2

  -- ---- what the loop keeps

  pub climbing-begun : (from to : ℕ) (begun : List ℤ) (w : Room) → IsFeasiblePotential 1 net begun → w.potentials ≡ begun
      → IsFreeCut (bare g) (tight g lists begun) w.reached from to → IsGrowth (bare g) (tight g lists begun) w.reached w.walk from
      → length w.walk + 2 ≤ g.nodes → IsClimbing g lists from to begun w
  climbing-begun from to begun w potential same parted growth short = record {
    risen = rw same (risen-begun from begun w.reached potential);
    parted = rw same parted;
    growth = rw same growth;
    short = short;
  }

  pub climbing-more : (from to : ℕ) (begun u : List ℤ) (v w : Room) (room : ℕ) → 0 < g.nodes → from < g.nodes
      → ((i : ℕ) → i < g.nodes → IsWithin (g.nodes * number_most) («at» begun i))
      → IsClimbing g lists from to begun v → IsLeast (length g.arcs) (slack_at g lists v.potentials v.reached) room
      → IsLifted net room v.reached v.potentials u → w.potentials ≡ u
      → IsFreeCut (bare g) (tight g lists u) w.reached from to → IsGrowth (bare g) (tight g lists u) w.reached w.walk from
      → length w.walk + 2 ≤ g.nodes → IsClimbing g lists from to begun w
  climbing-more from to begun u v w room some from_there near climbing least is same parted growth short = record {
    risen = rw same
        (risen-kept from begun u v.reached w.reached
        (grown-again from to room v.potentials u v.reached w.reached v.walk is climbing.parted climbing.growth parted)
        (risen-more from to begun u v room some from_there near climbing least is));
    parted = rw same parted;
    growth = rw same growth;
    short = short;
  }

  pub lacked-more : (from to room : ℕ) (begun u : List ℤ) (v w : Room) → IsClimbing g lists from to begun v
      → IsLeast (length g.arcs) (slack_at g lists v.potentials v.reached) room → IsLifted net room v.reached v.potentials u
      → IsFreeCut (bare g) (tight g lists u) w.reached from to → lacked g.nodes w.reached + 1 ≤ lacked g.nodes v.reached
  lacked-more from to room begun u v w climbing least is parted =
      lacked-falls from to room v.potentials u v.reached w.reached
      (grown-again from to room v.potentials u v.reached w.reached v.walk is climbing.parted climbing.growth parted)
      (bridged v.potentials u v.reached room least is) parted
