-- How the walk goes on. Some step at the node where it ends has flow left along it: the step back over the walk's last arc has
-- some against it, and the flows along all steps at the node add up to 0. The walk has room for it as long as it meets none of
-- its nodes, since then there are more nodes than it has steps.
use Rattle.std.proofs.Common.{◌≡◌, ◌≢◌, ℕ, ◌+◌, ◌-◌, ◌<◌, ◌≤◌, ℤ, pos, neg_ℤ, ◌<ℤ◌, Bool, true, false, not, if◌then◌else◌, Option, Some, None, List, [], ◌∷◌, ◌++◌, length, set, refl, sym, ap, ◌∙◌, subst, ⊎_elim, length-append, arith}
use Rattle.std.specs.Prelude.{slice_index}
use Rattle.std.proofs.lemmas.Int.{ints}
use Rattle.std.proofs.lemmas.Bool.{cases_lt, cases_eq}
use Rattle.std.proofs.lemmas.List.{length-set, get_or-set_same, get_or-set_other}
use Rattle.theory.specs.declared.network.Step.{Step}
use Rattle.theory.specs.Network.{Network, «at», tail, head}
use Rattle.theory.specs.Circuit.{step, begin_of, end_of, WalkIsThere}
use Rattle.theory.proofs.Counting.{fewer-without}
use Rattle.theory.proofs.SumsBelow.{sum_below-zero, sum_below-equal_terms}
use Rattle.theory.proofs.SumLaw.{divergence-conserved}
use Rattle.theory.proofs.Walks.{step-kept, step-last}
use Rattle.net_incidence.specs.Graph.{Graph, bare}
use Rattle.net_incidence.specs.Incidence.{over, incident_steps}
use Rattle.net_incidence.specs.FlowAlong.{flow_along}
use Rattle.net_incidence.proofs.Divergence.{divergence-places}
use Rattle.net_incidence.proofs.Degrees.{incident-stands}
use Rattle.flow_pieces.specs.Course.{Course, IsTrail, EndsAt, place_at, ArePlaces, AreDry, IsCourse}

-- ---- ends of steps

pub begin-there : (g : Graph) (s : Step) → s.arc.0 < length g.arcs → begin_of (bare g) s < g.nodes
begin-there g s there = by_way (tail (bare g) s.arc.0) (head (bare g) s.arc.0) s.forward (g.good.tails s.arc.0 there) (g.good.heads s.arc.0 there)
  where
    by_way : (t h : ℕ) (forward : Bool) → t < g.nodes → h < g.nodes → (if forward then t else h) < g.nodes
    by_way t h true t_there h_there = t_there
    by_way t h false t_there h_there = h_there

-- ---- places

-- no two steps begin at one node
pub begins-differ : (net : Network) (walk : List Step) (places : List (Option ℕ)) → ArePlaces net walk places
    → (i k : ℕ) → i < k → k < length walk → begin_of net (step walk i) ≢ begin_of net (step walk k)
begins-differ net walk places placed i k before there same =
    let one : Some i ≡ Some k = sym (placed.found i (omega arith)) ∙ ap (place_at places) same ∙ placed.found k there in
    let equal : i ≡ k = cc in
    omega arith

none_of : (o : Option ℕ) → ((k : ℕ) → o ≡ Some k → ⊥) → o ≡ None
none_of None never = refl
none_of (Some k) never = absurd (never k refl)

-- a walk without a step begins nowhere
pub begins-nowhere : (net : Network) (walk : List Step) (places : List (Option ℕ)) (i : ℕ) → ArePlaces net walk places → length walk ≡ 0
    → place_at places i ≡ None
begins-nowhere net walk places i placed empty =
    none_of (place_at places i) (λ k is. let l = (placed.only i k is).0 in omega arith)

-- where no step begins at one of the nodes there are fewer steps than nodes
pub has_room : (g : Graph) (walk : List Step) (places : List (Option ℕ)) (i : ℕ) → WalkIsThere (bare g) walk → ArePlaces (bare g) walk places
    → i < g.nodes → place_at places i ≡ None → length walk < g.nodes
has_room g walk places i there placed node free =
    fewer-without (length walk) g.nodes i (λ k. begin_of (bare g) (step walk k))
    (begins-differ (bare g) walk places placed)
    (λ k l. begin-there g (step walk k) (there k l))
    node
    (λ k l same. let e : Some k ≡ None = sym (placed.found k l) ∙ ap (place_at places) same ∙ free in cc)

-- ---- a further step

further-trail : (net : Network) (rest : ℕ → ℤ) (walk : List Step) (s : Step) → IsTrail net rest walk → s.arc.0 < length net.arcs
    → pos 0 <ℤ flow_along rest s → EndsAt net walk (begin_of net s) → IsTrail net rest (walk ++ s ∷ [])
further-trail net rest walk s trail there along ends =
    let more = length-append walk (s ∷ []) in record {
      there = λ k l. ⊎_elim
          (λ (below : k < length walk). let P : Step → Type 0 = λ t. t.arc.0 < length net.arcs in subst P (sym (step-kept walk s k below)) (trail.there k below))
          (λ (above : length walk ≤ k). let P : Step → Type 0 = λ t. t.arc.0 < length net.arcs in subst P (sym (step-last walk s k (omega arith))) there)
          (cases_lt k (length walk));
      joined = λ k l. ⊎_elim
          (λ (below : k + 1 < length walk).
          ap (end_of net) (step-kept walk s k (omega arith)) ∙ trail.joined k below ∙ ap (begin_of net) (sym (step-kept walk s (k + 1) below)))
          (λ (above : length walk ≤ k + 1).
          ap (end_of net) (step-kept walk s k (omega arith)) ∙ ends k (omega arith) ∙ ap (begin_of net) (sym (step-last walk s (k + 1) (omega arith))))
          (cases_lt (k + 1) (length walk));
      along = λ k l. ⊎_elim
          (λ (below : k < length walk). let P : Step → Type 0 = λ t. pos 0 <ℤ flow_along rest t in subst P (sym (step-kept walk s k below)) (trail.along k below))
          (λ (above : length walk ≤ k). let P : Step → Type 0 = λ t. pos 0 <ℤ flow_along rest t in subst P (sym (step-last walk s k (omega arith))) along)
          (cases_lt k (length walk));
    }

further-placed : (net : Network) (walk : List Step) (places : List (Option ℕ)) (s : Step) → ArePlaces net walk places
    → begin_of net s < net.nodes → place_at places (begin_of net s) ≡ None
    → ArePlaces net (walk ++ s ∷ []) (set places (begin_of net s) (Some (length walk)))
further-placed net walk places s placed node free =
    let more = length-append walk (s ∷ []) in
    let b = begin_of net s in
    let one_each = placed.one_each in
    let grown = set places b (Some (length walk)) in
    let written : place_at grown b ≡ Some (length walk) = get_or-set_same places b (Some (length walk)) None (omega arith) in record {
      one_each = length-set places b (Some (length walk)) ∙ one_each;
      found = λ k l. ⊎_elim
          (λ (below : k < length walk).
          let kept : step (walk ++ s ∷ []) k ≡ step walk k = step-kept walk s k below in
          let was = placed.found k below in
          let other : begin_of net (step walk k) ≢ b = (λ same. let e : Some k ≡ None = sym was ∙ ap (place_at places) same ∙ free in cc) in
          ap (λ t. place_at grown (begin_of net t)) kept ∙ get_or-set_other places b (begin_of net (step walk k)) (Some (length walk)) None other ∙ was)
          (λ (above : length walk ≤ k).
          let last : k ≡ length walk = omega arith in
          ap (λ t. place_at grown (begin_of net t)) (step-last walk s k last) ∙ written ∙ ap Some (sym last))
          (cases_lt k (length walk));
      only = λ i k is. ⊎_elim
          (λ (here : i ≡ b).
          let same : Some (length walk) ≡ Some k = sym written ∙ ap (place_at grown) (sym here) ∙ is in
          let last : k ≡ length walk = cc in
          (omega arith, ap (begin_of net) (step-last walk s k last) ∙ sym here))
          (λ (other : i ≢ b).
          let was = placed.only i k (sym (get_or-set_other places b i (Some (length walk)) None other) ∙ is) in
          let l = was.0 in
          (omega arith, ap (begin_of net) (step-kept walk s k l) ∙ was.1))
          (cases_eq i b);
    }

pub further : (g : Graph) (c : Course) (s : Step) → IsCourse g c → s.arc.0 < length g.arcs → pos 0 <ℤ flow_along («at» c.rest) s
    → EndsAt (bare g) c.walk (begin_of (bare g) s) → place_at c.places (begin_of (bare g) s) ≡ None
    → IsCourse g (record c { walk = c.walk ++ s ∷ []; places = set c.places (begin_of (bare g) s) (Some (length c.walk)) })
further g c s is there along ends free = record {
  numbers = is.numbers;
  conserved = is.conserved;
  trail = further-trail (bare g) («at» c.rest) c.walk s is.trail there along ends;
  placed = further-placed (bare g) c.walk c.places s is.placed (begin-there g s there) free;
  looked = is.looked;
}

-- ---- the next step

-- the step back over the same arc
abbrev back : Step → Step
back s = over s.arc.0 (not s.forward)

back-begins : (net : Network) (s : Step) → begin_of net (back s) ≡ end_of net s
back-begins net s = by_way (tail net s.arc.0) (head net s.arc.0) s.forward
  where
    by_way : (t h : ℕ) (forward : Bool) → (if not forward then t else h) ≡ (if forward then h else t)
    by_way t h true = refl
    by_way t h false = refl

back-flow : (x : ℕ → ℤ) (s : Step) → pos 0 <ℤ flow_along x s → flow_along x (back s) <ℤ pos 0
back-flow x s along = by_way (x s.arc.0) s.forward along
  where
    by_way : (z : ℤ) (forward : Bool) → pos 0 <ℤ (if forward then z else (neg_ℤ z)) → (if not forward then z else (neg_ℤ z)) <ℤ pos 0
    by_way z true up = omega (arith, ints)
    by_way z false up = omega (arith, ints)

pub never_dry : (g : Graph) (c : Course) (i : ℕ) → IsCourse g c → 0 < length c.walk → i < g.nodes → EndsAt (bare g) c.walk i
    → AreDry («at» c.rest) (incident_steps g.arcs i) (length (incident_steps g.arcs i)) → ⊥
never_dry g c i is some node ends dry =
    let x = «at» c.rest in
    let steps = incident_steps g.arcs i in
    let k = length c.walk - 1 in
    let s = step c.walk k in
    let at_end : begin_of (bare g) (back s) ≡ i = back-begins (bare g) s ∙ ends k (omega arith) in
    let found = incident-stands (bare g) (back s) (is.trail.there k (omega arith)) g.good in
    let same : incident_steps g.arcs (begin_of (bare g) (back s)) ≡ steps = ap (incident_steps g.arcs) at_end in
    let stands : step steps found.place ≡ back s = ap (λ some. step some found.place) (sym same) ∙ found.is in
    let within : found.place < length steps = (let long = ap length same in omega (arith, found.within)) in
    let sum = divergence-places (bare g) x i steps g.good refl in
    let none = divergence-conserved (bare g) x is.conserved i node in
    let zero_sum = sum_below-zero (length steps) (λ n. pos 0) (λ n l. refl) in
    let zero : flow_along x (step steps found.place) ≡ pos 0 =
    sum_below-equal_terms (length steps) (λ n. flow_along x (step steps n)) (λ n. pos 0) dry (omega (arith, ints)) found.place within in
    let against = back-flow x s (is.trail.along k (omega arith)) in
    let as_well : flow_along x (step steps found.place) ≡ flow_along x (back s) = ap (flow_along x) stands in
    omega (arith, ints)

pub looked-further : (g : Graph) (c : Course) (i k : ℕ) → IsCourse g c → i < g.nodes → AreDry («at» c.rest) (incident_steps g.arcs i) k
    → IsCourse g (record c { looked = set c.looked i k })
looked-further g c i k is node dry = record {
  numbers = is.numbers;
  conserved = is.conserved;
  trail = is.trail;
  placed = is.placed;
  looked = record {
    one_each = length-set c.looked i k ∙ is.looked.one_each;
    dry = λ n there. ⊎_elim
        (λ (here : n ≡ i).
        let written : slice_index (set c.looked i k) n ≡ k =
        (let long = is.looked.one_each in rw here (get_or-set_same c.looked i k 0 (omega arith))) in
        rw (written, here) dry)
        (λ (other : n ≢ i).
        let kept : slice_index (set c.looked i k) n ≡ slice_index c.looked n = get_or-set_other c.looked i n k 0 other in
        rw kept (is.looked.dry n there))
        (cases_eq n i);
  };
}
