-- No plan is bounded. Send t units round a negative circuit, step after step.
-- (1) One arc. A step forward adds a finite upper end of the span to the span sum, so the domain has no upper end and the
--     flow stays in it. The tension of the new flow is in the span, so it is at most that end, and it bears the cost up:
--     the cost rises by at most t times the end. A step backward does the same with the lower ends.
-- (2) One step changes one term of each sum over the arcs. It takes t from the node that it begins from and brings t to
--     the node that it ends at, and the whole cost rises by at most t times what the step adds to the span sum.
-- (3) Round the circuit what the steps take and bring adds up to nothing at each node, since each begins where the one
--     before ends, so the flow stays conserved. The cost rises by at most t times the span sum, which is at most -1.
--     So a t beyond the present cost less the bound brings the cost below the bound.
use Rattle.std.proofs.Common.{◌≡◌, ◌≢◌, ℕ, suc, ◌<◌, ℤ, pos, negsuc, ◌+ℤ◌, ◌-ℤ◌, ◌*ℤ◌, neg_ℤ, ◌≤ℤ◌, ◌<ℤ◌, Bool, true, false, ◌==◌, if◌then◌else◌, List, [], ◌∷◌, length, ap, ◌∙◌, ⊎_elim, get_or-set_same, get_or-set_other, length-set, arith}
use Rattle.std.proofs.lemmas.Int.{ints}
use Rattle.std.proofs.lemmas.Bool.{cases_eq}
use Rattle.theory.specs.declared.ext.Ext.{Ext}
use Rattle.theory.specs.declared.ext.Ext.TheVariants.{MinusInf, At, PlusInf}
use Rattle.theory.specs.declared.network.Step.{Step}
use Rattle.theory.specs.Sums.{sum_over, sum_below, counted}
use Rattle.theory.specs.Ends.{is_finite, IsFinite, whole, negated, IsAtLeast, IsAtMost}
use Rattle.theory.specs.CurveList.{IsCurveList, Listing, item, first, last, before_last}
use Rattle.theory.specs.Domain.{InDomain}
use Rattle.theory.specs.Span.{span_low, span_high, InSpan}
use Rattle.theory.specs.Cost.{cost}
use Rattle.theory.specs.Network.{Network, IsNetwork, «at», tail, head, curve}
use Rattle.theory.specs.Conserved.{IsConserved, divergence}
use Rattle.theory.specs.Totals.{total_cost}
use Rattle.theory.specs.Circuit.{begin_of, end_of, WalkIsThere, passing_end, span_end, span_sum, SpanCounts}
use Rattle.theory.specs.Sent.{sends, sent, sent_round}
use Rattle.theory.specs.NetworkLaws.{UnboundedLaw}
use Rattle.theory.proofs.Rings.{rings, scale_mono}
use Rattle.theory.proofs.SumsBelow.{sum_below-change, counted-add}
use Rattle.theory.proofs.Shape.{shape_by_place}
use Rattle.theory.proofs.Pairs.{tension_of_flow}
use Rattle.theory.proofs.Fenchel.{supports}
use Rattle.theory.proofs.Equality.{in_span}
use Rattle.theory.proofs.SumLaw.{divergence-conserved}
use Rattle.theory.proofs.Refusals.{at_most_end, at_least_end, around}

-- ---- (1) one arc

least_on : (e : Ext) (x y : ℤ) → x ≤ℤ y → IsAtLeast 1 e x → IsAtLeast 1 e y
least_on MinusInf x y up least = tt
least_on (At a) x y up least = omega (arith, ints)
least_on PlusInf x y up least = tt

most_on : (e : Ext) (x y : ℤ) → y ≤ℤ x → IsAtMost 1 e x → IsAtMost 1 e y
most_on MinusInf x y down most = tt
most_on (At b) x y down most = omega (arith, ints)
most_on PlusInf x y down most = tt

-- a finite end of the span stands where the domain has no end
no_upper_end : (high slope : Ext) (x : ℤ) → IsFinite (if is_finite high then PlusInf else slope) → IsAtMost 1 high x
no_upper_end MinusInf slope x finite = tt
no_upper_end (At b) slope x finite = let h : false ≡ true = finite in cc
no_upper_end PlusInf slope x finite = tt

no_lower_end : (low slope : Ext) (x : ℤ) → IsFinite (negated (if is_finite low then MinusInf else slope)) → IsAtLeast 1 low x
no_lower_end MinusInf slope x finite = tt
no_lower_end (At a) slope x finite = let h : false ≡ true = finite in cc
no_lower_end PlusInf slope x finite = tt

pub stays : (items : List Ext) (t : ℕ) (forward : Bool) (x : ℤ) → IsFinite (passing_end items forward)
    → InDomain 1 items x → InDomain 1 items (x +ℤ sends t forward)
stays items t true x finite within =
    record {
      least = least_on (first items) x (x +ℤ pos t) (omega (arith, ints)) within.least;
      most = no_upper_end (last items) (before_last items) (x +ℤ pos t) finite;
    }
stays items t false x finite within =
    record {
      least = no_lower_end (first items) (item items 1) (x +ℤ neg_ℤ (pos t)) finite;
      most = most_on (last items) x (x +ℤ neg_ℤ (pos t)) (omega (arith, ints)) within.most;
    }

-- a tension of the span asks of a step at most t times the end
asks : (items : List Ext) (t : ℕ) (forward : Bool) (v : ℤ) → IsFinite (passing_end items forward) → InSpan 1 items v
    → (v *ℤ sends t forward) ≤ℤ (pos t *ℤ whole (passing_end items forward))
asks items t true v finite within =
    let bound = at_most_end 1 (span_high items) v finite within.most in
    let scaled = scale_mono t v (whole (span_high items)) (omega (arith, ints)) in
    omega (arith, ints)
asks items t false v finite within =
    let bound = at_least_end 1 (span_low items) v finite within.least in
    let scaled = scale_mono t (neg_ℤ v) (whole (negated (span_low items))) (omega (arith, ints)) in
    omega (arith, rings)

-- with f the cost at x and g the cost at x + d
risen : (v x d f g h : ℤ) → (v *ℤ x +ℤ pos 1 *ℤ g) ≤ℤ (v *ℤ (x +ℤ d) +ℤ pos 1 *ℤ f) → (v *ℤ d) ≤ℤ h → g ≤ℤ (f +ℤ h)
risen v x d f g h bears most = omega (arith, rings)

pub cost_rises : (c : Listing) (t : ℕ) (forward : Bool) (x : ℤ) → IsCurveList c.items → IsFinite (passing_end c.items forward)
    → InDomain 1 c.items x → cost 1 c (x +ℤ sends t forward) ≤ℤ (cost 1 c x +ℤ pos t *ℤ whole (passing_end c.items forward))
cost_rises c t forward x list finite within =
    let shape = shape_by_place c.items list in
    let y = x +ℤ sends t forward in
    let tension = tension_of_flow c.items y list (stays c.items t forward x finite within) in
    let v = tension.0 in
    risen v x (sends t forward) (cost 1 c x) (cost 1 c y) (pos t *ℤ whole (passing_end c.items forward))
    (supports 1 c y v x shape tension.1 within)
    (asks c.items t forward v finite (in_span 1 y v shape tension.1))

-- ---- (2) one step

sent_there : (t : ℕ) (s : Step) (x : List ℤ) → s.arc.0 < length x → «at» (sent t s x) s.arc.0 ≡ «at» x s.arc.0 +ℤ sends t s.forward
sent_there t s x there = get_or-set_same x s.arc.0 («at» x s.arc.0 +ℤ sends t s.forward) (pos 0) there

sent_elsewhere : (t : ℕ) (s : Step) (x : List ℤ) (k : ℕ) → k ≢ s.arc.0 → «at» (sent t s x) k ≡ «at» x k
sent_elsewhere t s x k apart = get_or-set_other x s.arc.0 k («at» x s.arc.0 +ℤ sends t s.forward) (pos 0) apart

-- what leaves or enters a node changes by d if the arc has that end there
by_one : (m : ℕ) (end : ℕ → ℕ) (i a : ℕ) (d : ℤ) (x y : ℕ → ℤ) → a < m → y a ≡ x a +ℤ d → ((k : ℕ) → k ≢ a → y k ≡ x k)
    → sum_below m (λ j. counted (end j == i) (y j)) ≡ sum_below m (λ j. counted (end j == i) (x j)) +ℤ counted (end a == i) d
by_one m end i a d x y there more same =
    let change = sum_below-change m a (λ j. counted (end j == i) (x j)) (λ j. counted (end j == i) (y j)) there
    (λ k l apart. ap (counted (end k == i)) (same k apart)) in
    let here : counted (end a == i) (y a) ≡ counted (end a == i) (x a) +ℤ counted (end a == i) d =
    ap (counted (end a == i)) more ∙ counted-add (end a == i) (x a) d in
    omega (arith, ints)

-- the mark of node i
abbrev pub mark_of : ℕ → ℕ → ℤ
mark_of i n = counted (n == i) (pos 1)

by_marks : (d : ℤ) (at_tail at_head : Bool)
    → counted at_tail d -ℤ counted at_head d +ℤ d *ℤ (counted at_head (pos 1) -ℤ counted at_tail (pos 1)) ≡ pos 0
by_marks d true true = omega (arith, rings)
by_marks d true false = omega (arith, rings)
by_marks d false true = omega (arith, rings)
by_marks d false false = omega (arith, rings)

-- a step takes from where it begins and brings to where it ends
brings : (t : ℕ) (forward : Bool) (i from to : ℕ)
    → counted (from == i) (sends t forward) -ℤ counted (to == i) (sends t forward)
    +ℤ pos t *ℤ (mark_of i (if forward then to else from) -ℤ mark_of i (if forward then from else to)) ≡ pos 0
brings t true i from to = by_marks (pos t) (from == i) (to == i)
brings t false i from to = let e = by_marks (neg_ℤ (pos t)) (from == i) (to == i) in omega (arith, rings)

step_divergence : (net : Network) (t : ℕ) (s : Step) (x : List ℤ) (i : ℕ) → length x ≡ length net.arcs → s.arc.0 < length net.arcs
    → divergence net («at» (sent t s x)) i +ℤ pos t *ℤ (mark_of i (end_of net s) -ℤ mark_of i (begin_of net s)) ≡ divergence net («at» x) i
step_divergence net t s x i same there =
    let more = sent_there t s x (omega arith) in
    let d = sends t s.forward in
    let out = by_one (length net.arcs) (tail net) i s.arc.0 d («at» x) («at» (sent t s x)) there more (sent_elsewhere t s x) in
    let into = by_one (length net.arcs) (head net) i s.arc.0 d («at» x) («at» (sent t s x)) there more (sent_elsewhere t s x) in
    let brought = brings t s.forward i (tail net s.arc.0) (head net s.arc.0) in
    omega (arith, ints)

-- every flow is in its domain
abbrev pub AreInDomains : Network → List ℤ → Type 0
AreInDomains net x = (j : ℕ) → j < length net.arcs → InDomain 1 (curve net j).items («at» x j)

step_domains : (net : Network) (t : ℕ) (s : Step) (x : List ℤ) → length x ≡ length net.arcs → s.arc.0 < length net.arcs
    → IsFinite (span_end net s) → AreInDomains net x → AreInDomains net (sent t s x)
step_domains net t s x same there finite within j l =
    ⊎_elim
    (λ (hit : j ≡ s.arc.0).
    let here : InDomain 1 (curve net s.arc.0).items («at» (sent t s x) s.arc.0) =
    rw (sent_there t s x (omega arith)) (stays (curve net s.arc.0).items t s.forward («at» x s.arc.0) finite (within s.arc.0 there)) in
    rw hit here)
    (λ (apart : j ≢ s.arc.0). rw (sent_elsewhere t s x j apart) (within j l))
    (cases_eq j s.arc.0)

step_cost : (net : Network) (t : ℕ) (s : Step) (x : List ℤ) → IsNetwork net → length x ≡ length net.arcs → s.arc.0 < length net.arcs
    → IsFinite (span_end net s) → AreInDomains net x
    → total_cost 1 net («at» (sent t s x)) ≤ℤ (total_cost 1 net («at» x) +ℤ pos t *ℤ whole (span_end net s))
step_cost net t s x good same there finite within =
    let a = s.arc.0 in
    let y = sent t s x in
    let change = sum_below-change (length net.arcs) a (λ j. cost 1 (curve net j) («at» x j)) (λ j. cost 1 (curve net j) («at» y j)) there
    (λ k l apart. ap (cost 1 (curve net k)) (sent_elsewhere t s x k apart)) in
    let here = ap (cost 1 (curve net a)) (sent_there t s x (omega arith)) in
    let rises = cost_rises (curve net a) t s.forward («at» x a) (good.curve_lists a there) finite (within a there) in
    omega (arith, ints)

-- ---- (3) round the circuit

-- what the steps of a walk bring to node i, for one unit
abbrev pub brought : Network → ℕ → List Step → ℤ
brought net i walk = sum_over (λ s. mark_of i (end_of net s) -ℤ mark_of i (begin_of net s)) walk

-- the flow y is x with t units sent along the walk
pub record IsSentRound (net : Network) (t : ℕ) (walk : List Step) (x y : List ℤ) : Type 0 where
  pub one_each : length y ≡ length net.arcs
  pub in_domains : AreInDomains net y
  pub divergences : (i : ℕ) → divergence net («at» y) i +ℤ pos t *ℤ brought net i walk ≡ divergence net («at» x) i
  pub rises : total_cost 1 net («at» y) ≤ℤ (total_cost 1 net («at» x) +ℤ pos t *ℤ span_sum net walk)

pub is_sent_round : (net : Network) (t : ℕ) (walk : List Step) (x : List ℤ) → IsNetwork net → length x ≡ length net.arcs
    → WalkIsThere net walk → SpanCounts net walk → AreInDomains net x → IsSentRound net t walk x (sent_round t walk x)
is_sent_round net t [] x good same there counts within =
    record { one_each = same; in_domains = within; divergences = λ i. omega (arith, ints); rises = omega (arith, ints) }
is_sent_round net t (s ∷ walk) x good same there counts within =
    let on_arc = there 0 (omega arith) in
    let y = sent t s x in
    let later = is_sent_round net t walk y good
    (length-set x s.arc.0 («at» x s.arc.0 +ℤ sends t s.forward) ∙ same)
    (λ k l. there (suc k) (omega arith)) counts.1
    (step_domains net t s x same on_arc counts.0 within) in
    let costs = step_cost net t s x good same on_arc counts.0 within in
    record {
      one_each = later.one_each;
      in_domains = later.in_domains;
      divergences = λ i. (let here = step_divergence net t s x i same on_arc in let rest = later.divergences i in omega (arith, rings));
      rises = (let rest = later.rises in omega (arith, rings));
    }

-- a number of units beyond z
beyond : (z : ℤ) → (t : ℕ) × (z <ℤ pos t)
beyond (pos n) = (suc n, omega (arith, ints))
beyond (negsuc n) = (0, omega (arith, ints))

-- with f the cost before, g the cost after and s the span sum
below_bound : (t : ℕ) (f g s bound : ℤ) → (f -ℤ bound) <ℤ pos t → s <ℤ pos 0 → g ≤ℤ (f +ℤ pos t *ℤ s) → g <ℤ bound
below_bound t f g s bound enough negative most =
    let falls = scale_mono t s (negsuc 0) (omega (arith, ints)) in
    omega (arith, ints)

-- with d the divergence before, e the divergence after and b what the steps bring
balanced : (t : ℕ) (d e b : ℤ) → e +ℤ pos t *ℤ b ≡ d → b ≡ pos 0 → d ≡ pos 0 → e ≡ pos 0
balanced t d e b round nothing before = let h = rw nothing at round in omega (arith, ints)

pub unbounded : UnboundedLaw
unbounded net x walk good flow there circuit bound =
    let enough = beyond (total_cost 1 net («at» x) -ℤ bound) in
    let t = enough.0 in
    let y = sent_round t walk x in
    let round = is_sent_round net t walk x good flow.one_each there circuit.counts flow.in_domains in
    let conserved : IsConserved net («at» y) = λ i l. (
    let still = balanced t (divergence net («at» x) i) (divergence net («at» y) i) (brought net i walk)
    (round.divergences i) (around net (mark_of i) walk circuit.circuit) (divergence-conserved net («at» x) flow.conserved i l) in
    omega (arith, ints)) in
    let below = below_bound t (total_cost 1 net («at» x)) (total_cost 1 net («at» y)) (span_sum net walk) bound enough.1 circuit.negative round.rises in
    (y, record { one_each = round.one_each; conserved = conserved; in_domains = round.in_domains }, below)
