-- Flow sent along a walk, arc by arc and node by node. What a walk brings to a node doesn't depend on the curves, so it
-- is read off the theorem on flow that is sent round where every curve is the line without ends.
use Rattle.std.proofs.Common.{◌≡◌, ◌≢◌, ◌⊎◌, ℕ, zero, suc, ◌+◌, ◌<◌, ℤ, pos, ◌+ℤ◌, ◌*ℤ◌, Bool, true, false, List, [], ◌∷◌, length, map, drop, ◌^◌, FitsSigned, w64, refl, sym, ap, ◌∙◌, inl, inr, ⊎_elim, get_or-set_same, get_or-set_other, length-set, if◌then◌else◌, arith}
use Rattle.std.proofs.lemmas.Int.{ints}
use Rattle.std.proofs.lemmas.Bool.{cases_eq}
use Rattle.std.proofs.lemmas.List.{get_or-map}
use Rattle.theory.specs.declared.ext.Ext.TheVariants.{MinusInf, At, PlusInf}
use Rattle.theory.specs.declared.network.Arc.{Arc}
use Rattle.theory.specs.declared.network.Step.{Step}
use Rattle.theory.specs.Ends.{IsFinite}
use Rattle.theory.specs.CurveList.{Listing, IsCurveList}
use Rattle.theory.specs.Limits.{IsWithin}
use Rattle.theory.specs.Network.{Network, «at», curve}
use Rattle.theory.specs.Conserved.{divergence}
use Rattle.theory.specs.Circuit.{step, WalkIsThere, span_end}
use Rattle.theory.proofs.Shape.{place_of_shape, long, ends}
use Rattle.theory.proofs.Bounds.{within_sum, within_fits64}
use Rattle.theory.proofs.Unbounded.{brought, is_sent_round}
use Rattle.theory.specs.Sent.{sends, sent, sent_round}
use Rattle.net_incidence.specs.Graph.{Graph, bare, network}
use Rattle.feasible_flow.specs.UnderWay.{ArcsDiffer}
use Rattle.net_incidence.proofs.Networks.{net_is_network}
use Rattle.net_incidence.proofs.SumParts.{each-places}

-- ---- at the nodes

abbrev line : Listing
line = record { items = MinusInf ∷ At (pos 0) ∷ PlusInf ∷ []; base = pos 0 }

line-list : IsCurveList line.items
line-list = place_of_shape (long refl ends)

abbrev lined : Graph → Network
lined g = network g (map (λ (a : Arc). line) g.arcs)

lined-curve : (g : Graph) (j : ℕ) → j < length g.arcs → curve (lined g) j ≡ line
lined-curve g j there = get_or-map (λ (a : Arc). line) g.arcs j (record { from = record { 0 = 0 }; to = record { 0 = 0 } }) _ there

line-finite : (g : Graph) (s : Step) → s.arc.0 < length g.arcs → IsFinite (span_end (lined g) s)
line-finite g s there = rw (lined-curve g s.arc.0 there) (by_direction s.forward)
  where
    by_direction : (forward : Bool) → IsFinite (if forward then At (pos 0) else At (pos 0))
    by_direction true = refl
    by_direction false = refl

pub divergence-sent : (g : Graph) (t : ℕ) (walk : List Step) (x : List ℤ) → length x ≡ length g.arcs → WalkIsThere (bare g) walk → (i : ℕ)
    → divergence (bare g) («at» (sent_round t walk x)) i +ℤ pos t *ℤ brought (bare g) i walk ≡ divergence (bare g) («at» x) i
divergence-sent g t walk x one_each there i =
    (is_sent_round (lined g) t walk x
    (net_is_network (λ (a : Arc). line) (λ a. line-list) g g.arcs refl) one_each there
    (each-places (λ s. IsFinite (span_end (lined g) s)) walk (λ k l. line-finite g (step walk k) (there k l)))
    (λ j l. rw (lined-curve g j l) (record { least = tt; most = tt }))).divergences i

-- ---- on the arcs

pub length-sent : (t : ℕ) (walk : List Step) (x : List ℤ) → length (sent_round t walk x) ≡ length x
length-sent t [] x = refl
length-sent t (s ∷ walk) x = length-sent t walk (sent t s x) ∙ length-set x s.arc.0 («at» x s.arc.0 +ℤ sends t s.forward)

pub sent-elsewhere_one : (t : ℕ) (s : Step) (x : List ℤ) (j : ℕ) → j ≢ s.arc.0 → «at» (sent t s x) j ≡ «at» x j
sent-elsewhere_one t s x j apart = get_or-set_other x s.arc.0 j («at» x s.arc.0 +ℤ sends t s.forward) (pos 0) apart

pub sent-elsewhere : (t : ℕ) (walk : List Step) (x : List ℤ) (j : ℕ) → ((k : ℕ) → k < length walk → j ≢ (step walk k).arc.0)
    → «at» (sent_round t walk x) j ≡ «at» x j
sent-elsewhere t [] x j apart = refl
sent-elsewhere t (s ∷ walk) x j apart =
    sent-elsewhere t walk (sent t s x) j (λ k l. apart (suc k) (omega arith))
    ∙ sent-elsewhere_one t s x j (apart 0 (omega arith))

pub sent-here : (t : ℕ) (walk : List Step) (x : List ℤ) (k : ℕ) → ArcsDiffer walk → k < length walk → (step walk k).arc.0 < length x
    → «at» (sent_round t walk x) (step walk k).arc.0 ≡ «at» x (step walk k).arc.0 +ℤ sends t (step walk k).forward
sent-here t [] x k differ l there = absurd (omega arith)
sent-here t (s ∷ walk) x zero differ l there =
    sent-elsewhere t walk (sent t s x) s.arc.0 (λ k h. differ 0 (suc k) (omega arith) (omega arith))
    ∙ get_or-set_same x s.arc.0 («at» x s.arc.0 +ℤ sends t s.forward) (pos 0) there
sent-here t (s ∷ walk) x (suc k) differ l there =
    let same_length = length-set x s.arc.0 («at» x s.arc.0 +ℤ sends t s.forward) in
    let later = sent-here t walk (sent t s x) k (λ i h m n. differ (suc i) (suc h) (omega arith) (omega arith)) (omega arith)
    (omega (arith, same_length)) in
    let before = get_or-set_other x s.arc.0 (step walk k).arc.0 («at» x s.arc.0 +ℤ sends t s.forward) (pos 0)
    (λ same. differ 0 (suc k) (omega arith) l (sym same)) in
    later ∙ ap (λ z. z +ℤ sends t (step walk k).forward) before

-- whether a walk passes arc j
pub passes : (walk : List Step) (j : ℕ)
    → ((k : ℕ) × (k < length walk) × ((step walk k).arc.0 ≡ j)) ⊎ ((k : ℕ) → k < length walk → j ≢ (step walk k).arc.0)
passes [] j = inr (λ k l. absurd (omega arith))
passes (s ∷ walk) j =
    ⊎_elim
    (λ (here : s.arc.0 ≡ j). inl (0, omega arith, here))
    (λ (apart : s.arc.0 ≡ j → ⊥).
    ⊎_elim
    (λ (later : (k : ℕ) × (k < length walk) × ((step walk k).arc.0 ≡ j)). inl (suc later.0, omega (arith, later.1), later.2))
    (λ (none : (k : ℕ) → k < length walk → j ≢ (step walk k).arc.0). inr (elsewhere none apart))
    (passes walk j))
    (cases_eq s.arc.0 j)
  where
    elsewhere : ((k : ℕ) → k < length walk → j ≢ (step walk k).arc.0) → (s.arc.0 ≡ j → ⊥) → (k : ℕ) → k < length (s ∷ walk)
        → j ≢ (step (s ∷ walk) k).arc.0
    elsewhere none apart zero l same = apart (sym same)
    elsewhere none apart (suc k) l same = none k (omega arith) same

-- ---- one step after the other

pub sent-on : (t : ℕ) (walk : List Step) (k : ℕ) (x : List ℤ) (s : Step) → k < length walk → s ≡ step walk k
    → sent_round t (drop (k + 1) walk) (sent t s x) ≡ sent_round t (drop k walk) x
sent-on t [] k x s l is = absurd (omega arith)
sent-on t (w ∷ walk) zero x s l is = rw is refl
sent-on t (w ∷ walk) (suc k) x s l is =
    let e : suc k + 1 ≡ suc (k + 1) = omega arith in rw e (sent-on t walk k x s (omega arith) is)

sends-within : (t : ℕ) (forward : Bool) → IsWithin t (sends t forward)
sends-within t true = (omega (arith, ints), omega (arith, ints))
sends-within t false = (omega (arith, ints), omega (arith, ints))

pub sends-fits : (n t : ℕ) (z : ℤ) (forward : Bool) → IsWithin n z → n + t < 2 ^ 63 → FitsSigned w64 (z +ℤ sends t forward)
sends-fits n t z forward near small =
    within_fits64 (n + t) (z +ℤ sends t forward) (within_sum n t z (sends t forward) near (sends-within t forward)) small
