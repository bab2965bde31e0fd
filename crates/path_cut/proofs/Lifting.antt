-- Potentials lifted outside a set of nodes. A tension changes on the arcs that cross the set alone: it rises on those that leave it and
-- falls on those that enter it. So an open cut lets the potential rise without end.
use Rattle.std.proofs.Common.{◌≡◌, ℕ, zero, suc, ◌+◌, ◌<◌, ℤ, pos, ◌+ℤ◌, ◌-ℤ◌, Bool, true, false, List, [], ◌∷◌, length, refl, arith}
use Rattle.std.proofs.lemmas.Int.{ints, clamps}
use Rattle.theory.specs.declared.ext.Ext.{Ext}
use Rattle.theory.specs.declared.ext.Ext.TheVariants.{MinusInf, PlusInf}
use Rattle.theory.specs.Sums.{positive_part}
use Rattle.theory.specs.Span.{InSpan, span_low, span_high}
use Rattle.theory.specs.Network.{Network, IsNetwork, «at», tail, head, curve}
use Rattle.theory.specs.Conserved.{tension}
use Rattle.theory.specs.Feasible.{IsFeasiblePotential}
use Rattle.theory.specs.Cut.{holds}
use Rattle.feasible_flow.proofs.OneArc.{positive_part-is}
use Rattle.path_cut.specs.GreatestTension.{rise}
use Rattle.path_cut.specs.TensionLaws.{OpenCutLaw}
use Rattle.path_cut.specs.Lifting.{lift, lifted, HasSlack}
use Rattle.path_cut.proofs.Ends.{least_on, most_on}

-- ---- one arc

lifted-span : (items : List Ext) (t : ℕ) (v : ℤ) (at_tail at_head : Bool) → HasSlack items v at_tail at_head t → InSpan 1 items v
    → InSpan 1 items ((v +ℤ lift t at_head) -ℤ lift t at_tail)
lifted-span items t v true true slack within = record {
  least = least_on (span_low items) v _ (omega (arith, ints)) within.least;
  most = most_on (span_high items) v _ (omega (arith, ints)) within.most;
}
lifted-span items t v true false slack within = record {
  least = least_on (span_low items) v _ (omega (arith, ints)) within.least;
  most = most_on (span_high items) (v +ℤ pos t) _ (omega (arith, ints)) slack;
}
lifted-span items t v false true slack within = record {
  least = least_on (span_low items) (v -ℤ pos t) _ (omega (arith, ints)) slack;
  most = most_on (span_high items) v _ (omega (arith, ints)) within.most;
}
lifted-span items t v false false slack within = record {
  least = least_on (span_low items) v _ (omega (arith, ints)) within.least;
  most = most_on (span_high items) v _ (omega (arith, ints)) within.most;
}

-- ---- all arcs

-- the tension of a lifted potential, with u the potentials of the ends before
lifted-tension : (tail_u head_u at_tail at_head ground : ℤ)
    → ((head_u +ℤ at_head) -ℤ ground) -ℤ ((tail_u +ℤ at_tail) -ℤ ground) ≡ ((head_u -ℤ tail_u) +ℤ at_head) -ℤ at_tail
lifted-tension tail_u head_u at_tail at_head ground = omega (arith, ints)

pub record IsLifted (net : Network) (t : ℕ) (side : List Bool) (u w : List ℤ) : Type 0 where
  pub one_each : length w ≡ net.nodes
  pub lifts : (i : ℕ) → i < net.nodes → «at» w i ≡ lifted t side u i

pub tension-lifted : (net : Network) (t : ℕ) (side : List Bool) (u w : List ℤ) (j : ℕ) → IsNetwork net → IsLifted net t side u w
    → j < length net.arcs
    → tension net («at» w) j ≡ (tension net («at» u) j +ℤ lift t (holds side (head net j))) -ℤ lift t (holds side (tail net j))
tension-lifted net t side u w j good is l =
    let at_head = is.lifts (head net j) (good.heads j l) in
    let at_tail = is.lifts (tail net j) (good.tails j l) in
    let e = lifted-tension («at» u (tail net j)) («at» u (head net j)) (lift t (holds side (tail net j))) (lift t (holds side (head net j)))
    (lift t (holds side 0)) in
    rw (at_head, at_tail) e

pub lifted-feasible : (net : Network) (t : ℕ) (side : List Bool) (u w : List ℤ) → IsNetwork net → 0 < net.nodes → IsLifted net t side u w
    → IsFeasiblePotential 1 net u
    → ((j : ℕ) → j < length net.arcs → HasSlack (curve net j).items (tension net («at» u) j) (holds side (tail net j)) (holds side (head net j)) t)
    → IsFeasiblePotential 1 net w
lifted-feasible net t side u w good some is potential slack = record {
  one_each = is.one_each;
  ground = (let g = is.lifts 0 some in let e = potential.ground in omega (arith, ints));
  in_spans = λ j l.
      rw (tension-lifted net t side u w j good is l)
      (lifted-span (curve net j).items t (tension net («at» u) j) (holds side (tail net j)) (holds side (head net j)) (slack j l)
      (potential.in_spans j l));
}

-- ---- a list of numbers by their places

tabulated : ℕ → (ℕ → ℤ) → List ℤ
tabulated zero f = []
tabulated (suc n) f = f 0 ∷ tabulated n (λ k. f (suc k))

length-tabulated : (n : ℕ) (f : ℕ → ℤ) → length (tabulated n f) ≡ n
unfolding tabulated
length-tabulated zero f = refl
length-tabulated (suc n) f = let rest = length-tabulated n (λ k. f (suc k)) in omega arith

at-tabulated : (n i : ℕ) (f : ℕ → ℤ) → i < n → «at» (tabulated n f) i ≡ f i
unfolding tabulated
at-tabulated zero i f l = absurd (omega arith)
at-tabulated (suc n) zero f l = refl
at-tabulated (suc n) (suc i) f l = at-tabulated n i (λ k. f (suc k)) (omega arith)

-- ---- an open cut

open-slack : (items : List Ext) (v : ℤ) (at_tail at_head : Bool) (t : ℕ)
    → (at_tail ≡ true → at_head ≡ false → span_high items ≡ PlusInf) → (at_tail ≡ false → at_head ≡ true → span_low items ≡ MinusInf)
    → HasSlack items v at_tail at_head t
open-slack items v true true t leaving entering = tt
open-slack items v true false t leaving entering = rw (leaving refl refl) tt
open-slack items v false true t leaving entering = rw (entering refl refl) tt
open-slack items v false false t leaving entering = tt

lifts-apart : (t : ℕ) (from to : Bool) → from ≡ true → to ≡ false → lift t to -ℤ lift t from ≡ pos t
lifts-apart t from to held lacked = rw (held, lacked) (omega (arith, ints))

pub open-cut : OpenCutLaw
open-cut net side from to u good from_there to_there potential opens bound =
    let t : ℕ = positive_part (bound -ℤ rise u from to) + 1 in
    let w : List ℤ = tabulated net.nodes (lifted t side u) in
    let is : IsLifted net t side u w =
    record { one_each = length-tabulated net.nodes (lifted t side u); lifts = λ i l. at-tabulated net.nodes i (lifted t side u) l } in
    let feasible = lifted-feasible net t side u w good (omega arith) is potential
    (λ j l. open-slack (curve net j).items _ (holds side (tail net j)) (holds side (head net j)) t (opens.leaving j l) (opens.entering j l)) in
    let at_from = is.lifts from from_there in
    let at_to = is.lifts to to_there in
    let p = positive_part-is (bound -ℤ rise u from to) in
    let more = lifts-apart t (holds side from) (holds side to) opens.holds_from opens.lacks_to in
    (w, feasible, omega (arith, ints, clamps))
