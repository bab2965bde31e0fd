-- What an arc or a step adds to a sum, and sums of such parts.
use Rattle.std.proofs.Common.{◌≡◌, ℕ, suc, ◌+◌, ◌<◌, ℤ, ◌+ℤ◌, Bool, Some, None, List, [], ◌∷◌, length, get_or, map, refl, sym, ◌∙◌, ap, add-one, arith}
use Rattle.std.proofs.lemmas.Int.{ints}
use Rattle.std.proofs.lemmas.List.{get_or-map}
use Rattle.theory.specs.declared.ext.Ext.{Ext}
use Rattle.theory.specs.declared.ext.Ext.TheVariants.{MinusInf, At, PlusInf}
use Rattle.theory.specs.declared.network.Step.{Step}
use Rattle.theory.specs.Sums.{sum_below, Each}
use Rattle.theory.specs.Ends.{IsFinite, whole}
use Rattle.theory.specs.CurveList.{Listing}
use Rattle.theory.specs.Network.{Network, curve, tail, head}
use Rattle.theory.specs.Cut.{holds, cut_end}
use Rattle.theory.specs.Circuit.{step, passing_end, span_end, span_sum}
use Rattle.net_incidence.specs.Graph.{Graph, network}
use Rattle.net_incidence.specs.PartOf.{part_of, crossing_end}
use Rattle.net_incidence.proofs.Divergence.{sum_over-places}

-- ---- one part

pub part-finite : (e : Ext) (z : ℤ) → Some z ≡ part_of e → IsFinite e
part-finite MinusInf z h = cc
part-finite (At a) z h = refl
part-finite PlusInf z h = cc

pub part-whole : (e : Ext) (z : ℤ) → Some z ≡ part_of e → z ≡ whole e
part-whole MinusInf z h = cc
part-whole (At a) z h = cc
part-whole PlusInf z h = cc

pub part-endless : (e : Ext) → None ≡ part_of e → IsFinite e → ⊥
part-endless MinusInf h finite = cc
part-endless (At a) h finite = cc
part-endless PlusInf h finite = cc

-- ---- the curve of an arc

pub curve-of : {C : Type 0} (listing : C → Listing) (g : Graph) (curves : List C) (c : C) (j : ℕ) → j < length curves → c ≡ get_or curves j c
    → listing c ≡ curve (network g (map listing curves)) j
curve-of listing g curves c j there found = ap listing found ∙ sym (get_or-map listing curves j c _ there)

pub crossing-at : (net : Network) (side : List Bool) (j : ℕ) (c : Listing) (at_tail at_head : Bool) → c ≡ curve net j
    → at_tail ≡ holds side (tail net j) → at_head ≡ holds side (head net j) → crossing_end c.items at_tail at_head ≡ cut_end net side j
crossing-at net side j c at_tail at_head is tail_is head_is = rw (is, tail_is, head_is) refl

pub passing-at : (net : Network) (s : Step) (c : Listing) → c ≡ curve net s.arc.0 → passing_end c.items s.forward ≡ span_end net s
passing-at net s c is = rw is refl

-- ---- sums over a walk

pub each-places : (P : Step → Type 0) (walk : List Step) → ((k : ℕ) → k < length walk → P (step walk k)) → Each P walk
each-places P [] h = tt
each-places P (s ∷ walk) h = (h 0 (omega arith), each-places P walk (λ k l. h (suc k) (omega arith)))

pub span_sum-places : (net : Network) (walk : List Step) → sum_below (length walk) (λ k. whole (span_end net (step walk k))) ≡ span_sum net walk
span_sum-places net walk = sym (sum_over-places (λ s. whole (span_end net s)) walk)

-- ---- one more term

pub sum_below-more : (n : ℕ) (f : ℕ → ℤ) (s z t : ℤ) → s ≡ sum_below n f → z ≡ f n → t ≡ s +ℤ z → t ≡ sum_below (n + 1) f
sum_below-more n f s z t before here total = rw add-one (omega (arith, ints))
