-- Fenchel's inequality at a whole flow or a whole tension: at the fraction q x over q, with q cancelled.
use Rattle.std.proofs.Common.{ℕ, ℤ, pos, ◌+ℤ◌, ◌≤ℤ◌, arith}
use Rattle.std.specs.Prelude.{◌*ℤ◌}
use Rattle.std.proofs.lemmas.Int.{ints}
use Rattle.theory.specs.declared.ext.Ext.{Ext}
use Rattle.theory.specs.declared.ext.Ext.TheVariants.{MinusInf, At, PlusInf}
use Rattle.theory.specs.Ends.{IsAtLeast, IsAtMost, IsBetween}
use Rattle.theory.specs.Cost.{cost}
use Rattle.theory.specs.ConjugateCost.{conjugate_cost}
use Rattle.theory.specs.CurveLaws.{WholeFlowLaw, WholeTensionLaw}
use Rattle.theory.proofs.Rings.{rings, scale_mono, scale_cancel}
use Rattle.theory.proofs.Scaling.{cost-scale, conjugate_cost-scale}
use Rattle.theory.proofs.Fenchel.{fenchel}

least-scale : (q : ℕ) (e : Ext) (x : ℤ) → IsAtLeast 1 e x → IsAtLeast q e (pos q *ℤ x)
least-scale q MinusInf x h = tt
least-scale q (At a) x h = scale_mono q a x (omega (arith, ints))
least-scale q PlusInf x h = tt

most-scale : (q : ℕ) (e : Ext) (x : ℤ) → IsAtMost 1 e x → IsAtMost q e (pos q *ℤ x)
most-scale q MinusInf x h = tt
most-scale q (At b) x h = scale_mono q x b (omega (arith, ints))
most-scale q PlusInf x h = tt

-- a whole number between two ends is between them as a fraction
pub between-scale : (q : ℕ) (low high : Ext) (x : ℤ) → IsBetween 1 low high x → IsBetween q low high (pos q *ℤ x)
between-scale q low high x within = record { least = least-scale q low x within.least; most = most-scale q high x within.most }

flow_out : (q x w f h : ℤ) → ((q *ℤ x) *ℤ w) ≤ℤ (q *ℤ (q *ℤ f) +ℤ q *ℤ h) → (q *ℤ (x *ℤ w)) ≤ℤ (q *ℤ (q *ℤ f +ℤ h))
flow_out q x w f h least = omega (arith, rings)

pub whole_flow : WholeFlowLaw
whole_flow q c x w positive list in_x in_w =
    let least = fenchel q c (pos q *ℤ x) w list (between-scale q _ _ x in_x) in_w in
    let spread = rw (cost-scale q c x) at least in
    scale_cancel q (x *ℤ w) (pos q *ℤ cost 1 c x +ℤ conjugate_cost q c w) positive (flow_out (pos q) x w (cost 1 c x) (conjugate_cost q c w) spread)

tension_out : (q p v f h : ℤ) → (p *ℤ (q *ℤ v)) ≤ℤ (q *ℤ f +ℤ q *ℤ (q *ℤ h)) → (q *ℤ (p *ℤ v)) ≤ℤ (q *ℤ (f +ℤ q *ℤ h))
tension_out q p v f h least = omega (arith, rings)

pub whole_tension : WholeTensionLaw
whole_tension q c p v positive list in_p in_v =
    let least = fenchel q c p (pos q *ℤ v) list in_p (between-scale q _ _ v in_v) in
    let spread = rw (conjugate_cost-scale q c v) at least in
    scale_cancel q (p *ℤ v) (cost q c p +ℤ pos q *ℤ conjugate_cost 1 c v) positive (tension_out (pos q) p v (cost q c p) (conjugate_cost 1 c v) spread)
