use Rattle.std.proofs.Common.{refl, arith, below_more, to_z-of_z}
use Rattle.std.proofs.lemmas.Bool.{false≢true}
use Rattle.theory.specs.CurveList.{first, last}
use Rattle.theory.specs.Ends.{IsBetween}
use Rattle.theory.proofs.Places.{on_curve_by_pieces, piece_on_curve}
use Rattle.mono_curve.proofs.pricing.on_curve.Goals as goal

pub loop-k-preserved : goal.loop-k-preserved
loop-k-preserved g c = below_more _ _ c.loop-k.invariant (c.fits_piece_at.ensures.0 c.if-not-fits_piece_at.false)

pub returns-then-not-fits_piece_at : goal.returns-then-not-fits_piece_at
returns-then-not-fits_piece_at g c =
    let list = g.met.C.Listed.is_list c.args.curve.now in
    let fits = rw (to_z-of_z c.ranges.x, to_z-of_z c.ranges.v) at c.fits_piece_at.ensures in
    (λ t. absurd (false≢true t), λ on. let yes = fits.1 (piece_on_curve (g.C.Listed.listing c.args.curve.now).items c.args.x c.args.v list on c.loop-k.k (omega arith)) in cc)

pub returns : goal.returns
returns g c =
    let list = g.met.C.Listed.is_list c.args.curve.now in
    let fits = rw (to_z-of_z c.ranges.x, to_z-of_z c.ranges.v) at c.loop-k.invariant in
    let inside : IsBetween 1 (first (g.C.Listed.listing c.args.curve.now).items) (last (g.C.Listed.listing c.args.curve.now).items) c.args.x = rw (to_z-of_z c.ranges.x, c.domain_of-low.ensures.low, c.domain_of-low.ensures.high) at (c.is_between.ensures.0 c.if-not-is_between.false) in
    (λ _. on_curve_by_pieces (g.C.Listed.listing c.args.curve.now).items c.args.x c.args.v list inside (λ k h. fits k (omega arith)), λ _. refl)
