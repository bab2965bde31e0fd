-- The zero-cost list of a curve: the last point lies above the first, since each point lies above the one before it.
use Rattle.std.proofs.Common.{ℤ, List, ◌∷◌}
use Rattle.theory.specs.declared.ext.Ext.{Ext}
use Rattle.theory.specs.Ends.{IsBelow}
use Rattle.theory.specs.CurveList.{last}
use Rattle.theory.specs.Views.{zero_cost_items}
use Rattle.theory.specs.ViewLaws.{ZeroCostLaw}
use Rattle.theory.proofs.Ends.{below_trans}
use Rattle.theory.proofs.Shape.{Rest, ends, goes_on, Shape, single, long, shape_by_place, place_of_shape}

-- what lies below a point lies below the last one
pub below_last : {s : ℤ} {m : Ext} {rest : List Ext} (l : Ext) → IsBelow l m → Rest s m rest → IsBelow l (last (m ∷ rest))
below_last l below ends = below
below_last {m = m} l below (goes_on {r = r} rises next more) = below_last l (below_trans l m r below next) more

zero_cost_shape : {items : List Ext} → Shape items → Shape (zero_cost_items items)
zero_cost_shape single = single
zero_cost_shape (long below more) = long (below_last _ below more) ends

pub zero_cost-is_list : ZeroCostLaw
zero_cost-is_list items list = place_of_shape (zero_cost_shape (shape_by_place items list))
