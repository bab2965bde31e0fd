-- The laws of readings hold of every curve list: two are what a reading is, the others the theory's.
use Rattle.std.proofs.Common.{List}
use Rattle.theory.specs.declared.ext.Ext.{Ext}
use Rattle.theory.specs.CurveList.{IsCurveList}
use Rattle.theory.proofs.Pairs.{tension_of_flow, flow_of_tension}
use Rattle.theory.proofs.Fenchel.{pairs_rise}
use Rattle.theory.specs.ReadingLaws.{SlopesLaw, RangeLaw, PairsRise, FlowsHaveTensions, TensionsHaveFlows}

pub slopes_law : (items : List Ext) → SlopesLaw items
slopes_law items x v low high slopes = slopes.pairs v

pub range_law : (items : List Ext) → RangeLaw items
range_law items v x low high range = range.pairs x

pub rise_law : (items : List Ext) → IsCurveList items → PairsRise items
rise_law items list q x v y w here there above = pairs_rise q items x v y w list here there above

pub tensions_law : (items : List Ext) → IsCurveList items → FlowsHaveTensions items
tensions_law items list x inside = tension_of_flow items x list inside

pub flows_law : (items : List Ext) → IsCurveList items → TensionsHaveFlows items
flows_law items list v inside = flow_of_tension items v list inside
