-- A power of ten isn't 0.
use Rattle.std.proofs.Common.{arith}
use Rattle.std.proofs.Math.Nat.{one-le-pow}
use Rattle.model_text.proofs.rescaling.Decimals.units.Goals as goal

pub nonzero_div-units : goal.nonzero_div-units
nonzero_div-units c = let some = one-le-pow c.args.self.before 10 (omega arith) in grind (arith)

pub nonzero_rem-finest : goal.nonzero_rem-finest
nonzero_rem-finest c = let some = one-le-pow c.args.self.before 10 (omega arith) in grind (arith)
