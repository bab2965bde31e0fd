use Rattle.std.proofs.Common.{arith}
use Rattle.std.proofs.lemmas.Grind.{common_steps}
use Rattle.model_text.proofs.FixedNumbers.{pointed-short}
use Rattle.model_text.proofs.print.append_pointed.Goals as goal

pub returns-in_ok-extend_from_slice-3-clause-ok : goal.returns-in_ok-extend_from_slice-3-clause-ok
returns-in_ok-extend_from_slice-3-clause-ok c =
    rw (pointed-short c.args.decimals c.args.digits.now (omega arith) (omega arith)) (grind (arith, common_steps))
