use Rattle.std.proofs.Common.{arith}
use Rattle.theory.proofs.Places.{last_at}
use Rattle.theory.proofs.pricing.domain_of.Goals as goal

pub returns-clause-high : goal.returns-clause-high
returns-clause-high c = last_at c.args.items.now _ (omega (arith, c.requires.odd))
