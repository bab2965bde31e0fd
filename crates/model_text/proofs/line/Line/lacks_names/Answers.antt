use Rattle.std.proofs.Common.{arith}
use Rattle.std.proofs.lemmas.Bool.Decides.{nat_tests}
use Rattle.model_text.proofs.LineLemmas.{lacks_names-is}
use Rattle.model_text.proofs.line.Line.lacks_names.Goals as goal

pub returns-then-self-names_wanted : goal.returns-then-self-names_wanted
returns-then-self-names_wanted c = let is = lacks_names-is c.args.self.now.names.now c.args.self.now.parts in grind (arith, nat_tests)

pub returns-else-self-names_wanted : goal.returns-else-self-names_wanted
returns-else-self-names_wanted c = let is = lacks_names-is c.args.self.now.names.now c.args.self.now.parts in grind (arith, nat_tests)
