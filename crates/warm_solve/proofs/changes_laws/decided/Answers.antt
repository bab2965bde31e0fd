use Rattle.warm_solve.proofs.ChangesLaws as law
use Rattle.warm_solve.proofs.changes_laws.decided.Goals as goal

pub returns : goal.returns
returns c = law.decided
