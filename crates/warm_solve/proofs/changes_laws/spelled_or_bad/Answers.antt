use Rattle.warm_solve.proofs.ChangesLaws as law
use Rattle.warm_solve.proofs.changes_laws.spelled_or_bad.Goals as goal

pub returns : goal.returns
returns c = law.spelled_or_bad
