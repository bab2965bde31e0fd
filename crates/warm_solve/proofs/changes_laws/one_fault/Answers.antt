use Rattle.warm_solve.proofs.ChangesLaws as law
use Rattle.warm_solve.proofs.changes_laws.one_fault.Goals as goal

pub returns : goal.returns
returns c = law.one_fault
