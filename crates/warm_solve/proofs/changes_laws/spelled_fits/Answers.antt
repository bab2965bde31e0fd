use Rattle.warm_solve.proofs.ChangesLaws as law
use Rattle.warm_solve.proofs.changes_laws.spelled_fits.Goals as goal

pub returns : goal.returns
returns c = law.spelled_fits
