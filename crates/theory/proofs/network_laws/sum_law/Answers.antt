use Rattle.theory.proofs.SumLaw as law
use Rattle.theory.proofs.network_laws.sum_law.Goals as goal

pub returns : goal.returns
returns c = law.sum_law
