use Rattle.theory.proofs.Whole.{whole_flow}
use Rattle.theory.proofs.curve_laws.whole_flow.Goals as goal

pub returns : goal.returns
returns c = whole_flow
