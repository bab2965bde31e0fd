use Rattle.path_cut.proofs.FlowBound as law
use Rattle.path_cut.proofs.laws.flow_cut.Goals as goal

pub returns : goal.returns
returns c = law.flow-cut
