use Rattle.theory.proofs.Pairs.{tension_of_flow}
use Rattle.theory.proofs.curve_laws.tension_of_flow.Goals as goal

pub returns : goal.returns
returns c = tension_of_flow
