use Rattle.std.proofs.Common.{◌∙◌, [], ◌∷◌, ap}
use Rattle.theory.specs.declared.ext.Ext.TheVariants.{At}
use Rattle.theory.specs.Grounded.{NodeEntry}
use Rattle.trial_model.specs.Trial.{listed}
use Rattle.trial_model.proofs.TrialLaws.{first_node, first_name, first_state, first_supply}
use Rattle.trial_model.proofs.trial_laws.first_node_of_one.Goals as goal

pub returns-clause-state : goal.returns-clause-state
returns-clause-state c = first_state

pub returns-clause-name : goal.returns-clause-name
returns-clause-name c = ap (λ (n : NodeEntry). n.name) (first_node 1) ∙ first_name

pub returns-clause-supply : goal.returns-clause-supply
returns-clause-supply c = ap (λ (n : NodeEntry). n.supply) (first_node 1) ∙ ap (λ z. listed (At z ∷ [])) first_supply
