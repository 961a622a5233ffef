use Rattle.b2_flow.proofs.Variables.{equal_variables, same_variable}
use Rattle.b2_flow.proofs.laws.variables_are_told_apart.Goals as goal

pub returns : goal.returns
returns c = record { equal = equal_variables; same = same_variable }
