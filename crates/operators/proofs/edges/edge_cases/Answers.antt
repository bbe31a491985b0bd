use Rattle.operators.proofs.Division.{divides}
use Rattle.operators.proofs.edges.edge_cases.Goals as goal

pub returns-clause-division : goal.returns-clause-division
returns-clause-division c = divides
