use Rattle.std.proofs.Common.{rules}
use Rattle.std.proofs.lemmas.Int.{wraps}
use Rattle.operators.proofs.Wide.{wrap_wrapped}
use Rattle.operators.proofs.arithmetic.subtract.Goals as goal

pub returns-in-default : goal.returns-in-default
returns-in-default c = search (rules, wraps, wrap_wrapped)
