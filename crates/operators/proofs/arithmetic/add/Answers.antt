use Rattle.std.proofs.Common.{rules}
use Rattle.std.proofs.lemmas.Int.{wraps}
use Rattle.operators.proofs.Wide.{wrap_wrapped}
use Rattle.operators.proofs.arithmetic.add.Goals as goal

pub returns-in_default : goal.returns-in_default
returns-in_default c = search (rules, wraps, wrap_wrapped)
