use Rattle.std.proofs.Common.{rules}
use Rattle.std.proofs.lemmas.Int.{wraps}
use Rattle.std.specs.Int.{int_wrap}
use Rattle.operators.proofs.Wide.{wrap_wrapped}
use Rattle.operators.proofs.arithmetic.multiply.Goals as goal

pub returns-in_default : goal.returns-in_default
returns-in_default c = search (rules, wraps, wrap_wrapped)

pub returns-in-Int8-Int8 : goal.returns-in-Int8-Int8
unfolding int_wrap
returns-in-Int8-Int8 c = search (rules, wraps)

pub returns-in-Int16-Int16 : goal.returns-in-Int16-Int16
unfolding int_wrap
returns-in-Int16-Int16 c = search (rules, wraps)

pub returns-in-Int32-Int32 : goal.returns-in-Int32-Int32
unfolding int_wrap
returns-in-Int32-Int32 c = search (rules, wraps)

pub returns-in-Int64-Int64 : goal.returns-in-Int64-Int64
unfolding int_wrap
returns-in-Int64-Int64 c = search (rules, wraps)
