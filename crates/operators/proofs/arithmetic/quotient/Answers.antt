use Rattle.std.proofs.Common.{◌≡◌, pos, ap, ◌∙◌, arith, rules}
use Rattle.std.proofs.lemmas.Int.{ints, wraps}
use Rattle.values.specs.Values.{type_of, num, wrap}
use Rattle.operators.proofs.Wide.{wrap_bits, quot_le, wrap_none}
use Rattle.operators.proofs.arithmetic.quotient.Goals as goal

pub returns-then-b-eq0 : goal.returns-then-b-eq0
returns-then-b-eq0 c =
    let zero : num c.args.b ≡ pos 0 = omega (arith, ints, c.number-b.ensures.value, c.if-b-eq0.true) in
    c.wrapped.ensures ∙ ap (λ t. wrap t (pos 0)) c.ty.ensures ∙ wrap_none (type_of c.args.a) (num c.args.a) (num c.args.b) zero

pub returns-else-b-eq0 : goal.returns-else-b-eq0
returns-else-b-eq0 c = search (rules, wraps, wrap_bits, quot_le)
