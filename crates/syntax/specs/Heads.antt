-- The first bytes of an expression, before its operands. The list ends where the record ends. Assumes nothing.
use Rattle.std.specs.Prelude.{ℕ, ◌+◌, cond, List, Some, None, Ok, Err, Option, ◌==◌, nat_lt, slice_index}
use Rattle.faults.specs.Causes.{refusal}
use Rattle.faults.specs.declared.cause.Cause.TheVariants.{Malformed, Limit}
use Rattle.syntax.specs.declared.codes.Op.{Op}
use Rattle.syntax.specs.declared.codes.Op.TheVariants.{Constant, Channel, Stream, Unary, Cast, Binary, Choose}
use Rattle.syntax.specs.declared.tree.Node.{Node}
use Rattle.syntax.specs.declared.tree.Node.TheVariants as node
use Rattle.syntax.specs.Answers.{Found, then}
use Rattle.syntax.specs.Parts.{within, type_from, value_from}
use Rattle.syntax.specs.Codes.{op_coded}

-- what follows a code
abbrev pub after : List ℕ → ℕ → Op → Found Node
after bs at Constant = then (type_from bs (at + 1)) (λ t n. then (value_from bs t n) (λ v m. Ok (node.Constant v, m)))
after bs at Channel = within bs (at + 1) (Ok (node.Channel (slice_index bs (at + 1)), at + 2))
after bs at Stream =
    within bs (at + 1) (within bs (at + 2)
    (cond (nat_lt 63 (slice_index bs (at + 2))) (Err (refusal (Limit (at + 2)))) (Ok (node.Stream (slice_index bs (at + 1)) (slice_index bs (at + 2)), at + 3))))
after bs at (Unary o) = Ok (node.Unary o, at + 1)
after bs at Cast = then (type_from bs (at + 1)) (λ t n. Ok (node.Cast t, n))
after bs at (Binary o) = Ok (node.Binary o, at + 1)
after bs at Choose = Ok (node.Choose, at + 1)

-- the operator at a place, with so many levels left: an unknown code comes before a depth that is passed
abbrev pub at_level : ℕ → ℕ → Option Op → Found Op
at_level depth at None = Err (refusal (Malformed at))
at_level depth at (Some o) = cond (depth == 0) (Err (refusal (Limit at))) (Ok (o, at))

unfoldable pub head : ℕ → List ℕ → ℕ → Found Node
head depth bs at = within bs at (then (at_level depth at (op_coded (slice_index bs at))) (λ o n. after bs at o))
