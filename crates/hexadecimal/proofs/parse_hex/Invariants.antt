use Rattle.std.proofs.Common.{vec_items}
use Rattle.hexadecimal.proofs.Steps.{Read}
use Rattle.hexadecimal.proofs.parse_hex.Given as goal

abbrev pub invariant-loop-pair : goal.invariant-loop-pair
invariant-loop-pair l = Read l.text (vec_items l.bytes) l.pair-index
