use Rattle.std.proofs.Common.{◌+◌, ◌*◌}
use Rattle.syntax.proofs.reader.Reader.+read_expression.Given as goal

abbrev pub decreases-read_operand : goal.decreases-read_operand
decreases-read_operand l = l.depth * 2 + 1

abbrev pub decreases-read_expression : goal.decreases-read_expression
decreases-read_expression l = l.depth * 2
