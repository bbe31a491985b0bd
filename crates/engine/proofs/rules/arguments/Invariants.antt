use Rattle.std.proofs.Common.{◌≡◌, map, take}
use Rattle.syntax.specs.Trees.{exp}
use Rattle.alarms.specs.Arguments.{arguments}
use Rattle.engine.specs.Rings.{read_at}
use Rattle.engine.proofs.rules.arguments.Given as goal

abbrev pub invariant-loop-argument : goal.invariant-loop-argument
invariant-loop-argument l = arguments l.arguments ≡ map (λ e. read_at l.table l.rings l.tick (exp e)) (take l.argument-index l.argument-items)
