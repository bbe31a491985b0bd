use Rattle.std.proofs.Common.{map, take}
use Rattle.syntax.specs.Entries.{entry_of}
use Rattle.typing.specs.Scopes.{ScopeOf}
use Rattle.typing.proofs.scope.Scope.new.Given as goal

abbrev pub invariant-loop-r : goal.invariant-loop-r
invariant-loop-r l = ScopeOf l.scope (map entry_of (take l.r-index l.records))
