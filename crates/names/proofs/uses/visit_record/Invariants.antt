use Rattle.std.proofs.Common.{Result, map, drop}
use Rattle.syntax.specs.Entries.{entry_of}
use Rattle.syntax.specs.Trees.{exp}
use Rattle.names.specs.Uses.{uses, uses_of, gathered}
use Rattle.names.proofs.uses.visit_record.Given as goal

-- what visiting the arguments that are left comes to, visiting the record comes to
abbrev pub invariant-loop-e : goal.invariant-loop-e
invariant-loop-e g l =
    (r : Result (Unit {0}) _) (t : _) → g.V.Visitor.visits l.visitor (gathered uses (map exp (drop l.e-index l.e-items))) r t
    → g.V.Visitor.visits l.fn.visitor (uses_of (entry_of l.r)) r t
