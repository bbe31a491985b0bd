use Rattle.std.proofs.Common.{◌≡◌, take, fold}
use Rattle.search.specs.Rows.{extended, nothing}
use Rattle.search.proofs.row.step.Given as goal

abbrev pub invariant-loop-edge : goal.invariant-loop-edge
invariant-loop-edge l = l.to ≡ fold (extended l.from) nothing (take l.edge-index l.edge-items)
