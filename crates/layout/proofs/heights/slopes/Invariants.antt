use Rattle.std.proofs.Common.{◌≡◌, take, fold, replicate}
use Rattle.layout.specs.Climbs.{steeper}
use Rattle.layout.proofs.heights.slopes.Given as goal

abbrev pub invariant-loop-edge : goal.invariant-loop-edge
invariant-loop-edge l = l.rows ≡ fold steeper (replicate 64 (replicate 64 0)) (take l.edge-index l.edge-items)
