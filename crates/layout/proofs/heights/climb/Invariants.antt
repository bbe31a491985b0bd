use Rattle.std.proofs.Common.{◌≡◌, take, fold}
use Rattle.layout.specs.Climbs.{height_over, topped}
use Rattle.layout.proofs.heights.climb.Given as goal

abbrev pub invariant-loop-edge : goal.invariant-loop-edge
invariant-loop-edge l = l.to ≡ fold (topped (height_over l.from)) l.from (take l.edge-index l.edge-items)
