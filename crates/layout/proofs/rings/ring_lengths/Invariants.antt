use Rattle.std.proofs.Common.{◌≡◌, take, replicate, fold}
use Rattle.layout.specs.Climbs.{topped}
use Rattle.layout.specs.Sizes.{span}
use Rattle.layout.proofs.rings.ring_lengths.Given as goal

abbrev pub invariant-loop-edge : goal.invariant-loop-edge
invariant-loop-edge l = l.lengths ≡ fold (topped (span l.leads)) (replicate 64 1) (take l.edge-index l.edge-items)
