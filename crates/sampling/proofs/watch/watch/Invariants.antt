use Rattle.std.proofs.Common.{◌≡◌, length}
use Rattle.sampling.specs.Watching.{Watched}
use Rattle.sampling.proofs.watch.watch.Given as goal

abbrev pub invariant-loop : goal.invariant-loop
invariant-loop g l =
    Watched g.S.Sampler l.fn.hold l.seen.items l.hold
    × (length l.seen.items ≡ l.counter)
