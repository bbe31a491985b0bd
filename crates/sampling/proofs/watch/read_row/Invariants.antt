use Rattle.sampling.specs.Rows.{readings}
use Rattle.sampling.proofs.Filling.{Filled}
use Rattle.sampling.proofs.watch.read_row.Given as goal

abbrev pub invariant-loop-channel : goal.invariant-loop-channel
invariant-loop-channel g l = Filled ((g.S.Sampler.meaning l.fn.sampler).present) l.channel (readings l.row)
