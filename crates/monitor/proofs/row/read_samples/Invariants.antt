use Rattle.std.proofs.Common.{map}
use Rattle.tables.specs.Tables.{channels_of}
use Rattle.monitor.proofs.Reading.{Read}
use Rattle.monitor.proofs.row.read_samples.Given as goal

abbrev pub invariant-loop-channel : goal.invariant-loop-channel
invariant-loop-channel g l =
    let m = g.S.Sampler.meaning l.sampler in Read (map (λ c. c.ty) (channels_of l.table)) m.present m.dark l.channel l.row
