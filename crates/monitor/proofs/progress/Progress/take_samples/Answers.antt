use Rattle.std.proofs.Common.{subst, OnOk}
use Rattle.tables.specs.Tables.{records_of}
use Rattle.monitor.specs.Samples.{TypedRow}
use Rattle.monitor.proofs.progress.Progress.take_samples.Goals as goal

pub returns-clause-typed : goal.returns-clause-typed
returns-clause-typed g c =
    subst (λ row. OnOk c.read_samples.result (TypedRow (records_of c.args.table.now) row)) c.in_ok-latch.ensures.shows c.read_samples.ensures.typed
