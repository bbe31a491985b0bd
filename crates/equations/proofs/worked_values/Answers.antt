use Rattle.equations.proofs.Examples.{m2_repeats, m2_looks_ahead, calls_in_turn}
use Rattle.equations.proofs.worked_values.Goals as goal

pub returns : goal.returns
returns c = record { repeats = m2_repeats; ahead = m2_looks_ahead; alarms = calls_in_turn }
