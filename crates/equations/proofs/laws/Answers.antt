use Rattle.equations.proofs.Sounding.{exactly_one, at_most_one, on_the_past}
use Rattle.equations.proofs.laws.Goals as goal

pub returns : goal.returns
returns c = record { one = exactly_one; most = at_most_one; past = on_the_past }
