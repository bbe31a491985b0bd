-- The worked cases, each by its lemma. Assumes nothing.
use Rattle.cases.proofs.One.{one_ahead, none_ahead}
use Rattle.cases.proofs.Two.{both_streams}
use Rattle.cases.proofs.Three.{two_ahead, three_ahead, four_ahead}
use Rattle.cases.proofs.worked_cases.Goals as goal

pub returns : goal.returns
returns c = record { answers = c.work_out.ensures; two = both_streams; two_ahead = two_ahead; three = three_ahead; four = four_ahead; one = one_ahead; none = none_ahead }
