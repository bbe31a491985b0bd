use Rattle.rings.proofs.Tables.{laws}
use Rattle.rings.proofs.laws.Goals as goal

pub returns : goal.returns
returns c = laws
