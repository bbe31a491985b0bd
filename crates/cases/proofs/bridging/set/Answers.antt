use Rattle.std.proofs.Common.{sym, ap, ◌∙◌}
use Rattle.sampling.specs.Rows.{Readings}
use Rattle.cases.proofs.bridging.set.Goals as goal

pub returns-in-Some-clause-next : goal.returns-in-Some-clause-next
returns-in-Some-clause-next c = ap (λ (f : Readings). f 0) c.put-set.ensures.next ∙ sym c.in-Some.is

pub returns-in-None-clause-next : goal.returns-in-None-clause-next
returns-in-None-clause-next c = ap (λ (f : Readings). f 0) c.clear-set.ensures.next ∙ sym c.in-None.is
