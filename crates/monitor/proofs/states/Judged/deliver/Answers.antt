use Rattle.std.proofs.Common.{ap, ◌∙◌, subst, ◌<◌, length}
use Rattle.monitor.specs.States.{State, with_taken}
use Rattle.monitor.specs.Delivering.{first_alarm}
use Rattle.monitor.specs.Histories.{taken, with_fate}
use Rattle.monitor.proofs.Standing.{goes_on, is_first_due, stands_taken}
use Rattle.monitor.proofs.states.Judged.deliver.Goals as goal

pub returns-clause-day : goal.returns-clause-day
returns-clause-day g c h s =
    let t = c.args.table.now in
    let mem = c.args.rings.now in
    let m = c.args.self.now in
    let made = c.in_ok-offer_first.ensures in
    let some = subst (λ (n : State). 0 < length n.due) c.self.view_is made.some in
    let a = first_alarm t mem m in
    (is_first_due t h m mem s some, goes_on t (with_fate h (taken a)) (with_taken m) _ mem (made.went ∙ ap with_taken c.self.view_is) (stands_taken t h m mem s some))
