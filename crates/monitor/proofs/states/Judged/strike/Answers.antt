use Rattle.std.proofs.Common.{ap, ◌∙◌, subst, ◌<◌, length}
use Rattle.monitor.specs.States.{State, with_struck}
use Rattle.monitor.specs.Delivering.{first_alarm}
use Rattle.monitor.specs.Histories.{struck, with_fate}
use Rattle.monitor.proofs.Standing.{goes_on, is_first_due, stands_struck}
use Rattle.monitor.proofs.states.Judged.strike.Goals as goal

pub returns-clause-day : goal.returns-clause-day
returns-clause-day c t h mem s =
    let m = c.args.self.now in
    let made = c.in_ok-strike_first.ensures in
    let some = subst (λ (n : State). 0 < length n.due) c.self.view_is made.some in
    let a = first_alarm t mem m in
    (a, is_first_due t h m mem s some, goes_on t (with_fate h (struck a)) (with_struck m) _ mem (made.went ∙ ap with_struck c.self.view_is) (stands_struck t h m mem s some))
