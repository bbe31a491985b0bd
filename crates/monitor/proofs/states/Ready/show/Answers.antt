use Rattle.monitor.proofs.Standing.{shows}
use Rattle.monitor.proofs.states.Ready.show.Goals as goal

pub returns-clause-day : goal.returns-clause-day
returns-clause-day c h s =
    let made = c.in_ok-find_newest.ensures in
    shows c.args.table.now h c.args.self.now c.args.rings.now c.args.stream c.in_ok-find_newest.field-0 s made.known made.shown.index made.shown.value
