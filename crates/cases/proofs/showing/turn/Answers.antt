use Rattle.cases.proofs.Turns.{shows}
use Rattle.cases.proofs.showing.turn.Goals as goal

pub returns-clause-adds : goal.returns-clause-adds
returns-clause-adds c = λ x same typed holds. c.judge.ensures.holds x typed (c.store_samples.ensures.holds x same holds)

pub returns-clause-shows : goal.returns-clause-shows
returns-clause-shows c = shows c.args.table.now c.args.tick c.judge.new.rings c.args.stream c.newest.result c.newest.ensures.read c.newest.ensures.shows
