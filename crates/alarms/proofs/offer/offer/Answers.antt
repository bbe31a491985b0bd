use Rattle.std.proofs.Common.{take, sym, ap, subst, is_ok}
use Rattle.std.proofs.lemmas.List.{take_more}
use Rattle.alarms.specs.Offers.{Ran}
use Rattle.alarms.specs.Sinks.{TookAll}
use Rattle.alarms.proofs.Offering.{ran_more, took_more, takes_all, quotas}
use Rattle.alarms.proofs.offer.offer.Goals as goal

pub returns-in-Err-clause-quotas : goal.returns-in-Err-clause-quotas
returns-in-Err-clause-quotas g c = quotas g.K.Sink

pub loop-taken-preserved : goal.loop-taken-preserved
loop-taken-preserved g c =
    let s = g.K.Sink in
    let start = c.args.sink.now in
    let xs = c.args.alarms.now in
    let i = c.loop-taken.taken in
    let before = c.loop-taken.invariant in
    let more = take_more xs i _ c.loop-taken-test.true in (
      subst (λ ys. Ran s start ys c.take.new.self) (sym more)
          (ran_more s start c.loop-taken.sink c.take.new.self (take i xs) _ before.0 (c.take.ensures.moved (ap is_ok c.in_default.is))),
      subst (λ ys. TookAll s.adds ys (s.view start) (s.view c.take.new.self)) (sym more)
          (took_more s.adds (s.view start) (s.view c.loop-taken.sink) (s.view c.take.new.self) (take i xs) _ before.1 c.in_default.ensures.view),
    )

pub returns-clause-run : goal.returns-clause-run
returns-clause-run g c =
    let i = c.loop-taken.invariant in
    takes_all g.K.Sink c.args.sink.now c.loop-taken.sink c.args.alarms.now c.loop-taken.taken c.loop-taken-test.false c.loop-taken.auto.taken-end i.0 i.1

pub returns-clause-quotas : goal.returns-clause-quotas
returns-clause-quotas g c = quotas g.K.Sink
