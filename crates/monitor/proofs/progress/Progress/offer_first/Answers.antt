use Rattle.std.proofs.Common.{All, ◌<◌, ap, arith, sym, subst}
use Rattle.monitor.proofs.Known.{rules_counted, rest_all}
use Rattle.monitor.proofs.progress.Progress.offer_first.Goals as goal

pub make_alarm-alarm-requires-clause-known : goal.make_alarm-alarm-requires-clause-known
make_alarm-alarm-requires-clause-known g c =
    let known = c.in_ok-rule.ensures.known in
    let same = ap (λ n. n.records.rules) c.in_ok-fit.ensures.same in
    let counted = rules_counted c.args.table.now in
    omega (arith, known, same, counted)

pub invariant_of-self-clause-known : goal.invariant_of-self-clause-known
invariant_of-self-clause-known g c =
    let due = c.args.self.now in
    subst (λ xs. All (λ k. k < due.opened.records.rules) xs) (sym c.remove.ensures.items) (rest_all (λ k. k < due.opened.records.rules) due.due.items due.known)
