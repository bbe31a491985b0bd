use Rattle.std.proofs.Common.{refl, ◌∷◌, ◌++◌, [], arith}
use Rattle.std.proofs.lemmas.Result.{err_from_is_err_and}
use Rattle.sampling.proofs.Nesting.{laws}
use Rattle.sampling.proofs.Running.{watched_push, bridged}
use Rattle.sampling.proofs.watch.watch.Goals as goal

pub returns-in_err-see-clause-run : goal.returns-in_err-see-clause-run
returns-in_err-see-clause-run g c =
    let p = err_from_is_err_and c.from_residual.result c.from_residual.ensures.1 in
    rw (p.1, p.2) (c.loop.seen.items, c.loop.hold, omega (arith, c.loop.invariant.1, c.loop-test.true), c.loop.invariant.0, c.in_err-see.ensures)

pub returns-in_err-see-clause-laws : goal.returns-in_err-see-clause-laws
returns-in_err-see-clause-laws g c = laws g.S.Sampler

pub returns-in_err-push-clause-run : goal.returns-in_err-push-clause-run
returns-in_err-push-clause-run g c =
    let w = c.in_ok-see.field-0 in
    let p = err_from_is_err_and c.from_residual-in_err-push.result c.from_residual-in_err-push.ensures.1 in
    let more = watched_push g.S.Sampler c.args.hold.now c.loop.hold c.see.new.hold c.loop.seen.items (c.loop.seen.items ++ (w ∷ [])) w c.loop.counter refl c.loop.invariant c.in_ok-see.ensures in
    rw (p.1, p.2) (c.loop.seen.items ++ (w ∷ []), omega (arith, more.1, c.loop-test.true), more.0)

pub returns-in_err-push-clause-laws : goal.returns-in_err-push-clause-laws
returns-in_err-push-clause-laws g c = laws g.S.Sampler

pub loop-preserved : goal.loop-preserved
loop-preserved g c =
    watched_push g.S.Sampler c.args.hold.now c.loop.hold c.see.new.hold c.loop.seen.items c.push.new.self.items c.in_ok-see.field-0 c.loop.counter c.in_ok-push.ensures.items c.loop.invariant c.in_ok-see.ensures

pub returns-clause-bridged : goal.returns-clause-bridged
returns-clause-bridged g c = bridged g.S.Sampler c.args.hold.now c.loop.hold c.loop.seen.items c.loop.invariant.0

pub returns-clause-laws : goal.returns-clause-laws
returns-clause-laws g c = laws g.S.Sampler
