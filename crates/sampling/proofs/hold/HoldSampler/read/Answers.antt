use Rattle.std.proofs.lemmas.Result.{err_from_is_err_and}
use Rattle.sampling.proofs.Answering.{ok_or_err, ok_or_ok}
use Rattle.sampling.proofs.hold.HoldSampler.read.Goals as goal

pub returns-in_err-look : goal.returns-in_err-look
returns-in_err-look g c =
    let p = err_from_is_err_and c.from_residual.result c.from_residual.ensures.1 in
    rw (p.1, p.2) (ok_or_err (λ u. u.fault) _ _ _ c.look.result c.look.ensures c.in_err-look.was)

pub returns : goal.returns
returns g c = ok_or_ok _ _ _ _ c.look.result c.look.ensures c.in_ok-look.was
