use Rattle.std.proofs.Common.{Ok, Err, sym, refl, ap, ◌∙◌}
use Rattle.std.proofs.lemmas.Result.{err_from_is_err_and}
use Rattle.syntax.specs.Parts.{result_to}
use Rattle.syntax.specs.Passing.{then}
use Rattle.traces.proofs.Turns.{row_is}
use Rattle.traces.proofs.reading.read_row.Goals as goal

pub returns-in_err-end-clause-value : goal.returns-in_err-end-clause-value
returns-in_err-end-clause-value c =
    let p = err_from_is_err_and c.from_residual.result c.from_residual.ensures.1 in
    rw (p.1, p.2) (refl, row_is c.args.reader.now.bytes.now c.args.reader.now.at _ c.in_err-end.ensures.value)

pub returns-in-Err-clause-value : goal.returns-in-Err-clause-value
returns-in-Err-clause-value c =
    let bs = c.args.reader.now.bytes.now in
    let end = c.in_ok-end.end in (
      refl,
      row_is bs c.args.reader.now.at _ c.in_ok-end.ensures.value ∙ ap (λ r. then (result_to bs end r) (λ cs. Ok (cs, end))) c.in-Err.ensures
          ∙ ap Err (sym c.lower_first.ensures),
    )

pub returns-clause-value : goal.returns-clause-value
returns-clause-value c =
    let bs = c.args.reader.now.bytes.now in
    let end = c.in_ok-end.end in
    let row = c.in-Ok.ensures in (
      refl,
      row.0,
      row_is bs c.args.reader.now.at _ c.in_ok-end.ensures.value ∙ ap (λ r. then (result_to bs end r) (λ cs. Ok (cs, end))) row.1,
      row.2,
    )
