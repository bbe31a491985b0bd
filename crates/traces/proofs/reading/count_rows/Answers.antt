use Rattle.std.proofs.Common.{◌-◌, ◌<◌, ◌≤◌, [], ◌∷◌, ◌++◌, length, sym, refl, ap, ◌∙◌, subst, arith}
use Rattle.std.proofs.lemmas.List.{length-append}
use Rattle.std.proofs.lemmas.Result.{err_from_is_err_and}
use Rattle.traces.specs.Reading.{row_from, rows}
use Rattle.traces.proofs.Turns.{onto_none, whole_more, whole_err, whole_end, rows_turn, rows_end}
use Rattle.traces.proofs.reading.count_rows.Goals as goal

pub loop-reader-init : goal.loop-reader-init
loop-reader-init c =
    let bs = c.args.reader.now.bytes.now in
    record {
      same = refl;
      onward = omega arith;
      read = [];
      counted = refl;
      turns = length bs;
      enough = omega arith;
      so_far = onto_none (rows (length bs) bs c.args.reader.now.at);
    }

pub returns-in_err-read_row : goal.returns-in_err-read_row
returns-in_err-read_row c =
    let inv = c.loop-reader.invariant in
    let bs = c.args.reader.now.bytes.now in
    let at = c.loop-reader.reader.at in
    let f = inv.turns in
    let more : at < length bs = subst (λ b. at < length b) inv.same c.loop-reader-test.true in
    let some : 0 < f = omega (arith, inv.enough, more) in
    let p = err_from_is_err_and c.from_residual.result c.from_residual.ensures.1 in
    let e = ap (λ b. row_from b at) (sym inv.same) ∙ c.in_err-read_row.ensures.value.1 in
    rw (p.1, p.2) (whole_err bs at (row_from bs at) (rows (f - 1) bs) _ inv.read _ inv.so_far (rows_turn bs at f some) _ more e)

pub loop-reader-preserved : goal.loop-reader-preserved
loop-reader-preserved c =
    let inv = c.loop-reader.invariant in
    let found = c.in_ok-read_row.ensures.value in
    let on = c.in_ok-read_row.ensures.onward in
    let bs = c.args.reader.now.bytes.now in
    let at = c.loop-reader.reader.at in
    let n = c.read_row.new.reader.at in
    let f = inv.turns in
    let row = found.1 in
    let more : at < length bs = subst (λ b. at < length b) inv.same c.loop-reader-test.true in
    let some : 0 < f = omega (arith, inv.enough, more) in
    let e = ap (λ b. row_from b at) (sym inv.same) ∙ found.2 in
    record {
      same = found.0 ∙ inv.same;
      onward = omega (arith, inv.onward, on);
      read = inv.read ++ (row ∷ []);
      counted = omega (arith, length-append inv.read (row ∷ []), inv.counted);
      turns = f - 1;
      enough = omega (arith, inv.enough, on, some);
      so_far = whole_more bs at (row_from bs at) (rows (f - 1) bs) _ inv.read _ inv.so_far (rows_turn bs at f some) row n more e;
    }

pub returns : goal.returns
returns c =
    let inv = c.loop-reader.invariant in
    let bs = c.args.reader.now.bytes.now in
    let at = c.loop-reader.reader.at in
    let past : length bs ≤ at = subst (λ b. length b ≤ at) inv.same c.loop-reader-test.false in
    (inv.read, whole_end _ inv.read _ inv.so_far (rows_end bs at inv.turns past), sym inv.counted)
