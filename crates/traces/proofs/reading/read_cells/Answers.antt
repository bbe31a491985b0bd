use Rattle.std.proofs.Common.{◌≡◌, ℕ, ◌+◌, ◌-◌, ◌<◌, ◌≤◌, List, [], ◌∷◌, ◌++◌, length, Ok, Result, sym, refl, ap, ◌∙◌, subst, arith}
use Rattle.std.proofs.lemmas.List.{length-append}
use Rattle.std.proofs.lemmas.Result.{err_from_is_err_and}
use Rattle.faults.specs.Causes.{Refusal}
use Rattle.sampling.specs.Rows.{placed}
use Rattle.traces.specs.Reading.{Cell, cell_from, cells}
use Rattle.traces.proofs.Turns.{onto, onto_none, whole_more, whole_err, whole_end, cells_turn, cells_end, cells_over, row_push}
use Rattle.traces.proofs.reading.read_cells.Goals as goal

pub loop-channel-init : goal.loop-channel-init
loop-channel-init c =
    record {
      same = refl;
      read = [];
      counted = refl;
      shown = c.empty-row.ensures;
      so_far = onto_none (cells 16 c.args.reader.now.bytes.now c.args.reader.now.at);
    }

-- at the end the cells read are all
ended : (bs now : List ℕ) (at k : ℕ) (whole : Result (List Cell) Refusal) (read : List Cell) → now ≡ bs → length now ≤ at → whole ≡ onto read (cells k bs at) → whole ≡ Ok read
ended bs now at k whole read same past so_far = whole_end whole read (cells k bs at) so_far (cells_end bs at k (subst (λ b. length b ≤ at) same past))

pub returns-then-reader : goal.returns-then-reader
returns-then-reader c =
    let inv = c.loop-channel.invariant in
    (inv.read, ended _ _ c.loop-channel.reader.at (16 - c.loop-channel.channel) _ inv.read inv.same c.if-reader.true inv.so_far, inv.shown)

pub returns-in_err-read_cell : goal.returns-in_err-read_cell
returns-in_err-read_cell c =
    let inv = c.loop-channel.invariant in
    let bs = c.args.reader.now.bytes.now in
    let at = c.loop-channel.reader.at in
    let k = 16 - c.loop-channel.channel in
    let more : at < length bs = subst (λ b. at < length b) inv.same c.if-reader.false in
    let p = err_from_is_err_and c.from_residual.result c.from_residual.ensures.1 in
    let e = ap (λ b. cell_from b at) (sym inv.same) ∙ c.in_err-read_cell.ensures.1 in
    let some : 0 < k = omega (arith, c.loop-channel-test.true) in
    rw (p.1, p.2) (whole_err bs at (cell_from bs at) (cells (k - 1) bs) _ inv.read _ inv.so_far (cells_turn bs at k some) _ more e)

pub loop-channel-preserved : goal.loop-channel-preserved
loop-channel-preserved c =
    let inv = c.loop-channel.invariant in
    let bs = c.args.reader.now.bytes.now in
    let at = c.loop-channel.reader.at in
    let n = c.read_cell.new.reader.at in
    let i = c.loop-channel.channel in
    let cell = c.in_ok-read_cell.field-0 in
    let more : at < length bs = subst (λ b. at < length b) inv.same c.if-reader.false in
    let e = ap (λ b. cell_from b at) (sym inv.same) ∙ c.in_ok-read_cell.ensures.1 in
    let inside = c.loop-channel-test.true in
    let some : 0 < 16 - i = omega (arith, inside) in
    let less : 16 - i - 1 ≡ 16 - (i + 1) = omega arith in
    record {
      same = c.in_ok-read_cell.ensures.0 ∙ inv.same;
      read = inv.read ++ (cell ∷ []);
      counted = omega (arith, length-append inv.read (cell ∷ []), inv.counted);
      shown = c.put.ensures ∙ ap (λ s. placed s i cell) inv.shown ∙ row_push inv.read cell i inv.counted inside;
      so_far =
          whole_more bs at (cell_from bs at) (cells (16 - i - 1) bs) _ inv.read _ inv.so_far (cells_turn bs at (16 - i) some) cell n more e
          ∙ ap (λ k. onto (inv.read ++ (cell ∷ [])) (cells k bs n)) less;
    }

pub returns-then-reader-2 : goal.returns-then-reader-2
returns-then-reader-2 c =
    let inv = c.loop-channel.invariant in
    let bs = c.args.reader.now.bytes.now in
    let at = c.loop-channel.reader.at in
    let more : at < length bs = subst (λ b. at < length b) inv.same c.if-reader-2.true in
    let none : 16 - c.loop-channel.channel ≡ 0 = omega (arith, c.loop-channel-test.false) in
    inv.so_far ∙ ap (onto inv.read) (ap (λ k. cells k bs at) none ∙ cells_over bs at more)

pub returns : goal.returns
returns c =
    let inv = c.loop-channel.invariant in
    (inv.read, ended _ _ c.loop-channel.reader.at (16 - c.loop-channel.channel) _ inv.read inv.same c.if-reader-2.false inv.so_far, inv.shown)
