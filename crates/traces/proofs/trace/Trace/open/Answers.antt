use Rattle.std.proofs.Common.{length, is_ok, refl, ap, arith}
use Rattle.traces.specs.Traces.{found}
use Rattle.traces.proofs.Left.{all_left}
use Rattle.traces.proofs.trace.Trace.open.Goals as goal

pub invariant_of-drop : goal.invariant_of-drop
invariant_of-drop c =
    let rs = c.in-Ok.ensures.rows in
    let w = (c.in-Ok.ensures.law rs.0).0 rs.1 in
    let same = c.in_ok-bytes.ensures.items_if_clones_equal (λ x y e. e) in
    let size = ap length same in
    let whole = ap length w.whole in
    let few = w.size in
    record {
      short = omega arith;
      inside = omega arith;
      counted = omega arith;
      whole = ap is_ok (all_left c.args.bytes.now c.in_ok-bytes.bytes.items rs.0 same w rs.1);
    }

pub returns-clause-answer : goal.returns-clause-answer
returns-clause-answer c =
    let rs = c.in-Ok.ensures.rows in
    let w = (c.in-Ok.ensures.law rs.0).0 rs.1 in
    let same = c.in_ok-bytes.ensures.items_if_clones_equal (λ x y e. e) in (
      rs.0,
      rs.1,
      rs.2,
      record {
        bytes_are = same;
        rows_are = ap found (all_left c.args.bytes.now c.in_ok-bytes.bytes.items rs.0 same w rs.1);
        given = refl;
        present = c.empty.ensures;
      },
    )
