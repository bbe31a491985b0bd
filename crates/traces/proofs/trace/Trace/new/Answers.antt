use Rattle.std.proofs.Common.{◌≡◌, length, is_ok, ap, refl, arith}
use Rattle.traces.specs.Traces.{found}
use Rattle.traces.proofs.Turns.{rows_end}
use Rattle.traces.proofs.trace.Trace.new.Goals as goal

pub invariant_of-result : goal.invariant_of-result
invariant_of-result c =
    let items = c.in_ok-bytes.ensures.items in
    let one : length c.in_ok-bytes.bytes.items ≡ 1 = ap length items in
    record {
      short = omega arith;
      inside = omega arith;
      counted = omega arith;
      whole = ap is_ok (rows_end c.in_ok-bytes.bytes.items 1 _ (omega arith));
    }

pub returns : goal.returns
returns c =
    let items = c.in_ok-bytes.ensures.items in
    let one : length c.in_ok-bytes.bytes.items ≡ 1 = ap length items in
    record {
      bytes_are = items;
      rows_are = ap found (rows_end c.in_ok-bytes.bytes.items 1 _ (omega arith));
      given = refl;
      present = c.empty.ensures;
    }
