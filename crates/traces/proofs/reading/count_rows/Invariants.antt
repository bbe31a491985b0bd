use Rattle.std.proofs.Common.{◌≡◌, ℕ, ◌+◌, ◌-◌, ◌≤◌, List, length}
use Rattle.traces.specs.Reading.{Cell, rows}
use Rattle.traces.proofs.Turns.{onto}
use Rattle.traces.proofs.reading.count_rows.Given as goal

abbrev pub invariant-loop-reader : goal.invariant-loop-reader
invariant-loop-reader l =
    record {
      same : l.reader.bytes.now ≡ l.fn.reader.bytes.now;
      onward : l.fn.reader.at + l.count ≤ l.reader.at;
      read : List (List Cell);
      counted : length read ≡ l.count;
      turns : ℕ;
      enough : length l.fn.reader.bytes.now ≤ l.reader.at + turns;
      so_far : rows (length l.fn.reader.bytes.now) l.fn.reader.bytes.now l.fn.reader.at ≡ onto read (rows turns l.fn.reader.bytes.now l.reader.at);
    }

abbrev pub decreases-loop-reader : goal.decreases-loop-reader
decreases-loop-reader l = length l.reader.bytes.now - l.reader.at
