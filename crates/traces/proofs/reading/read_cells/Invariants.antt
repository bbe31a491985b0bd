use Rattle.std.proofs.Common.{◌≡◌, ◌-◌, List, length}
use Rattle.sampling.specs.Rows.{readings}
use Rattle.traces.specs.Reading.{Cell, cells}
use Rattle.traces.specs.Rows.{row_of}
use Rattle.traces.proofs.Turns.{onto}
use Rattle.traces.proofs.reading.read_cells.Given as goal

abbrev pub invariant-loop-channel : goal.invariant-loop-channel
invariant-loop-channel l =
    record {
      same : l.reader.bytes.now ≡ l.fn.reader.bytes.now;
      read : List Cell;
      counted : length read ≡ l.channel;
      shown : readings l.row ≡ row_of read;
      so_far : cells 16 l.fn.reader.bytes.now l.fn.reader.at ≡ onto read (cells (16 - l.channel) l.fn.reader.bytes.now l.reader.at);
    }
