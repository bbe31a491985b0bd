-- What reading a trace's rows answers. Assumes nothing.
use Rattle.std.specs.Prelude.{◌≡◌, ℕ, List, length, None, Ok, Err, Result, slice_index_or}
use Rattle.faults.specs.Causes.{Refusal, refusal}
use Rattle.faults.specs.declared.cause.Cause.{Cause}
use Rattle.sampling.specs.declared.row.Row.{Row}
use Rattle.sampling.specs.Rows.{Readings, readings}
use Rattle.syntax.specs.Answers.{Found}
use Rattle.syntax.specs.declared.reader.Reader.{Reader}
use Rattle.traces.specs.Reading.{Cell}

-- what the cells of a row read: nothing past the last one
abbrev pub row_of : List Cell → Readings
row_of cs k = slice_index_or cs k None

-- the row reads what the cells do; or their refusal
abbrev pub Reads : Result Row Cause → Result (List Cell) Refusal → Type 0
Reads (Ok row) found = (cs : List Cell) × (found ≡ Ok cs) × (readings row ≡ row_of cs)
Reads (Err c) found = found ≡ Err (refusal c)

-- the same, and the reader went on to the place after the row; or its refusal, and the reader is as it was
abbrev pub FindsRow : Reader → Reader → Result Row Cause → Found (List Cell) → Type 0
FindsRow old new (Ok row) found = (new.bytes.now ≡ old.bytes.now) × (cs : List Cell) × (found ≡ Ok (cs, new.at)) × (readings row ≡ row_of cs)
FindsRow old new (Err c) found = (new ≡ old) × (found ≡ Err (refusal c))

-- how many rows there are, or their refusal
abbrev pub Counts : Result ℕ Cause → Result (List (List Cell)) Refusal → Type 0
Counts (Ok n) found = (rs : List (List Cell)) × (found ≡ Ok rs) × (n ≡ length rs)
Counts (Err c) found = found ≡ Err (refusal c)
