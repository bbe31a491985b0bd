-- The rows that are left of a trace. Assumes nothing.
use Rattle.std.specs.Prelude.{ℕ, List, [], ◌∷◌, length, Some, None, Ok, Err, Option, Result}
use Rattle.faults.specs.Causes.{Refusal}
use Rattle.sampling.specs.Rows.{Readings}
use Rattle.traces.specs.Reading.{Cell, rows}
use Rattle.traces.specs.Rows.{row_of}

-- the rows that were found, none where they are refused
abbrev pub found : Result (List (List Cell)) Refusal → List (List Cell)
found (Ok rs) = rs
found (Err c) = []

-- the rows that are left from a place on
abbrev pub left : List ℕ → ℕ → List (List Cell)
left bs at = found (rows (length bs) bs at)

-- the first row of those left, if any
abbrev pub first : List (List Cell) → Option Readings
first [] = None
first (r ∷ rs) = Some (row_of r)
