-- Which bytes decide a refusal of a trace. Assumes nothing.
use Rattle.std.specs.Prelude.{◌≡◌, ℕ, ◌+◌, ◌≤◌, List, ◌∷◌, length, take, Ok, Err, slice_index}
use Rattle.faults.specs.Causes.{Refusal}
use Rattle.syntax.specs.Parts.{end_of}
use Rattle.syntax.specs.Refusing.{IsSameTo}
use Rattle.traces.specs.Reading.{Cell, read_trace}
use Rattle.traces.specs.Written.{write}

-- a row is refused: the bytes before it are the version and the rows that are read from them; and other bytes of the same size,
-- the same up to the row's end and over the next row's length, are refused alike
pub record RefusesRow (bytes : List ℕ) (r : Refusal) : Type 0 where
  pub before : List (List Cell)
  pub read : read_trace (1 ∷ write before) ≡ Ok before
  pub start : take (1 + length (write before)) bytes ≡ 1 ∷ write before
  pub alike : (other : List ℕ) → IsSameTo (end_of bytes (1 + length (write before)) + 2) bytes other → read_trace other ≡ Err r

-- what is refused is a row, wherever version and size pass; nothing is said of bytes that are refused for their version or for their size
abbrev pub RefusesAlike : List ℕ → Type 0
RefusesAlike bytes = (r : Refusal) → slice_index bytes 0 ≡ 1 → length bytes ≤ 65536 → read_trace bytes ≡ Err r → RefusesRow bytes r
