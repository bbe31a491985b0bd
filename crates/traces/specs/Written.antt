-- How a trace is written, the limits that it keeps, and the law that opening accepts exactly what is written so. Assumes nothing.
use Rattle.std.specs.Prelude.{◌≡◌, ℕ, ◌≤◌, List, [], ◌∷◌, length, Some, None, Ok}
use Rattle.std.specs.List.{AllByRecursion}
use Rattle.values.specs.Types.{code}
use Rattle.values.specs.Values.{type_of, Proper}
use Rattle.values.specs.Bytes.{encoded}
use Rattle.syntax.specs.Written.{sized, joined}
use Rattle.traces.specs.Reading.{Cell, read_trace}

-- how a channel's value, or nothing, is written
abbrev pub write_cell : Cell → List ℕ
write_cell (Some v) = code (type_of v) ∷ encoded v
write_cell None = 0x00 ∷ []

-- how a row is written: its length in two bytes, and its cells
abbrev pub write_row : List Cell → List ℕ
write_row cs = sized (joined write_cell cs)

-- how rows are written
abbrev pub write : List (List Cell) → List ℕ
write rs = joined write_row rs

-- a value is one of its type
abbrev pub ProperCell : Cell → Type 0
ProperCell (Some v) = Proper v
ProperCell None = Unit {0}

-- the limits of a row
abbrev pub Small : List Cell → Type 0
Small cs = (length cs ≤ 16) × AllByRecursion ProperCell cs

-- the bytes are version 01 followed by the rows, written, and the limits hold
pub record Written (bytes : List ℕ) (rs : List (List Cell)) : Type 0 where
  pub whole : bytes ≡ 1 ∷ write rs
  pub size : length bytes ≤ 65536
  pub small : AllByRecursion Small rs

-- reading accepts the bytes with the rows rs exactly when they are written so
abbrev pub AcceptsWritten : List ℕ → Type 0
AcceptsWritten bytes = (rs : List (List Cell)) → (read_trace bytes ≡ Ok rs → Written bytes rs) × (Written bytes rs → read_trace bytes ≡ Ok rs)
