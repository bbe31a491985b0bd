-- Which bytes decide a refusal. Assumes nothing.
use Rattle.std.specs.Prelude.{◌≡◌, ℕ, ◌+◌, ◌≤◌, List, ◌∷◌, length, take, Ok, Err, slice_index}
use Rattle.faults.specs.Causes.{Refusal}
use Rattle.syntax.specs.Parts.{end_of}
use Rattle.syntax.specs.Entries.{Entry}
use Rattle.syntax.specs.Reading.{read_table}
use Rattle.syntax.specs.Written.{write}

-- other bytes of the same size are the same up to a place
pub record IsSameTo (end : ℕ) (bytes other : List ℕ) : Type 0 where
  pub size : length other ≡ length bytes
  pub front : take end other ≡ take end bytes

-- a record is refused: the bytes before it are the version and the records that are read from them; and other bytes of the same size,
-- the same up to the record's end and over the next record's length, are refused alike
pub record RefusesRecord (bytes : List ℕ) (r : Refusal) : Type 0 where
  pub before : List Entry
  pub read : read_table (1 ∷ write before) ≡ Ok before
  pub start : take (1 + length (write before)) bytes ≡ 1 ∷ write before
  pub alike : (other : List ℕ) → IsSameTo (end_of bytes (1 + length (write before)) + 2) bytes other → read_table other ≡ Err r

-- what is refused is a record, wherever version and size pass; nothing is said of bytes that are refused for their version or for their size
abbrev pub RefusesAlike : List ℕ → Type 0
RefusesAlike bytes = (r : Refusal) → slice_index bytes 0 ≡ 1 → length bytes ≤ 8192 → read_table bytes ≡ Err r → RefusesRecord bytes r
