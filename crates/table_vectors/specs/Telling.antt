-- What is told of a line. Assumes nothing.
use Rattle.std.specs.Prelude.{◌≡◌, ℕ, List, Some, None, codes, Option}
use Rattle.tables.specs.Lines.{TellsLine}

-- what is told of a table's bytes, where there are any
abbrev pub Told : Option (List ℕ) → List ℕ → Type 0
Told (Some bytes) text = TellsLine bytes text
Told None text = text ≡ codes "not hexadecimal"
