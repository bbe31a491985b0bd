-- How many records of each kind a table has. Assumes nothing.
use Rattle.std.specs.Prelude.{ℕ, List, ◌++◌, codes, decimal}
use Rattle.syntax.specs.declared.record.Counts.{Counts}
use Rattle.syntax.specs.declared.record.Kind.TheVariants.{Channel, Stream, Rule}
use Rattle.syntax.specs.Entries.{Entry, count}

-- how many of each kind there are
abbrev pub counts_of : List Entry → Counts
counts_of rs = record { channels = count Channel rs; streams = count Stream rs; rules = count Rule rs }

-- how they are told
abbrev pub counts_text : Counts → List ℕ
counts_text c = codes "channels " ++ (decimal c.channels ++ (codes " streams " ++ (decimal c.streams ++ (codes " rules " ++ decimal c.rules))))
