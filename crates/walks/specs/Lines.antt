-- The line that tells a reference. Assumes nothing.
use Rattle.std.specs.Prelude.{ℕ, List, ◌++◌, codes, decimal}
use Rattle.walks.specs.declared.edge.SheetEntry.{SheetEntry}

-- who reads what, by their numbers among all records, and the drop
abbrev pub entry_line : SheetEntry → List ℕ
entry_line e = codes "ref " ++ (decimal e.reader ++ (codes " " ++ (decimal e.read ++ (codes " " ++ decimal e.drop))))
