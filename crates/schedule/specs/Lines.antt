-- How the counts of a planned table are told. Assumes nothing.
use Rattle.std.specs.Prelude.{ℕ, List, ◌++◌, codes, decimal}
use Rattle.syntax.specs.Counting.{counts_text}
use Rattle.schedule.specs.declared.plan.Counts.{Counts}

-- the counts of the records, and the slots
abbrev pub size_text : Counts → List ℕ
size_text c = counts_text c.records ++ (codes " slots " ++ decimal c.slots)
