-- What is told of a table, by what was asked for. Assumes nothing.
use Rattle.std.specs.Prelude.{ℕ, List}
use Rattle.check_table.specs.declared.Report.{Report}
use Rattle.check_table.specs.declared.Report.TheVariants.{Line, Walk}
use Rattle.tables.specs.Lines.{TellsLine, TellsWalk}

-- the text is what is told of the bytes in such a report
abbrev pub Reports : Report → List ℕ → List ℕ → Type 0
Reports Line bytes text = TellsLine bytes text
Reports Walk bytes text = TellsWalk bytes text
