-- What is known of a table's own expressions. Assumes nothing.
use Rattle.std.specs.Prelude.{◌<◌, ◌≤◌, length}
use Rattle.std.specs.List.{AllByRecursion}
use Rattle.syntax.specs.Trees.{Exp}
use Rattle.names.specs.declared.uses.Name.{Name}
use Rattle.names.specs.declared.uses.Name.TheVariants as name
use Rattle.names.specs.Uses.{uses}
use Rattle.evaluation.specs.Meaning.{levels}
use Rattle.tables.specs.declared.table.Table.{Table}
use Rattle.tables.specs.Tables.{channels_of, streams_of}

-- a name is that of a channel or stream of the table
abbrev pub Has : Table → Name → Type 0
Has t (name.Channel c) = c < length (channels_of t)
Has t (name.Stream q d) = q < length (streams_of t)

-- an expression of the table: no deeper than one may be, and it names what there is
pub record IsOwn (t : Table) (e : Exp) : Type 0 where
  pub shallow : levels e ≤ 12
  pub names : AllByRecursion (λ u. Has t u.name) (uses e)
