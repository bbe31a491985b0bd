-- The first name that is not declared. Assumes nothing.
use Rattle.std.specs.Prelude.{ℕ, Bool, cond, List, Ok, Err, nat_lt}
use Rattle.faults.specs.declared.cause.Cause.TheVariants.{Undeclared}
use Rattle.faults.specs.Causes.{refusal}
use Rattle.syntax.specs.declared.record.Kind.TheVariants.{Channel, Stream}
use Rattle.syntax.specs.Passing.{Passed, every}
use Rattle.syntax.specs.Entries.{Entry, count}
use Rattle.names.specs.declared.uses.Name.{Name}
use Rattle.names.specs.declared.uses.Name.TheVariants as name
use Rattle.names.specs.Uses.{Use, uses_in}

-- a name is one of so many channels or streams
abbrev pub declares : ℕ → ℕ → Name → Bool
declares channels streams (name.Channel i) = nat_lt i channels
declares channels streams (name.Stream i d) = nat_lt i streams

-- a name passes where it is declared
abbrev pub named : ℕ → ℕ → Use → Passed
named channels streams u = cond (declares channels streams u.name) (Ok tt) (Err (refusal (Undeclared u.place)))

-- the first of the names that is not declared
abbrev pub undeclared : ℕ → ℕ → List Use → Passed
undeclared channels streams us = every (named channels streams) us

-- the first of a table's names that is not declared in it
abbrev pub undeclared_in : List Entry → Passed
undeclared_in rs = undeclared (count Channel rs) (count Stream rs) (uses_in rs)
