-- What expressions name, in reading order. Assumes nothing.
use Rattle.std.specs.Prelude.{ℕ, ◌+◌, List, [], ◌∷◌, ◌++◌}
use Rattle.syntax.specs.Trees.{Exp}
use Rattle.syntax.specs.Trees as tree
use Rattle.syntax.specs.Entries.{Entry}
use Rattle.syntax.specs.Entries as entry
use Rattle.names.specs.declared.uses.Name.{Name}
use Rattle.names.specs.declared.uses.Name.TheVariants.{Channel, Stream}

-- a name, and the place of its number's byte
pub record Use : Type 0 where
  pub place : ℕ
  pub name : Name

-- what an expression names; a branch that is never chosen counts too
abbrev pub uses : Exp → List Use
uses (tree.constant at v) = []
uses (tree.channel at i) = record { place = at + 1; name = Channel i } ∷ []
uses (tree.stream at i d) = record { place = at + 1; name = Stream i d } ∷ []
uses (tree.unary at o e) = uses e
uses (tree.cast at t e) = uses e
uses (tree.binary at o a b) = uses a ++ uses b
uses (tree.choose at a b c) = uses a ++ (uses b ++ uses c)

-- what several parts name, one after another
abbrev pub gathered : {X : Type 0} → (X → List Use) → List X → List Use
gathered f [] = []
gathered f (x ∷ xs) = f x ++ gathered f xs

-- what a record names: a stream in its body, a rule in its guard and then in its arguments
abbrev pub uses_of : Entry → List Use
uses_of (entry.channel t) = []
uses_of (entry.stream t vs e) = uses e
uses_of (entry.rule g es) = uses g ++ gathered uses es

-- what a table names, record by record
abbrev pub uses_in : List Entry → List Use
uses_in rs = gathered uses_of rs
