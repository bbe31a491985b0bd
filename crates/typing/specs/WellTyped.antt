-- What is typed, and what divides by constants. Assumes nothing.
use Rattle.std.specs.Prelude.{◌≡◌, ◌⊎◌, ℕ, pos, List, [], ◌∷◌, Ok}
use Rattle.std.specs.List.{AllByRecursion}
use Rattle.values.specs.declared.types.«Type».{«Type» as Ty}
use Rattle.values.specs.declared.types.«Type».TheVariants.{Bool}
use Rattle.values.specs.declared.value.Value.{Value}
use Rattle.values.specs.Values.{num}
use Rattle.operators.specs.declared.operator.Binary.TheVariants.{Quotient, Remainder}
use Rattle.syntax.specs.Trees.{Exp}
use Rattle.syntax.specs.Trees as tree
use Rattle.syntax.specs.Entries.{Entry}
use Rattle.syntax.specs.Entries as entry
use Rattle.typing.specs.Scopes.{channel_types, stream_types}
use Rattle.typing.specs.Typing.{shape}

-- an expression has the type t, over the types of channels and streams
abbrev pub IsTyped : List Ty → List Ty → Ty → Exp → Type 0
IsTyped cs ss t e = shape cs ss 12 e ≡ Ok t

-- a body has its stream's type, a guard is a Bool, and each argument has some type
abbrev pub EntryTyped : List Ty → List Ty → Entry → Type 0
EntryTyped cs ss (entry.channel t) = Unit {0}
EntryTyped cs ss (entry.stream t vs e) = IsTyped cs ss t e
EntryTyped cs ss (entry.rule g es) = IsTyped cs ss Bool g × AllByRecursion (λ e. (t : Ty) × IsTyped cs ss t e) es

-- so in every record of a table, over the types of its own channels and streams
abbrev pub AllTyped : List Entry → Type 0
AllTyped rs = AllByRecursion (EntryTyped (channel_types rs) (stream_types rs)) rs

-- an expression is a constant other than zero
abbrev pub IsNonzeroConstant : Exp → Type 0
IsNonzeroConstant e = (at : ℕ) × (v : Value) × (e ≡ tree.constant at v) × ¬ (num v ≡ pos 0)

-- in an expression the divisor of every quotient and remainder is a constant other than zero
abbrev pub DividesByConstants : Exp → Type 0
DividesByConstants (tree.constant at v) = Unit {0}
DividesByConstants (tree.channel at i) = Unit {0}
DividesByConstants (tree.stream at i d) = Unit {0}
DividesByConstants (tree.unary at o e) = DividesByConstants e
DividesByConstants (tree.cast at t e) = DividesByConstants e
DividesByConstants (tree.binary at o a b) =
    DividesByConstants a × DividesByConstants b × ((o ≡ Quotient) ⊎ (o ≡ Remainder) → IsNonzeroConstant b)
DividesByConstants (tree.choose at c a b) = DividesByConstants c × DividesByConstants a × DividesByConstants b

-- a record's expressions: a stream's body, a rule's guard and arguments
abbrev pub expressions_of : Entry → List Exp
expressions_of (entry.channel t) = []
expressions_of (entry.stream t vs e) = e ∷ []
expressions_of (entry.rule g es) = g ∷ es

-- so in every expression of a table
abbrev pub AllDivideByConstants : List Entry → Type 0
AllDivideByConstants rs = AllByRecursion (λ r. AllByRecursion DividesByConstants (expressions_of r)) rs
