-- The value of a typed expression, and its type. Assumes nothing.
use Rattle.std.specs.Prelude.{◌≡◌, ℕ, ◌+◌, List, Ok, slice_index_or}
use Rattle.std.specs.List.{AllByRecursion}
use Rattle.values.specs.declared.types.«Type».{«Type» as Ty}
use Rattle.values.specs.declared.types.«Type».TheVariants.{Bool}
use Rattle.values.specs.declared.value.Value.{Value}
use Rattle.values.specs.Values.{type_of, HasType}
use Rattle.syntax.specs.Trees.{Exp}
use Rattle.names.specs.declared.uses.Name.{Name}
use Rattle.names.specs.declared.uses.Name.TheVariants as name
use Rattle.names.specs.Uses.{Use, uses}
use Rattle.typing.specs.Typing.{shape}
use Rattle.evaluation.specs.Meaning.{Samples, Values, meaning}

-- what is read at p under a name has the declared type, where cs are the channels' types and ss the streams'
abbrev pub OfType : List Ty → List Ty → Samples → Values → ℕ → Name → Type 0
OfType cs ss x v p (name.Channel i) = type_of (x p i) ≡ slice_index_or cs i Bool
OfType cs ss x v p (name.Stream i d) = type_of (v i (p + d)) ≡ slice_index_or ss i Bool

-- and so is all that is used
abbrev pub OfTypes : List Ty → List Ty → Samples → Values → ℕ → List Use → Type 0
OfTypes cs ss x v p us = AllByRecursion (λ u. OfType cs ss x v p u.name) us

-- where the expression is typed t, w is its meaning at p; and w is a value of t, in its range, where all that it names has the declared types
abbrev pub HasMeaning : Samples → Values → ℕ → Exp → Value → Type 0
HasMeaning x v p e w =
    (cs ss : List Ty) (t : Ty) → shape cs ss 12 e ≡ Ok t →
    (w ≡ meaning x v p e) × (OfTypes cs ss x v p (uses e) → HasType t w)
