-- The meaning of an expression lies in its type's range where what it reads does. Assumes nothing.
use Rattle.std.proofs.Common.{◌≡◌, ℕ, zero, suc, ◌+◌, Bool as Truth, true, false, cond, List, ◌++◌, Ok, slice_index_or, arith}
use Rattle.std.specs.List.{AllByRecursion}
use Rattle.std.proofs.ByRecursion.{All-weaker}
use Rattle.std.proofs.lemmas.Int.{ints}
use Rattle.values.specs.declared.types.«Type».{«Type» as Ty}
use Rattle.values.specs.declared.types.«Type».TheVariants as ty
use Rattle.values.specs.declared.value.Value.{Value}
use Rattle.values.specs.declared.value.Value.TheVariants.{Bool}
use Rattle.values.specs.Values.{Proper, HasType}
use Rattle.values.proofs.Wrapping.{wraps}
use Rattle.operators.specs.declared.operator.Unary.{Unary}
use Rattle.operators.specs.declared.operator.Unary.TheVariants.{Not, Negate}
use Rattle.operators.specs.declared.operator.Binary.{Binary}
use Rattle.operators.specs.declared.operator.Binary.TheVariants.{And, Or, Add, Subtract, Multiply, Quotient, Remainder, Equal, Less, AtMost}
use Rattle.operators.specs.Operators.{truth, unary, binary}
use Rattle.syntax.specs.Trees.{Exp}
use Rattle.syntax.specs.Trees as tree
use Rattle.syntax.specs.Written.{Bounded}
use Rattle.names.specs.declared.uses.Name.{Name}
use Rattle.names.specs.declared.uses.Name.TheVariants as name
use Rattle.names.specs.Uses.{Use, uses}
use Rattle.typing.specs.Typing.{shape}
use Rattle.evaluation.specs.Meaning.{Samples, Values, meaning}
use Rattle.evaluation.specs.Kept.{OfType}
use Rattle.evaluation.proofs.Agreeing.{all_left, all_right}
use Rattle.evaluation.proofs.Kept.{kept}

truth_proper : (b : Truth) → Proper (Bool b)
truth_proper true = record { low = omega (arith, ints); high = omega (arith, ints) }
truth_proper false = record { low = omega (arith, ints); high = omega (arith, ints) }

unary_proper : (o : Unary) (w : Value) → Proper (unary o w)
unary_proper Not w = truth_proper _
unary_proper Negate w = (wraps _ _).proper

binary_proper : (o : Binary) (w y : Value) → Proper (binary o w y)
binary_proper And w y = truth_proper _
binary_proper Or w y = truth_proper _
binary_proper Add w y = (wraps _ _).proper
binary_proper Subtract w y = (wraps _ _).proper
binary_proper Multiply w y = (wraps _ _).proper
binary_proper Quotient w y = (wraps _ _).proper
binary_proper Remainder w y = (wraps _ _).proper
binary_proper Equal w y = truth_proper _
binary_proper Less w y = truth_proper _
binary_proper AtMost w y = truth_proper _

either_proper : (b : Truth) (w y : Value) → Proper w → Proper y → Proper (cond b w y)
either_proper true w y m n = m
either_proper false w y m n = n

-- what is read at p under a name is a value of the declared type, and lies in its range
abbrev pub Ranged : List Ty → List Ty → Samples → Values → ℕ → Name → Type 0
Ranged cs ss x v p (name.Channel i) = HasType (slice_index_or cs i ty.Bool) (x p i)
Ranged cs ss x v p (name.Stream i d) = HasType (slice_index_or ss i ty.Bool) (v i (p + d))

-- and so is all that is used
abbrev pub AllRanged : List Ty → List Ty → Samples → Values → ℕ → List Use → Type 0
AllRanged cs ss x v p us = AllByRecursion (λ u. Ranged cs ss x v p u.name) us

module _ (cs ss : List Ty) (x : Samples) (v : Values) (p : ℕ) where
  of_type : (m : Name) → Ranged cs ss x v p m → OfType cs ss x v p m
  of_type (name.Channel i) h = h.0
  of_type (name.Stream i d) h = h.0

  meaning_proper : (d : ℕ) (e : Exp) → Bounded d e → AllRanged cs ss x v p (uses e) → Proper (meaning x v p e)
  meaning_proper zero e b h = absurd b
  meaning_proper (suc d) (tree.constant at w) b h = b
  meaning_proper (suc d) (tree.channel at i) b h = h.0.1
  meaning_proper (suc d) (tree.stream at i y) b h = h.0.1
  meaning_proper (suc d) (tree.unary at o e) b h = unary_proper o (meaning x v p e)
  meaning_proper (suc d) (tree.cast at t e) b h = (wraps _ _).proper
  meaning_proper (suc d) (tree.binary at o a c) b h = binary_proper o (meaning x v p a) (meaning x v p c)
  meaning_proper (suc d) (tree.choose at t a c) b h =
      let rest = all_right _ (uses t) (uses a ++ uses c) h in
      either_proper (truth (meaning x v p t)) (meaning x v p a) (meaning x v p c)
      (meaning_proper d a b.1 (all_left _ (uses a) (uses c) rest)) (meaning_proper d c b.2 (all_right _ (uses a) (uses c) rest))

  -- where all that a typed expression names is in the range of the declared types, its meaning is in that of its type
  pub meaning_typed : (e : Exp) (t : Ty) → shape cs ss 12 e ≡ Ok t → Bounded 12 e → AllRanged cs ss x v p (uses e) → HasType t (meaning x v p e)
  meaning_typed e t typed bounded h =
      (kept cs ss x v p 12 e t typed (All-weaker _ _ (λ u. of_type u.name) (uses e) h), meaning_proper 12 e bounded h)
