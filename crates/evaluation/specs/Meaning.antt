-- The value of an expression at a place, over the samples of channels and the values of streams. Assumes nothing.
use Rattle.std.specs.Prelude.{◌≡◌, ℕ, zero, suc, ◌+◌, false, max, List}
use Rattle.std.specs.List.{AllByRecursion}
use Rattle.values.specs.declared.value.Value.{Value}
use Rattle.values.specs.declared.value.Value.TheVariants.{Bool}
use Rattle.values.specs.Values.{num, wrap}
use Rattle.operators.specs.Operators.{unary, binary, chosen}
use Rattle.syntax.specs.Trees.{Exp}
use Rattle.syntax.specs.Trees as tree
use Rattle.names.specs.declared.uses.Name.{Name}
use Rattle.names.specs.declared.uses.Name.TheVariants as name
use Rattle.names.specs.Uses.{Use, uses}

-- the samples by tick and channel
abbrev pub Samples : Type 0
Samples = ℕ → ℕ → Value

-- the values by stream and index
abbrev pub Values : Type 0
Values = ℕ → ℕ → Value

-- the value of an expression at p: a channel reads as its sample of tick p, and a stream with drop d as its value at p + d
abbrev pub meaning : Samples → Values → ℕ → Exp → Value
meaning x v p (tree.constant at w) = w
meaning x v p (tree.channel at i) = x p i
meaning x v p (tree.stream at i d) = v i (p + d)
meaning x v p (tree.unary at o e) = unary o (meaning x v p e)
meaning x v p (tree.cast at t e) = wrap t (num (meaning x v p e))
meaning x v p (tree.binary at o a b) = binary o (meaning x v p a) (meaning x v p b)
meaning x v p (tree.choose at t a b) = chosen (meaning x v p t) (meaning x v p a) (meaning x v p b)

-- the value at p of an expression whose operands have the values that `sub` gives
abbrev pub composed : Samples → Values → ℕ → (Exp → Value) → Exp → Value
composed x v p sub (tree.constant at w) = w
composed x v p sub (tree.channel at i) = x p i
composed x v p sub (tree.stream at i d) = v i (p + d)
composed x v p sub (tree.unary at o e) = unary o (sub e)
composed x v p sub (tree.cast at t e) = wrap t (num (sub e))
composed x v p sub (tree.binary at o a b) = binary o (sub a) (sub b)
composed x v p sub (tree.choose at t a b) = chosen (sub t) (sub a) (sub b)

-- the value at p of an expression that is at most so deep; what is deeper reads as false
unfoldable pub value_within : ℕ → Samples → Values → ℕ → Exp → Value
value_within zero x v p e = Bool false
value_within (suc d) x v p e = composed x v p (value_within d x v p) e

-- how deep an expression is
abbrev pub levels : Exp → ℕ
levels (tree.constant at v) = 1
levels (tree.channel at i) = 1
levels (tree.stream at i d) = 1
levels (tree.unary at o e) = levels e + 1
levels (tree.cast at t e) = levels e + 1
levels (tree.binary at o a b) = max (levels a) (levels b) + 1
levels (tree.choose at t a b) = max (levels t) (max (levels a) (levels b)) + 1

-- what one source has at p under a name is what the other has at p'
abbrev pub Same : Samples → Values → ℕ → Samples → Values → ℕ → Name → Type 0
Same x v p x' v' p' (name.Channel i) = x p i ≡ x' p' i
Same x v p x' v' p' (name.Stream i d) = v i (p + d) ≡ v' i (p' + d)

-- two sources, each at its place, agree on what is used
abbrev pub Agree : Samples → Values → ℕ → Samples → Values → ℕ → List Use → Type 0
Agree x v p x' v' p' us = AllByRecursion (λ u. Same x v p x' v' p' u.name) us

-- an expression has one value over all sources and places that agree on what it names
abbrev pub DependsOnNames : Exp → Type 0
DependsOnNames e =
    (x : Samples) (v : Values) (p : ℕ) (x' : Samples) (v' : Values) (p' : ℕ) →
    Agree x v p x' v' p' (uses e) → meaning x v p e ≡ meaning x' v' p' e
