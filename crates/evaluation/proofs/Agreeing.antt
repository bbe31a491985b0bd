-- An expression has one value over all sources and places that agree on what it names. Assumes nothing.
use Rattle.std.proofs.Common.{◌≡◌, ℕ, List, [], ◌∷◌, ◌++◌, refl, ap}
use Rattle.std.specs.List.{AllByRecursion}
use Rattle.values.specs.Values.{num, wrap}
use Rattle.operators.specs.Operators.{unary}
use Rattle.syntax.specs.Trees.{Exp}
use Rattle.syntax.specs.Trees as tree
use Rattle.names.specs.Uses.{uses}
use Rattle.evaluation.specs.Meaning.{Samples, Values, meaning, Agree, DependsOnNames}

-- what holds of each element of two lists holds of each of one of them
module _ {X : Type 0} (P : X → Type 0) where
  pub all_left : (xs ys : List X) → AllByRecursion P (xs ++ ys) → AllByRecursion P xs
  all_left [] ys h = tt
  all_left (x ∷ xs) ys h = (h.0, all_left xs ys h.1)

  pub all_right : (xs ys : List X) → AllByRecursion P (xs ++ ys) → AllByRecursion P ys
  all_right [] ys h = h
  all_right (x ∷ xs) ys h = all_right xs ys h.1

module _ (x : Samples) (v : Values) (p : ℕ) (x' : Samples) (v' : Values) (p' : ℕ) where
  agreeing : (e : Exp) → Agree x v p x' v' p' (uses e) → meaning x v p e ≡ meaning x' v' p' e
  agreeing (tree.constant at w) h = refl
  agreeing (tree.channel at i) h = h.0
  agreeing (tree.stream at i d) h = h.0
  agreeing (tree.unary at o e) h = ap (unary o) (agreeing e h)
  agreeing (tree.cast at t e) h = ap (λ w. wrap t (num w)) (agreeing e h)
  agreeing (tree.binary at o a b) h =
      let left = agreeing a (all_left _ (uses a) (uses b) h) in
      let right = agreeing b (all_right _ (uses a) (uses b) h) in
      cc
  agreeing (tree.choose at t a b) h =
      let test = agreeing t (all_left _ (uses t) (uses a ++ uses b) h) in
      let rest = all_right _ (uses t) (uses a ++ uses b) h in
      let yes = agreeing a (all_left _ (uses a) (uses b) rest) in
      let no = agreeing b (all_right _ (uses a) (uses b) rest) in
      cc

pub depends_on_names : (e : Exp) → DependsOnNames e
depends_on_names e x v p x' v' p' h = agreeing x v p x' v' p' e h
