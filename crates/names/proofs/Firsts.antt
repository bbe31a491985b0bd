-- The first name that is not declared, in one part after another. Assumes nothing.
use Rattle.std.proofs.Common.{◌≡◌, ℕ, List, [], ◌∷◌, refl, ap, ◌∙◌}
use Rattle.syntax.specs.Passing.{then, every}
use Rattle.syntax.proofs.Passing.{every_append}
use Rattle.names.specs.Uses.{Use, gathered}
use Rattle.names.specs.Declaring.{named, undeclared}

pub undeclared_gathered : (cs ss : ℕ) {X : Type 0} (f : X → List Use) (xs : List X) → undeclared cs ss (gathered f xs) ≡ every (λ x. undeclared cs ss (f x)) xs
undeclared_gathered cs ss f [] = refl
undeclared_gathered cs ss f (x ∷ xs) =
    every_append (named cs ss) (f x) (gathered f xs) ∙ ap (λ r. then (undeclared cs ss (f x)) (λ _. r)) (undeclared_gathered cs ss f xs)
