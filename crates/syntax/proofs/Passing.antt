-- The first refusal of lists of parts, one after another. Assumes nothing.
use Rattle.std.proofs.Common.{◌≡◌, List, [], ◌∷◌, ◌++◌, Result, Ok, Err, sym, refl, ap, ◌∙◌}
use Rattle.std.specs.List.{AllByRecursion}
use Rattle.syntax.specs.Passing.{Passed, then, every}

then_then : (r s : Passed) (t : Passed) → then (then r (λ _. s)) (λ _. t) ≡ then r (λ _. then s (λ _. t))
then_then (Ok u) s t = refl
then_then (Err c) s t = refl

pub every_append : {X : Type 0} (f : X → Passed) (xs ys : List X) → every f (xs ++ ys) ≡ then (every f xs) (λ _. every f ys)
every_append f [] ys = refl
every_append f (x ∷ xs) ys = ap (λ r. then (f x) (λ _. r)) (every_append f xs ys) ∙ sym (then_then (f x) (every f xs) (every f ys))

-- what comes of a result goes through only where the result does
pub then_ok : {X Y E : Type 0} (r : Result X E) (f : X → Result Y E) (y : Y) → then r f ≡ Ok y → (x : X) × (r ≡ Ok x) × (f x ≡ Ok y)
then_ok (Ok x) f y e = (x, refl, e)
then_ok (Err c) f y e = absurd (cc)

-- where all parts pass, each of them does
pub every_all : {X : Type 0} (f : X → Passed) (xs : List X) → every f xs ≡ Ok tt → AllByRecursion (λ x. f x ≡ Ok tt) xs
every_all f [] e = tt
every_all f (x ∷ xs) e = let p = then_ok (f x) _ tt e in (p.1, every_all f xs p.2)
