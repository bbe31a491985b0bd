-- Nothing to refuse, or the first refusal of several parts. Assumes nothing.
use Rattle.std.specs.Prelude.{List, [], ◌∷◌, Ok, Err, Result}
use Rattle.faults.specs.Causes.{Refusal}

-- nothing to refuse, or a refusal
abbrev pub Passed : Type 0
Passed = Result (Unit {0}) Refusal

-- what comes of a result
abbrev pub then : {X Y E : Type 0} → Result X E → (X → Result Y E) → Result Y E
then (Ok x) f = f x
then (Err c) f = Err c

-- the first refusal of several parts
abbrev pub every : {X : Type 0} → (X → Passed) → List X → Passed
every f [] = Ok tt
every f (x ∷ xs) = then (f x) (λ _. every f xs)
