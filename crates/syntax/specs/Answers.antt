-- What reading finds. Assumes nothing.
use Rattle.std.specs.Prelude.{ℕ, Ok, Err, Result}
use Rattle.faults.specs.Causes.{Refusal}
use Rattle.syntax.specs.Passing as passing

-- a part that was read and the place after it, or its refusal
abbrev pub Found : Type 0 → Type 0
Found X = Result (X × ℕ) Refusal

-- what comes of a part and the place after it
abbrev pub then : {X Y : Type 0} → Found X → (X → ℕ → Result Y Refusal) → Result Y Refusal
then found f = passing.then found (λ p. f p.0 p.1)
