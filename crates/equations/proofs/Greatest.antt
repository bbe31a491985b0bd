-- The greatest of several numbers. Assumes nothing.
use Rattle.std.proofs.Common.{ℕ, zero, suc, ◌<◌, ◌≤◌, max, ap, inl, inr, arith}
use Rattle.std.proofs.lemmas.Bool.{cases_eq}

-- the greatest of f 0 to f (k - 1)
pub greatest : (ℕ → ℕ) → ℕ → ℕ
greatest f zero = 0
greatest f (suc k) = max (greatest f k) (f k)

pub most : (f : ℕ → ℕ) (k s : ℕ) → s < k → f s ≤ greatest f k
unfolding greatest
most f zero s l = absurd (omega (arith, l))
most f (suc k) s l = elim (cases_eq s k) [
  | inl e ↦ omega (arith, ap f e)
  | inr n ↦ omega (arith, most f k s (omega (arith, l, n)))
]
