-- What a quotient and a remainder are. Assumes nothing.
use Rattle.std.specs.Prelude.{◌≡◌, ◌<◌, ℤ, pos, ◌+ℤ◌, ◌*ℤ◌, ◌≤ℤ◌, int_div, int_rem, unsigned_abs}

-- a is q times b and r more, where r is nearer to zero than b and lies on the side of a: so q drops the fraction toward zero
pub record Divided (a b q r : ℤ) : Type 0 where
  pub whole : a ≡ (q *ℤ b) +ℤ r
  pub smaller : unsigned_abs r < unsigned_abs b
  pub above : pos 0 ≤ℤ a → pos 0 ≤ℤ r
  pub below : a ≤ℤ pos 0 → r ≤ℤ pos 0

-- the quotient and the remainder of every two integers, by any but zero
abbrev pub Divides : Type 0
Divides = (a b : ℤ) → 0 < unsigned_abs b → Divided a b (int_div a b) (int_rem a b)
