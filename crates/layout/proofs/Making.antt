-- An array that a closure makes number by number, where calls leave the closure as it was. Assumes nothing.
use Rattle.std.proofs.Common.{◌≡◌, ℕ, zero, suc, ◌+◌, ◌<◌, ◌≤◌, List, get_or, sym, refl, subst, arith}
use native.Mathlib.Decide.{ℕ_discrete}
use denote.Param.Members.{Mut}
use Rattle.std.specs.Array.{IsFromFnResultFrom, IsFromFnResult}
use Rattle.std.specs.Fn.{Called}

-- P holds of what each call gives
module _ {F B : Type 0} (g : Mut F (ℕ × Unit {0}) B) (f : F) (ys : List B) (P : ℕ → B → Type 0)
    (gives : (i : ℕ) (y : B) (q : F) → Called g f (i, tt) y q → P i y × (q ≡ f)) where
  made_from : (n i : ℕ) (p : F) → p ≡ f → IsFromFnResultFrom g p ys i n → (k : ℕ) (d : B) → i ≤ k → k < i + n → P k (get_or ys k d)
  made_from zero i p e made k d l h = absurd (omega arith)
  made_from (suc n) i p e (q, y, at, called, rest) k d l h =
      let (here, same) = gives i y q (subst (λ (x : F). Called g x (i, tt) y q) e called) in
      elim (ℕ_discrete i k) [
        | yes s ↦ subst (λ (x : ℕ). P x (get_or ys x d)) s (subst (P i) (sym (at.1 d)) here)
        | no o ↦ made_from n (i + 1) q same rest k d (omega arith) (omega arith)
      ]

  pub made_each : (n : ℕ) → IsFromFnResult g f ys n → (k : ℕ) (d : B) → k < n → P k (get_or ys k d)
  made_each n made k d l = made_from n 0 f refl made.each k d (omega arith) (omega arith)
