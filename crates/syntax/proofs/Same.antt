-- Bytes that are the same up to a place: what is read before it is the same. Assumes nothing.
use Rattle.std.proofs.Common.{◌≡◌, ℕ, ◌+◌, ◌*◌, ◌<◌, ◌≤◌, cond, eqb, ltb, leb, List, length, get_or, take, Ok, Err, Result, sym, refl, ap, ◌∙◌, arith}
use Rattle.std.proofs.lemmas.List.{get_or-take, take-take}
use Rattle.faults.specs.Causes.{Refusal, refusal}
use Rattle.faults.specs.declared.cause.Cause.TheVariants.{Ended}
use Rattle.syntax.specs.Parts.{span, refusal_or, result_to}
use Rattle.syntax.specs.Passing.{then}
use Rattle.syntax.specs.Refusing.{IsSameTo}
use Rattle.syntax.proofs.Stand.{Ends}

-- what comes of a result is the same, where it is the same of all that P holds of
pub then_same : {X Y : Type 0} (P : X → Type 0) (r : Result X Refusal) (f g : X → Result Y Refusal) → Ends P r → ((x : X) → P x → f x ≡ g x) → then r f ≡ then r g
then_same P (Ok x) f g h k = k x h
then_same P (Err x) f g h k = refl

module _ {bs other : List ℕ} {end : ℕ} (same : IsSameTo end bs other) where
  pub byte_same : (i : ℕ) → i < end → get_or other i 0 ≡ get_or bs i 0
  byte_same i h = sym (get_or-take end other i 0 h) ∙ ap (λ l. get_or l i 0) same.front ∙ get_or-take end bs i 0 h

  pub front_same : (n : ℕ) → n ≤ end → take n other ≡ take n bs
  front_same n h = sym (take-take n end other h) ∙ ap (take n) same.front ∙ take-take n end bs h

  pub same_less : (n : ℕ) → n ≤ end → IsSameTo n bs other
  same_less n h = record { size = same.size; front = front_same n h }

  pub span_same : (at : ℕ) → at + 2 ≤ end → span other at ≡ span bs at
  span_same at h =
      let a = byte_same at (omega arith) in
      let b = byte_same (at + 1) (omega arith) in
      let l = same.size in
      λ i. cond (ltb (at + 1) (l i)) (cond (leb (at + 2 + (a i * 256 + b i)) (l i)) (Ok (at + 2 + (a i * 256 + b i))) (Err (refusal (Ended at)))) (Err (refusal (Ended at)))

  pub result_same : {Y : Type 0} (at : ℕ) (r : Result Y Refusal) → at + 2 ≤ end → result_to other at r ≡ result_to bs at r
  result_same at (Ok y) h = refl
  result_same at (Err x) h =
      let s = span_same at h in
      let l = same.size in
      λ i. Err (cond (eqb x.1 at) (cond (ltb at (l i)) (refusal_or (s i) x) x) x)
