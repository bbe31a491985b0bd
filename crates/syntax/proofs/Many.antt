-- Parts read one after another, and how many records are of a kind: a loop's steps. Assumes nothing.
use Rattle.std.proofs.Common.{◌≡◌, ℕ, suc, ◌+◌, ◌-◌, ◌<◌, ◌≤◌, List, [], ◌∷◌, ◌++◌, Ok, Err, sym, refl, ap, ◌∙◌, arith}
use Rattle.std.proofs.lemmas.List.{append-nil, append_assoc}
use Rattle.faults.specs.Causes.{Refusal, refusal}
use Rattle.faults.specs.declared.cause.Cause.{Cause}
use Rattle.faults.specs.declared.stop.Stop.{Stop}
use Rattle.faults.specs.declared.stop.Stop.TheVariants.{Refused, Memory}
use Rattle.syntax.specs.Readers.{Stopped}
use Rattle.syntax.specs.Answers.{Found, then}
use Rattle.syntax.specs.Reading.{many}

-- what was read before goes in front
abbrev pub onto : {X : Type 0} → List X → Found (List X) → Found (List X)
onto xs (Ok p) = Ok (xs ++ p.0, p.1)
onto xs (Err x) = Err x

onto_none : {X : Type 0} (f : Found (List X)) → f ≡ onto [] f
onto_none (Ok p) = refl
onto_none (Err x) = refl

onto_one : {X : Type 0} (xs : List X) (x : X) (f : Found (List X)) → onto xs (then f (λ ys k. Ok (x ∷ ys, k))) ≡ onto (xs ++ (x ∷ [])) f
onto_one xs x (Ok p) = ap (λ l. Ok (l, p.1)) (sym (append_assoc xs (x ∷ []) p.0))
onto_one xs x (Err e) = refl

module _ {X : Type 0} (one : ℕ → Found X) where
  pub many_one : (k at : ℕ) (x : X) (n : ℕ) → one at ≡ Ok (x, n) → many one (suc k) at ≡ then (many one k n) (λ ys m. Ok (x ∷ ys, m))
  unfolding many
  many_one k at x n e = ap (λ h. then h (λ x m. then (many one k m) (λ ys l. Ok (x ∷ ys, l)))) e

  pub many_stop : (k at : ℕ) (x : Refusal) → one at ≡ Err x → many one (suc k) at ≡ Err x
  unfolding many
  many_stop k at x e = ap (λ h. then h (λ x m. then (many one k m) (λ ys l. Ok (x ∷ ys, l)))) e

  pub many_none : (at : ℕ) → many one 0 at ≡ Ok ([], at)
  unfolding many
  many_none at = refl

  module _ (whole : Found (List X)) where
    pub many_more : (items : List X) (k i at : ℕ) (x : X) (n : ℕ) → i < k → one at ≡ Ok (x, n) → whole ≡ onto items (many one (k - i) at) → whole ≡ onto (items ++ (x ∷ [])) (many one (k - (i + 1)) n)
    many_more items k i at x n h e w =
        let s : k - i ≡ suc (k - (i + 1)) = omega arith in
        w ∙ ap (λ m. onto items (many one m at)) s ∙ ap (onto items) (many_one (k - (i + 1)) at x n e) ∙ onto_one items x _

    pub many_err : (items : List X) (k i at : ℕ) (x : Refusal) → i < k → one at ≡ Err x → whole ≡ onto items (many one (k - i) at) → whole ≡ Err x
    many_err items k i at x h e w =
        let s : k - i ≡ suc (k - (i + 1)) = omega arith in
        w ∙ ap (λ m. onto items (many one m at)) s ∙ ap (onto items) (many_stop (k - (i + 1)) at x e)

    pub many_end : (items : List X) (k i at : ℕ) → k ≤ i → whole ≡ onto items (many one (k - i) at) → whole ≡ Ok (items, at)
    many_end items k i at h w =
        let s : k - i ≡ 0 = omega arith in
        w ∙ ap (λ m. onto items (many one m at)) s ∙ ap (onto items) (many_none at) ∙ ap (λ l. Ok (l, at)) (append-nil items)

    -- what stops one part stops the whole
    pub many_stopped : (s : Stop Cause) (items : List X) (k i at : ℕ) → i < k → Stopped s (one at) → whole ≡ onto items (many one (k - i) at) → Stopped s whole
    many_stopped (Refused x) items k i at h e w = many_err items k i at (refusal x) h e w
    many_stopped Memory items k i at h e w = tt
