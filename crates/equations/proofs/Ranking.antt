-- An order that has each number once: the place of a number, and the number at a place. Assumes nothing.
use Rattle.std.proofs.Common.{◌≡◌, ℕ, zero, suc, ◌<◌, ◌≤◌, cond, eqb, List, [], ◌∷◌, length, get_or, ap, ◌∙◌, inl, inr, arith, eq-eqb, ne_eqb}
use Rattle.std.proofs.lemmas.Bool.{cases_lt, cases_eq, cond-true, cond-false}
use Rattle.layout.specs.Orders.{EachOnce}

-- the first place of s in a list
abbrev pub place : List ℕ → ℕ → ℕ
place [] s = 0
place (x ∷ xs) s = cond (eqb x s) 0 (suc (place xs s))

-- where s is at i, its first place is at i or before, and has s
found : (xs : List ℕ) (s i : ℕ) → i < length xs → get_or xs i 0 ≡ s → (place xs s ≤ i) × (get_or xs (place xs s) 0 ≡ s)
found [] s i l e = absurd (omega arith)
found (x ∷ xs) s zero l e =
    let here : place (x ∷ xs) s ≡ 0 = cond-true _ _ _ (eq-eqb x s e) in
    (omega arith, ap (λ (k : ℕ). get_or (x ∷ xs) k 0) here ∙ e)
found (x ∷ xs) s (suc i) l e = elim (cases_eq x s) [
  | inl is ↦
      let here : place (x ∷ xs) s ≡ 0 = cond-true _ _ _ (eq-eqb x s is) in
      (omega arith, ap (λ (k : ℕ). get_or (x ∷ xs) k 0) here ∙ is)
  | inr ne ↦
      let here : place (x ∷ xs) s ≡ suc (place xs s) = cond-false _ _ _ (ne_eqb x s ne) in
      let rest = found xs s i (omega arith) e in
      (omega (arith, rest.0), ap (λ (k : ℕ). get_or (x ∷ xs) k 0) here ∙ rest.1)
]

module _ (n : ℕ) (xs : List ℕ) (each : EachOnce n xs) where
  pub ranked : (s : ℕ) → s < n → place xs s < n
  ranked s l = let (i, li, e) = each.every s l in let f = found xs s i (omega (arith, li, each.long)) e in omega (arith, f.0, li)

  pub order_of : (s : ℕ) → s < n → get_or xs (place xs s) 0 ≡ s
  order_of s l = let (i, li, e) = each.every s l in (found xs s i (omega (arith, li, each.long)) e).1

  pub rank_of : (k : ℕ) → k < n → place xs (get_or xs k 0) ≡ k
  rank_of k l =
      let f = found xs (get_or xs k 0) k (omega (arith, l, each.long)) (λ _. get_or xs k 0) in
      elim (cases_lt (place xs (get_or xs k 0)) k) [
        | inl less ↦ absurd (each.apart (place xs (get_or xs k 0)) k less l f.1)
        | inr same ↦ omega (arith, f.0, same)
      ]
