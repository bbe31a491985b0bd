-- A record has one lead, and its ring one length. Assumes nothing.
use Rattle.std.proofs.Common.{◌≡◌, ℕ, ℤ, ◌≤ℤ◌, sym, inl, inr, arith}
use Rattle.std.proofs.lemmas.Int.{ints}
use Rattle.walks.specs.Walks.{Graph, In, Lead, reach, Ring}

module _ {R N : Type 0} (G : Graph R N) where
  pub lead_one : (s : N) (x y : ℤ) → Lead G s x → Lead G s y → x ≡ y
  lead_one s x y k l =
      let (a, v, p, e) = k.reached in
      let (b, w, q, f) = l.reached in
      omega (arith, ints, l.most a v p, k.most b w q)

  -- leads that agree on a record and on all that is read give its ring one smallest reach
  least_below : (lead lead' : N → ℤ) (q : N) (n n' : ℕ) → lead q ≡ lead' q → ((r : R) → In r G.references → reach G lead r ≡ reach G lead' r) →
      (k : Ring G lead q n) (l : Ring G lead' q n') → k.least ≤ℤ l.least
  least_below lead lead' q n n' own same k l = elim l.met [
    | inl e ↦ omega (arith, ints, k.own)
    | inr (r, m, e, is) ↦ omega (arith, ints, k.all r m e, same r m)
  ]

  pub ring_one : (lead lead' : N → ℤ) (q : N) (n n' : ℕ) → lead q ≡ lead' q → ((r : R) → In r G.references → reach G lead r ≡ reach G lead' r) →
      Ring G lead q n → Ring G lead' q n' → n ≡ n'
  ring_one lead lead' q n n' own same k l = omega (
    arith,
    ints,
    k.is,
    l.is,
    least_below lead lead' q n n' own same k l,
    least_below lead' lead q n' n (sym own) (λ r m. sym (same r m)) l k,
  )
