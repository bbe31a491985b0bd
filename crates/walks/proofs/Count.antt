-- Search below a bound, and the pigeonhole. Assumes nothing.
use Rattle.std.proofs.Common.{◌≡◌, ℕ, zero, suc, ◌+◌, ◌-◌, ◌<◌, ◌≤◌, min, ◌⊎◌, sym, subst, inl, inr, arith}
use native.Mathlib.Decide.{ℕ_discrete, dec_lt}
use Rattle.walks.specs.Walks.{Apart}

abbrev pub Repeats : (ℕ → ℕ) → ℕ → Type 0
Repeats f m = (i : ℕ) × (j : ℕ) × (i < j) × (j < m) × (f i ≡ f j)

below_suc : (i m : ℕ) → i < suc m → (i < m) ⊎ (m ≡ i)
below_suc i m h = elim (dec_lt i m) [ yes p ↦ inl p | no q ↦ inr (omega arith) ]

-- some number below m has P, or none has
abbrev Somewhere : (ℕ → Type 0) → ℕ → Type 0
Somewhere P m = (i : ℕ) × (i < m) × P i

abbrev Nowhere : (ℕ → Type 0) → ℕ → Type 0
Nowhere P m = (i : ℕ) → i < m → ¬ P i

nowhere_more : (P : ℕ → Type 0) (m : ℕ) → Nowhere P m → ¬ P m → Nowhere P (suc m)
nowhere_more P m none here i h p = elim (below_suc i m h) [ inl l ↦ none i l p | inr e ↦ here (subst P (sym e) p) ]

somewhere? : (P : ℕ → Type 0) → ((i : ℕ) → Dec (P i)) → (m : ℕ) → Somewhere P m ⊎ Nowhere P m
somewhere? P d zero = inr (λ i h. absurd (omega arith))
somewhere? P d (suc m) = elim (somewhere? P d m) [
  | inl (i, l, p) ↦ inl (i, omega arith, p)
  | inr none ↦ elim (d m) [ yes p ↦ inl (m, omega arith, p) | no q ↦ inr (nowhere_more P m none q) ]
]

-- x, with the place v closed up
abbrev squash : ℕ → ℕ → ℕ
squash v x = x - min 1 (x - v)

pub pigeonhole : (n m : ℕ) (f : ℕ → ℕ) → ((i : ℕ) → i < m → f i < n) → n < m → Repeats f m
pigeonhole zero m f below h = absurd (omega (arith, below 0 (omega arith)))
pigeonhole (suc n) zero f below h = absurd (omega arith)
pigeonhole (suc n) (suc m) f below h =
    elim (somewhere? (λ i. f i ≡ f m) (λ i. ℕ_discrete (f i) (f m)) m) [
      | inl (i, l, e) ↦ (i, m, l, omega arith, e)
      | inr none ↦
          let r : Repeats (λ i. squash (f m) (f i)) m =
          pigeonhole n m (λ i. squash (f m) (f i)) (λ i l. omega (arith, below i (omega arith), below m (omega arith), none i l)) (omega arith) in
          (r.0, r.1, r.2, omega (arith, r.3), omega (arith, r.4, none r.0 (omega (arith, r.2, r.3)), none r.1 r.3))
    ]

pub apart? : (f : ℕ → ℕ) (m : ℕ) → Repeats f m ⊎ Apart f m
apart? f zero = inr (λ i j l h. absurd (omega arith))
apart? f (suc m) = elim (apart? f m) [
  | inl (i, j, l, h, e) ↦ inl (i, j, l, omega arith, e)
  | inr apart ↦ elim (somewhere? (λ i. f i ≡ f m) (λ i. ℕ_discrete (f i) (f m)) m) [
    | inl (i, l, e) ↦ inl (i, m, l, omega arith, e)
    | inr none ↦ inr (λ i j l h. elim (below_suc j m h) [
      | inl k ↦ apart i j l k
      | inr e ↦ subst (λ (x : ℕ). i < x → ¬ (f i ≡ f x)) e (none i) l
    ])
  ]
]

-- what takes no value twice, and only values from lo on below lo + n, takes at most n
pub apart_short : (f : ℕ → ℕ) (lo n m : ℕ) → ((i : ℕ) → i < m → (lo ≤ f i) × (f i < lo + n)) → Apart f m → m ≤ n
apart_short f lo n m within apart = elim (dec_lt n m) [
  | yes l ↦
      let r : Repeats (λ i. f i - lo) m = pigeonhole n m (λ i. f i - lo) (λ i h. omega (arith, within i h)) l in
      absurd (apart r.0 r.1 r.2 r.3 (omega (arith, r.4, within r.0 (omega (arith, r.2, r.3)), within r.1 r.3)))
  | no q ↦ omega arith
]
