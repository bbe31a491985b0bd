-- A closed walk that comes to no node twice, begun at the lowest of its nodes. Assumes nothing.
use Rattle.std.proofs.Common.{◌≡◌, ℕ, zero, suc, ◌+◌, ◌-◌, ◌≤◌, List, ◌++◌, length, ◌+ℤ◌, ap, ◌∙◌, subst, arith, length-append}
use native.Mathlib.Decide.{dec_lt}
use Rattle.std.proofs.lemmas.Int.{ints}
use Rattle.walks.specs.Walks.{Graph, weigh, at, Apart, Rising}
use Rattle.walks.proofs.Count.{apart_short}
use Rattle.walks.proofs.Cut.{walk_append, weigh_append, Cut, cut}
use Rattle.walks.proofs.Rings.{Through, on_ring}

-- the least of f 0 to f n
least : (f : ℕ → ℕ) (n : ℕ) → (i : ℕ) × (i ≤ n) × ((j : ℕ) → j ≤ n → f i ≤ f j)
least f zero = (0, omega arith, λ j h. let e : 0 ≡ j = omega arith in subst (λ (x : ℕ). f 0 ≤ f x) e (omega arith))
least f (suc n) =
    let (i, l, all) = least f n in
    elim (dec_lt (f (suc n)) (f i)) [
      | yes less ↦ (suc n, omega arith, next (suc n) (λ j h. omega (arith, all j h)) (omega arith))
      | no more ↦ (i, omega arith, next i all (omega arith))
    ]
  where
    next : (i : ℕ) → ((j : ℕ) → j ≤ n → f i ≤ f j) → f i ≤ f (suc n) → (j : ℕ) → j ≤ suc n → f i ≤ f j
    next i all here j h = elim (dec_lt n j) [
      | yes more ↦ let e : suc n ≡ j = omega arith in subst (λ (x : ℕ). f i ≤ f x) e here
      | no less ↦ all j (omega arith)
    ]

module _ {R : Type 0} (G : Graph R ℕ) where
  -- begun after its first i references, a closed walk is one of the same length and weight
  turned : (a : ℕ) (w : List R) (i : ℕ) → i ≤ length w → Rising G a w → (v : List R) × Rising G (at G a w i) v × (length v ≡ length w)
  turned a w i h r =
      let c : Cut G a w a i = cut G a w a i h r.walk in
      let lw : length w ≡ length c.front + length c.back = ap length c.whole ∙ length-append c.front c.back in
      let lv : length (c.back ++ c.front) ≡ length c.back + length c.front = length-append c.back c.front in
      let ww : weigh G w ≡ weigh G c.front +ℤ weigh G c.back = ap (weigh G) c.whole ∙ weigh_append G c.front c.back in
      let wv : weigh G (c.back ++ c.front) ≡ weigh G c.back +ℤ weigh G c.front = weigh_append G c.back c.front in (
        c.back ++ c.front,
        record {
          walk = walk_append G (at G a w i) a (at G a w i) c.back c.front c.then c.first;
          some = omega (arith, r.some);
          heavy = omega (arith, ints, r.heavy);
        },
        omega arith,
      )

  -- begun at its lowest node m, it has no more references than there are nodes from m on
  pub lowest : (lo n : ℕ) → Through G lo n → (a : ℕ) (w : List R) → Rising G a w → Apart (at G a w) (length w) →
      (m : ℕ) × (v : List R) × Rising G m v × (length v ≡ length w) × (length v ≤ lo + n - m)
  lowest lo n through a w r apart =
      let (i, l, all) = least (at G a w) (length w - 1) in
      let (v, q, long) = turned a w i (omega arith) r in
      let m : ℕ = at G a w i in
      let short : length w ≤ lo + n - m = apart_short (at G a w) m (lo + n - m) (length w)
      (λ j h. (all j (omega arith), omega (arith, on_ring G lo n through a w r.walk j h, all j (omega arith)))) apart in
      (m, v, q, long, omega arith)
