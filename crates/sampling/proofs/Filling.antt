-- A row that is filled channel by channel. Assumes nothing.
use Rattle.std.proofs.Common.{◌≡◌, ℕ, ◌+◌, ◌<◌, ◌≤◌, ⊎_elim, cond, None, Option, sym, ap, ◌∙◌, arith}
use Rattle.std.proofs.lemmas.Bool.{lt-ltb, eq-eqb, ne_eqb, cases_lt}
use Rattle.values.specs.declared.value.Value.{Value}
use Rattle.sampling.specs.Rows.{Readings, updated, placed}

-- the channels below n read what is wanted, and the others nothing
abbrev pub Filled : Readings → ℕ → Readings → Type 0
Filled want n s = ((k : ℕ) → k < n → s k ≡ want k) × ((k : ℕ) → n ≤ k → s k ≡ None)

module _ {t : Readings} (s want : Readings) (i : ℕ) (o : Option Value) (inside : i < 16) (is : t ≡ placed s i o) where
  updates : (k : ℕ) → t k ≡ updated s i o k
  updates k = ap (λ (f : Readings). f k) is ∙ ap (λ b. cond b (updated s i o) s k) (lt-ltb i 16 inside)

  here : (k : ℕ) → k ≡ i → t k ≡ o
  here k e = updates k ∙ ap (λ b. cond b o (s k)) (eq-eqb k i e)

  elsewhere : (k : ℕ) → (k ≡ i → ⊥) → t k ≡ s k
  elsewhere k n = updates k ∙ ap (λ b. cond b o (s k)) (ne_eqb k i n)

  pub filled_more : o ≡ want i → Filled want i s → Filled want (i + 1) t
  filled_more e f = (
    (λ k h.
        ⊎_elim (λ below. elsewhere k (omega (arith, below)) ∙ f.0 k below)
        (λ past. let same : k ≡ i = omega arith in here k same ∙ e ∙ ap want (let back : i ≡ k = omega arith in back))
        (cases_lt k i)),
    (λ k h. elsewhere k (omega (arith, h)) ∙ f.1 k (omega arith)),
  )

-- a row is full after sixteen
pub filled_all : (s want : Readings) (i : ℕ) → 16 ≤ i → ((k : ℕ) → 15 < k → want k ≡ None) → ((k : ℕ) → 15 < k → s k ≡ None) → Filled want i s → (k : ℕ) → s k ≡ want k
filled_all s want i past short bare f k =
    ⊎_elim (λ below. f.0 k (omega arith)) (λ above. bare k (omega arith) ∙ sym (short k (omega arith))) (cases_lt k 16)
