-- The rows that are left of a trace. Assumes nothing.
use Rattle.std.proofs.Common.{◌≡◌, ℕ, zero, suc, ◌+◌, ◌-◌, ◌<◌, ◌≤◌, true, cond, ltb, is_ok, List, [], ◌∷◌, length, get_or, take, Ok, Err, Result, sym, refl, ap, ◌∙◌, arith, ⊎_elim}
use Rattle.std.proofs.lemmas.Bool.{cases_lt}
use Rattle.faults.specs.Causes.{Refusal}
use Rattle.syntax.specs.Answers.{Found, then}
use Rattle.syntax.specs.Parts.{span, result_to}
use Rattle.syntax.proofs.Stand.{Good, Ends, good_after}
use Rattle.syntax.proofs.Parts.{SAt, sound_span}
use Rattle.syntax.proofs.Same.{then_same}
use Rattle.traces.specs.Reading.{Cell, cells, row_from, rows, read_trace}
use Rattle.traces.specs.Traces.{found, left}
use Rattle.traces.specs.Written.{Written}
use Rattle.traces.proofs.Turns.{onto, turn_is, rows_turn, rows_end, row_to, trace_is}

-- a row before the others, where none of them is refused
found_one : (r : List Cell) (rest : Result (List (List Cell)) Refusal) → is_ok (onto (r ∷ []) rest) ≡ true → (found (onto (r ∷ []) rest) ≡ r ∷ found rest) × (is_ok rest ≡ true)
found_one r (Ok rs) h = (refl, refl)
found_one r (Err x) h = absurd (cc)

any : {X : Type 0} (r : Result X Refusal) → Ends (λ _. Unit {0}) r
any (Ok x) = tt
any (Err c) = tt

module _ (bs : List ℕ) where
  -- the place after a row is past the row's start
  row_on : (at : ℕ) → Good (λ _ n. at < n) (row_from bs at)
  unfolding row_from
  row_on at =
      good_after (SAt bs at) (λ _ n. at < n) (span bs at) (row_to bs at) (sound_span bs at) (λ end s.
      let long = s.2 in
      good_after (λ _. Unit {0}) (λ _ n. at < n) (result_to bs end (cells 16 (take end bs) (at + 2))) (λ cs. Ok (cs, end)) (any (result_to bs end (cells 16 (take end bs) (at + 2)))) (λ cs _. omega (arith, long)))

  -- as many turns as bytes are left are enough, and more change nothing
  rows_same : (f g at : ℕ) → length bs ≤ at + f → length bs ≤ at + g → rows f bs at ≡ rows g bs at
  unfolding rows
  rows_same zero g at h k = sym (rows_end bs at g (omega arith))
  rows_same (suc f) zero at h k = rows_end bs at (suc f) (omega arith)
  rows_same (suc f) (suc g) at h k =
      ap (λ t. cond (ltb at (length bs)) t (Ok []))
      (then_same (λ p. at < p.1) (row_from bs at) (λ p. onto (p.0 ∷ []) (rows f bs p.1)) (λ p. onto (p.0 ∷ []) (rows g bs p.1)) (row_on at) (λ p on. ap (onto (p.0 ∷ [])) (rows_same f g p.1 (omega arith) (omega arith))))

  -- a row that was read is the first of those left, and the others are left from the place after it
  pub one_less : (at n : ℕ) (r : List Cell) → at < n → n ≤ length bs → row_from bs at ≡ Ok (r, n) → is_ok (rows (length bs) bs at) ≡ true → (left bs at ≡ r ∷ left bs n) × (is_ok (rows (length bs) bs n) ≡ true)
  one_less at n r on inside e whole =
      let all : rows (length bs) bs at ≡ onto (r ∷ []) (rows (length bs) bs n) =
      rows_turn bs at (length bs) (omega arith) ∙ turn_is bs at (row_from bs at) (rows (length bs - 1) bs) (Ok (r, n)) (omega arith) e
      ∙ ap (onto (r ∷ [])) (rows_same (length bs - 1) (length bs) n (omega arith) (omega arith)) in
      let p = found_one r (rows (length bs) bs n) (sym (ap is_ok all) ∙ whole) in
      (ap found all ∙ p.0, p.1)

  -- where all was looked at, a row is refused only at the end
  pub none_left : (at : ℕ) (x : Refusal) → row_from bs at ≡ Err x → is_ok (rows (length bs) bs at) ≡ true → left bs at ≡ []
  none_left at x e whole =
      ⊎_elim
      (λ (h : at < length bs).
      let all : rows (length bs) bs at ≡ Err x = rows_turn bs at (length bs) (omega arith) ∙ turn_is bs at (row_from bs at) (rows (length bs - 1) bs) (Err x) h e in
      absurd (let z = sym (ap is_ok all) ∙ whole in cc))
      (λ (h : length bs ≤ at). ap found (rows_end bs at (length bs) h))
      (cases_lt at (length bs))

-- the bytes of a trace that is opened, kept as items, have its rows left
pub all_left : (bs items : List ℕ) (rs : List (List Cell)) → items ≡ bs → Written bs rs → read_trace bs ≡ Ok rs → rows (length items) items 1 ≡ Ok rs
all_left bs items rs same w e = ap (λ l. rows (length l) l 1) same ∙ sym (trace_is bs (ap (λ l. get_or l 0 0) w.whole) w.size) ∙ e
