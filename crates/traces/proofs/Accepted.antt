-- A trace that is written is read, and so reading accepts exactly what is written. Assumes nothing.
use Rattle.std.proofs.Common.{◌≡◌, ℕ, zero, suc, ◌+◌, ◌<◌, ◌≤◌, false, eqb, List, [], ◌∷◌, ◌++◌, length, get_or, take, drop, Some, None, Ok, sym, refl, ap, ◌∙◌, subst, arith}
use Rattle.std.specs.List.{AllByRecursion}
use Rattle.std.proofs.ByRecursion.{All-take}
use Rattle.std.proofs.lemmas.Bool.{lt-ltb, eq-eqb, cond-true, cond-false}
use Rattle.std.proofs.lemmas.List.{append-nil, drop_all}
use Rattle.values.specs.declared.types.«Type».{«Type» as Ty}
use Rattle.values.specs.declared.types.«Type».TheVariants as type
use Rattle.values.specs.Types.{code}
use Rattle.values.specs.Values.{type_of}
use Rattle.values.specs.Bytes.{encoded}
use Rattle.syntax.specs.Answers.{then}
use Rattle.syntax.specs.Parts.{value_from, result_to}
use Rattle.syntax.specs.Passing as passing
use Rattle.syntax.specs.Written.{joined}
use Rattle.syntax.proofs.Stand.{Stands, split, first, front_long, narrowed}
use Rattle.syntax.proofs.Parts.{type_is, value_is, span_is}
use Rattle.traces.specs.Reading.{Cell, cell_from, cells, row_from, rows, read_trace}
use Rattle.traces.specs.Written.{write_cell, write_row, write, ProperCell, Small, Written, AcceptsWritten}
use Rattle.traces.proofs.Turns.{onto, turn_is, cells_end, rows_end, row_is, trace_is}
use Rattle.traces.proofs.Sound.{read_written}

-- no type has the code of nothing
coded : (t : Ty) → eqb (code t) 0 ≡ false
coded type.Bool = refl
coded type.Word8 = refl
coded type.Word16 = refl
coded type.Word32 = refl
coded type.Word64 = refl
coded type.Int8 = refl
coded type.Int16 = refl
coded type.Int32 = refl
coded type.Int64 = refl

module _ (bs : List ℕ) (small : AllByRecursion (λ b. b < 256) bs) where
  cell_is : (c : Cell) (at n : ℕ) → Stands bs at (write_cell c) n → n ≤ length bs → ProperCell c → (at < length bs) × (cell_from bs at ≡ Ok (c, n))
  cell_is None at n s h p =
      let f = first 0 [] at n s h in
      let q = f.2.next in
      let m : at + 1 ≡ n = omega (arith, q) in
      (f.0, cond-true _ _ _ (lt-ltb at (length bs) f.0) ∙ cond-true _ _ _ (eq-eqb (get_or bs at 0) 0 f.1) ∙ ap (λ m. Ok (None, m)) m)
  cell_is (Some v) at n s h p =
      let t = type_of v in
      let f = first (code t) (encoded v) at n s h in (
        f.0,
        cond-true _ _ _ (lt-ltb at (length bs) f.0) ∙ cond-false _ _ _ (ap (λ b. eqb b 0) f.1 ∙ coded t)
            ∙ ap (λ x. then x (λ t n. then (value_from bs t n) (λ v m. Ok (Some v, m)))) (type_is bs small t at f.0 f.1)
            ∙ ap (λ x. then x (λ v m. Ok (Some v, m))) (value_is bs small v (at + 1) n f.2 h p),
      )

  cells_are : (k : ℕ) (cs : List Cell) (at : ℕ) → Stands bs at (joined write_cell cs) (length bs) → length cs ≤ k → AllByRecursion ProperCell cs → cells k bs at ≡ Ok cs
  unfolding cells
  cells_are k [] at s h l = let q = s.next in cells_end bs at k (omega (arith, q))
  cells_are zero (c ∷ cs) at s h l = absurd (omega arith)
  cells_are (suc k) (c ∷ cs) at s h l =
      let n = at + length (write_cell c) in
      let p = split (write_cell c) (joined write_cell cs) at (length bs) s in
      let q = p.1.next in
      let one = cell_is c at n p.0 (omega (arith, q)) l.0 in
      turn_is bs at (cell_from bs at) (cells k bs) (Ok (c, n)) one.0 one.1 ∙ ap (onto (c ∷ [])) (cells_are k cs n p.1 (omega arith) l.1)

module _ (bs : List ℕ) (small : AllByRecursion (λ b. b < 256) bs) where
  row_found : (cs : List Cell) (at n : ℕ) → Stands bs at (write_row cs) n → n ≤ length bs → Small cs → row_from bs at ≡ Ok (cs, n)
  row_found cs at n s h l =
      let part = take n bs in
      let sp = span_is bs small at n (joined write_cell cs) s h in
      let long = front_long bs n h in
      let inside = subst (λ m. Stands part (at + 2) (joined write_cell cs) m) (sym long) (narrowed bs n h (omega arith) sp.1) in
      row_is bs at (Ok n) (sym sp.0) ∙ ap (λ r. passing.then (result_to bs n r) (λ cs. Ok (cs, n))) (cells_are part (All-take (λ b. b < 256) n bs small) 16 cs (at + 2) inside l.0 l.1)

  rows_are : (f : ℕ) (rs : List (List Cell)) (at : ℕ) → Stands bs at (write rs) (length bs) → length bs ≤ at + f → AllByRecursion Small rs → rows f bs at ≡ Ok rs
  unfolding rows
  rows_are f [] at s h l = let q = s.next in rows_end bs at f (omega (arith, q))
  rows_are zero (r ∷ rs) at s h l = absurd (let q = s.next in omega (arith, q))
  rows_are (suc f) (r ∷ rs) at s h l =
      let n = at + length (write_row r) in
      let p = split (write_row r) (write rs) at (length bs) s in
      let q = p.1.next in
      turn_is bs at (row_from bs at) (rows f bs) (Ok (r, n)) (omega (arith, q)) (row_found r at n p.0 (omega (arith, q)) l.0)
      ∙ ap (onto (r ∷ [])) (rows_are f rs n p.1 (omega arith) l.1)

  written_read : (rs : List (List Cell)) → Written bs rs → read_trace bs ≡ Ok rs
  written_read rs w =
      let last : drop (length bs) bs ≡ [] = drop_all (length bs) bs (omega arith) in
      let here : drop 1 bs ≡ write rs ++ drop (length bs) bs = ap (drop 1) w.whole ∙ sym (append-nil (write rs)) ∙ ap (λ t. write rs ++ t) (sym last) in
      let size : length bs ≡ 1 + length (write rs) = ap length w.whole ∙ omega arith in
      trace_is bs (ap (λ xs. get_or xs 0 0) w.whole) w.size ∙ rows_are (length bs) rs 1 record { here = here; next = size } (omega arith) w.small

  pub accepts_written : AcceptsWritten bs
  accepts_written rs = (read_written bs small rs, written_read rs)
