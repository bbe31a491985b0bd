-- A trace that is read was written so. Assumes nothing.
use Rattle.std.proofs.Common.{◌≡◌, ℕ, zero, suc, ◌+◌, ◌<◌, ◌≤◌, eqb, ltb, leb, List, [], ◌∷◌, ◌++◌, length, get_or, take, drop, None, Ok, Err, sym, ap, ◌∙◌, subst, arith}
use Rattle.std.specs.List.{AllByRecursion}
use Rattle.std.proofs.ByRecursion.{All-take}
use Rattle.std.proofs.lemmas.Bool.{ltb-true, ltb-false, leb-true, eqb-true, cond_both}
use Rattle.std.proofs.lemmas.List.{append-nil, drop_all, drop_more, get_or_past}
use Rattle.values.specs.Types.{code}
use Rattle.values.specs.Bytes.{encoded}
use Rattle.syntax.specs.Parts.{type_from, value_from, end_of, span, result_to}
use Rattle.syntax.specs.Written.{joined}
use Rattle.syntax.proofs.Stand.{Stands, nothing, byte, join, as_byte, front_long, widened, Good, Ends, good_then, good_if, good_after, ends_to}
use Rattle.syntax.proofs.Parts.{TAt, VAt, SAt, sound_type, sound_value, sound_span, sized_stands}
use Rattle.traces.specs.Reading.{Cell, cell_from, cells, row_from, rows, read_trace}
use Rattle.traces.specs.Written.{write_cell, write_row, write, ProperCell, Small, Written}
use Rattle.traces.proofs.Turns.{ends_weaker, ends_turn, row_to}

-- nothing is left where the end is reached
at_end : {bs : List ℕ} (at : ℕ) → at ≤ length bs → length bs ≤ at → Stands bs at [] (length bs)
at_end {bs} at h p = let e : at ≡ length bs = omega arith in subst (λ n. Stands bs at [] n) e (nothing at)

module _ (bs : List ℕ) (small : AllByRecursion (λ b. b < 256) bs) where
  -- a cell stands where it was read, and ends within the bytes
  abbrev CellAt : ℕ → Cell → ℕ → Type 0
  CellAt at c n = Stands bs at (write_cell c) n × (n ≤ length bs) × ProperCell c

  sound_cell : (at : ℕ) → Good (CellAt at) (cell_from bs at)
  sound_cell at =
      good_if (CellAt at) (ltb at (length bs)) _ _ (λ b. let h = ltb-true at (length bs) b in
      cond_both (eqb (get_or bs at 0) 0) (Ok (None, at + 1)) _ (Good (CellAt at))
      (λ z. (as_byte (byte at h) (eqb-true (get_or bs at 0) 0 z), omega arith, tt))
      (λ _.
      good_then (TAt bs small at) (CellAt at) (type_from bs at) _ (sound_type bs small at) (λ t n p.
      good_then (VAt bs small t n) (CellAt at) (value_from bs t n) _ (sound_value bs small t n) (λ v m q.
      (subst (λ u. Stands bs at (code u ∷ encoded v) m) (sym q.2.0) (join p.0 q.0), q.1, q.2.1)))))

  -- cells stand to the end, at most so many
  abbrev CellsAt : ℕ → ℕ → List Cell → Type 0
  CellsAt k at cs = Stands bs at (joined write_cell cs) (length bs) × (length cs ≤ k) × AllByRecursion ProperCell cs

  sound_cells : (k at : ℕ) → at ≤ length bs → Ends (CellsAt k at) (cells k bs at)
  unfolding cells
  sound_cells zero at h =
      cond_both (ltb at (length bs)) (Err _) (Ok []) (Ends (CellsAt 0 at)) (λ _. tt) (λ b. (at_end at h (ltb-false at (length bs) b), omega arith, tt))
  sound_cells (suc k) at h =
      ends_turn (CellAt at) (CellsAt (suc k) at) bs at (cell_from bs at) (cells k bs) (sound_cell at)
      (λ c n p.
      ends_weaker (CellsAt k n) (λ cs. CellsAt (suc k) at (c ∷ cs)) (cells k bs n) (sound_cells k n p.1) (λ cs q. (join p.0 q.0, omega (arith, q.1), (p.2, q.2))))
      (λ past. (at_end at h past, omega arith, tt))

module _ (bs : List ℕ) (small : AllByRecursion (λ b. b < 256) bs) where
  -- a row stands where it was read, and the place after it is past its start
  abbrev pub RowAt : ℕ → List Cell → ℕ → Type 0
  RowAt at cs n = Stands bs at (write_row cs) n × (n ≤ length bs) × (n ≡ end_of bs at) × Small cs

  pub sound_row : (at : ℕ) → Good (RowAt at) (row_from bs at)
  unfolding row_from
  sound_row at =
      good_after (SAt bs at) (RowAt at) (span bs at) (row_to bs at) (sound_span bs at) (λ end s.
      let part = take end bs in
      let byte_part = All-take (λ b. b < 256) end bs small in
      let long = front_long bs end s.1 in
      let on = s.2 in
      good_after (CellsAt part byte_part 16 (at + 2)) (RowAt at) (result_to bs end (cells 16 part (at + 2))) (λ cs. Ok (cs, end)) (ends_to (CellsAt part byte_part 16 (at + 2)) bs end (cells 16 part (at + 2)) (sound_cells part byte_part 16 (at + 2) (omega (arith, long, on)))) (λ cs p.
      let inside = widened bs end s.1 (omega arith) (subst (λ n. Stands part (at + 2) (joined write_cell cs) n) long p.0) in
      (sized_stands bs small at end (joined write_cell cs) s inside, s.1, s.2, (p.1, p.2))))

  -- rows stand to the end
  abbrev RowsAt : ℕ → List (List Cell) → Type 0
  RowsAt at rs = Stands bs at (write rs) (length bs) × AllByRecursion Small rs

  sound_rows : (f at : ℕ) → at ≤ length bs → length bs ≤ at + f → Ends (RowsAt at) (rows f bs at)
  unfolding rows
  sound_rows zero at h l = (at_end at h (omega arith), tt)
  sound_rows (suc f) at h l =
      ends_turn (RowAt at) (RowsAt at) bs at (row_from bs at) (rows f bs) (sound_row at)
      (λ r n p.
      let on = p.2 in
      ends_weaker (RowsAt n) (λ rs. RowsAt at (r ∷ rs)) (rows f bs n) (sound_rows f n p.1 (omega (arith, on))) (λ rs q. (join p.0 q.0, (p.3, q.1))))
      (λ past. (at_end at h past, tt))

  trace_written : Ends (Written bs) (read_trace bs)
  unfolding read_trace
  trace_written =
      cond_both (eqb (get_or bs 0 0) 1) _ (Err _) (Ends (Written bs))
      (λ b.
      let v = eqb-true (get_or bs 0 0) 1 b in
      let some : 0 < length bs = grind (arith, get_or_past bs 0 0) in
      let last : drop (length bs) bs ≡ [] = drop_all (length bs) bs (omega arith) in
      cond_both (leb (length bs) 65536) (rows (length bs) bs 1) (Err _) (Ends (Written bs))
      (λ l.
      ends_weaker (RowsAt 1) (Written bs) (rows (length bs) bs 1) (sound_rows (length bs) 1 (omega arith) (omega arith)) (λ rs h.
      record {
        whole = drop_more bs 0 0 some ∙ (λ i. v i ∷ (h.0.here ∙ ap (λ t. write rs ++ t) last ∙ append-nil (write rs)) i);
        size = leb-true (length bs) 65536 l;
        small = h.1;
      }))
      (λ _. tt))
      (λ _. tt)

  -- the bytes whose rows are read were written so
  pub read_written : (rs : List (List Cell)) → read_trace bs ≡ Ok rs → Written bs rs
  read_written rs e = subst (λ r. Ends (Written bs) r) e trace_written
