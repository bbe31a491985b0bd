-- Cells and rows one after another to the end of the bytes, and what reading them is where a part was read. Assumes nothing.
use Rattle.std.proofs.Common.{◌≡◌, ℕ, zero, suc, ◌+◌, ◌-◌, ◌<◌, ◌≤◌, cond, ltb, List, [], ◌∷◌, ◌++◌, length, get_or, take, Ok, Err, Result, sym, refl, ap, ◌∙◌, arith}
use Rattle.std.proofs.lemmas.Bool.{lt-ltb, le-ltb, le-leb, eq-eqb, cond-true, cond-false, cond_both, ltb-false}
use Rattle.std.proofs.lemmas.Bool.Decides.{nat_tests}
use Rattle.std.proofs.lemmas.List.{append_assoc, append-nil, length-append, get_or_append_left, get_or_push, get_or_past}
use Rattle.faults.specs.Causes.{Refusal, refusal}
use Rattle.faults.specs.declared.cause.Cause.TheVariants.{Malformed}
use Rattle.syntax.specs.Answers.{Found, then}
use Rattle.syntax.specs.Parts.{span, result_to}
use Rattle.syntax.specs.Passing as passing
use Rattle.syntax.proofs.Stand.{Good, Ends}
use Rattle.sampling.specs.Rows.{placed}
use Rattle.traces.specs.Reading.{Cell, cell_from, cells, row_from, rows, read_trace}
use Rattle.traces.specs.Rows.{row_of}

-- what was read before goes in front
abbrev pub onto : {X : Type 0} → List X → Result (List X) Refusal → Result (List X) Refusal
onto xs r = passing.then r (λ ys. Ok (xs ++ ys))

-- one part at a place and the rest from the place after it; nothing at the end
abbrev pub turn : {X : Type 0} → List ℕ → ℕ → Found X → (ℕ → Result (List X) Refusal) → Result (List X) Refusal
turn bs at one rest = cond (ltb at (length bs)) (then one (λ x n. onto (x ∷ []) (rest n))) (Ok [])

pub onto_none : {X : Type 0} (r : Result (List X) Refusal) → r ≡ onto [] r
onto_none (Ok xs) = refl
onto_none (Err x) = refl

onto_one : {X : Type 0} (xs : List X) (x : X) (r : Result (List X) Refusal) → onto xs (onto (x ∷ []) r) ≡ onto (xs ++ (x ∷ [])) r
onto_one xs x (Ok ys) = ap Ok (sym (append_assoc xs (x ∷ []) ys))
onto_one xs x (Err e) = refl

module _ {X : Type 0} (bs : List ℕ) (at : ℕ) (one : Found X) (rest : ℕ → Result (List X) Refusal) where
  -- before the end a turn is what comes of its part
  pub turn_is : (part : Found X) → at < length bs → one ≡ part → turn bs at one rest ≡ then part (λ x n. onto (x ∷ []) (rest n))
  turn_is part h e = cond-true _ _ _ (lt-ltb at (length bs) h) ∙ ap (λ f. then f (λ x n. onto (x ∷ []) (rest n))) e

  pub turn_end : length bs ≤ at → turn bs at one rest ≡ Ok []
  turn_end h = cond-false _ _ _ (le-ltb at (length bs) h)

  -- a whole of which some parts were read, and one turn more
  module _ (whole : Result (List X) Refusal) (xs : List X) (left : Result (List X) Refusal) (so_far : whole ≡ onto xs left) (is : left ≡ turn bs at one rest) where
    pub whole_more : (x : X) (n : ℕ) → at < length bs → one ≡ Ok (x, n) → whole ≡ onto (xs ++ (x ∷ [])) (rest n)
    whole_more x n h e = so_far ∙ ap (onto xs) (is ∙ turn_is (Ok (x, n)) h e) ∙ onto_one xs x (rest n)

    pub whole_err : (x : Refusal) → at < length bs → one ≡ Err x → whole ≡ Err x
    whole_err x h e = so_far ∙ ap (onto xs) (is ∙ turn_is (Err x) h e)

-- a whole of which nothing is left
pub whole_end : {X : Type 0} (whole : Result (List X) Refusal) (xs : List X) (left : Result (List X) Refusal) → whole ≡ onto xs left → left ≡ Ok [] → whole ≡ Ok xs
whole_end whole xs left so_far e = so_far ∙ ap (onto xs) e ∙ ap Ok (append-nil xs)

-- Q of what reading ends with, where P of it gives Q
pub ends_weaker : {Y : Type 0} (P Q : Y → Type 0) (r : Result Y Refusal) → Ends P r → ((y : Y) → P y → Q y) → Ends Q r
ends_weaker P Q (Ok y) h k = k y h
ends_weaker P Q (Err x) h k = tt

module _ {X : Type 0} (P : X → ℕ → Type 0) (Q : List X → Type 0) where
  ends_onto : (x : X) (r : Result (List X) Refusal) → Ends (λ xs. Q (x ∷ xs)) r → Ends Q (onto (x ∷ []) r)
  ends_onto x (Ok xs) h = h
  ends_onto x (Err e) h = tt

  ends_one : (one : Found X) (rest : ℕ → Result (List X) Refusal) → Good P one → ((x : X) (n : ℕ) → P x n → Ends (λ xs. Q (x ∷ xs)) (rest n)) → Ends Q (then one (λ x n. onto (x ∷ []) (rest n)))
  ends_one (Ok p) rest g k = ends_onto p.0 (rest p.1) (k p.0 p.1 g)
  ends_one (Err e) rest g k = tt

  -- Q of what a turn ends with: P of its part, and Q of that part before the rest
  pub ends_turn : (bs : List ℕ) (at : ℕ) (one : Found X) (rest : ℕ → Result (List X) Refusal) → Good P one → ((x : X) (n : ℕ) → P x n → Ends (λ xs. Q (x ∷ xs)) (rest n)) → (length bs ≤ at → Q []) → Ends Q (turn bs at one rest)
  ends_turn bs at one rest g k e =
      cond_both (ltb at (length bs)) _ (Ok []) (Ends Q) (λ _. ends_one one rest g k) (λ b. let h = ltb-false at (length bs) b in e (omega arith))

module _ (bs : List ℕ) (at : ℕ) where
  -- with a cell or a row allowed, one turn
  pub cells_turn : (k : ℕ) → 0 < k → cells k bs at ≡ turn bs at (cell_from bs at) (cells (k - 1) bs)
  unfolding cells
  cells_turn zero h = absurd (omega arith)
  cells_turn (suc k) h = ap (λ m. turn bs at (cell_from bs at) (cells m bs)) (let e : k ≡ suc k - 1 = omega arith in e)

  pub cells_end : (k : ℕ) → length bs ≤ at → cells k bs at ≡ Ok []
  unfolding cells
  cells_end zero h = cond-false _ _ _ (le-ltb at (length bs) h)
  cells_end (suc k) h = turn_end bs at (cell_from bs at) (cells k bs) h

  -- with no cell allowed, a byte is refused
  pub cells_over : at < length bs → cells 0 bs at ≡ Err (refusal (Malformed at))
  unfolding cells
  cells_over h = cond-true _ _ _ (lt-ltb at (length bs) h)

  pub rows_turn : (f : ℕ) → 0 < f → rows f bs at ≡ turn bs at (row_from bs at) (rows (f - 1) bs)
  unfolding rows
  rows_turn zero h = absurd (omega arith)
  rows_turn (suc f) h = ap (λ m. turn bs at (row_from bs at) (rows m bs)) (let e : f ≡ suc f - 1 = omega arith in e)

  pub rows_end : (f : ℕ) → length bs ≤ at → rows f bs at ≡ Ok []
  unfolding rows
  rows_end zero h = refl
  rows_end (suc f) h = turn_end bs at (row_from bs at) (rows f bs) h

-- a cell more is a channel more that reads
pub row_push : (cs : List Cell) (c : Cell) (n : ℕ) → length cs ≡ n → n < 16 → placed (row_of cs) n c ≡ row_of (cs ++ (c ∷ []))
row_push cs c n e h = λ i k. at_channel k i where
  at_channel : (k : ℕ) → placed (row_of cs) n c k ≡ row_of (cs ++ (c ∷ [])) k
  at_channel k = grind (arith, nat_tests, get_or_append_left, get_or_push, get_or_past, length-append)

-- the row that ends at a place
abbrev pub row_to : List ℕ → ℕ → ℕ → Found (List Cell)
row_to bs at end = passing.then (result_to bs end (cells 16 (take end bs) (at + 2))) (λ cs. Ok (cs, end))

-- a row is read up to where its length ends it
pub row_is : (bs : List ℕ) (at : ℕ) (end : Result ℕ Refusal) → end ≡ span bs at → row_from bs at ≡ passing.then end (row_to bs at)
unfolding row_from
row_is bs at end e = ap (λ r. passing.then r (row_to bs at)) (sym e)

-- a trace whose version and size pass is its rows
pub trace_is : (bs : List ℕ) → get_or bs 0 0 ≡ 1 → length bs ≤ 65536 → read_trace bs ≡ rows (length bs) bs 1
unfolding read_trace
trace_is bs version size = cond-true _ _ _ (eq-eqb (get_or bs 0 0) 1 version) ∙ cond-true _ _ _ (le-leb (length bs) 65536 size)
