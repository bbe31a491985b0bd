-- What stands in bytes as a trace, or why nothing does. Assumes nothing.
use Rattle.std.specs.Prelude.{ℕ, zero, suc, ◌+◌, cond, List, [], ◌∷◌, length, take, Some, None, Ok, Err, Option, Result, ◌==◌, nat_le, nat_lt, slice_index}
use Rattle.faults.specs.Causes.{Refusal, refusal}
use Rattle.faults.specs.declared.cause.Cause.TheVariants.{Version, Malformed, Limit}
use Rattle.values.specs.declared.value.Value.{Value}
use Rattle.syntax.specs.Answers.{Found, then}
use Rattle.syntax.specs.Parts.{within, type_from, value_from, span, result_to}
use Rattle.syntax.specs.Passing as passing

-- a channel's value, or nothing
abbrev pub Cell : Type 0
Cell = Option Value

-- the value that stands at a place behind its type's code, or nothing, which is the code 00
abbrev pub cell_from : List ℕ → ℕ → Found Cell
cell_from bs at =
    within bs at
    (cond (slice_index bs at == 0) (Ok (None, at + 1))
    (then (type_from bs at) (λ t n. then (value_from bs t n) (λ v m. Ok (Some v, m)))))

-- at most so many cells to the end; a byte after them is refused
unfoldable pub cells : ℕ → List ℕ → ℕ → Result (List Cell) Refusal
cells zero bs at = cond (nat_lt at (length bs)) (Err (refusal (Malformed at))) (Ok [])
cells (suc left) bs at =
    cond (nat_lt at (length bs)) (then (cell_from bs at) (λ c n. passing.then (cells left bs n) (λ cs. Ok (c ∷ cs)))) (Ok [])

-- the row at a place, cells for the channels from 0 upward, and the place after it
unfoldable pub row_from : List ℕ → ℕ → Found (List Cell)
row_from bs at = passing.then (span bs at) (λ end. passing.then (result_to bs end (cells 16 (take end bs) (at + 2))) (λ cs. Ok (cs, end)))

-- the rows from a place on; each takes two bytes at least, so that as many turns as bytes are enough
unfoldable pub rows : ℕ → List ℕ → ℕ → Result (List (List Cell)) Refusal
rows zero bs at = Ok []
rows (suc turns) bs at =
    cond (nat_lt at (length bs)) (then (row_from bs at) (λ r n. passing.then (rows turns bs n) (λ rs. Ok (r ∷ rs)))) (Ok [])

-- the rows of a trace: the version first, then the whole size, then row by row
unfoldable pub read_trace : List ℕ → Result (List (List Cell)) Refusal
read_trace bs =
    cond (slice_index bs 0 == 1) (cond (nat_le (length bs) 65536) (rows (length bs) bs 1) (Err (refusal (Limit 65536)))) (Err (refusal Version))
