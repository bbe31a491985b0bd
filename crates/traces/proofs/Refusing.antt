-- The bytes up to the row that is refused and the next one's length decide the refusal. Assumes nothing.
use Rattle.std.proofs.Common.{◌≡◌, ℕ, zero, suc, ◌+◌, ◌<◌, ◌≤◌, cond, ltb, List, [], ◌∷◌, ◌++◌, length, get_or, take, drop, Ok, Err, Result, sym, refl, ap, ◌∙◌, subst, arith, ⊎_elim}
use Rattle.std.specs.List.{AllByRecursion}
use Rattle.std.proofs.ByRecursion.{All-take, All-append}
use Rattle.std.proofs.lemmas.List.{drop_more, take_at}
use Rattle.std.proofs.lemmas.Bool.{cases_lt}
use Rattle.faults.specs.Causes.{Refusal}
use Rattle.syntax.specs.Answers.{Found, then}
use Rattle.syntax.specs.Parts.{end_of, span, result_to}
use Rattle.syntax.specs.Passing as passing
use Rattle.syntax.specs.Refusing.{IsSameTo}
use Rattle.syntax.specs.Written.{joined}
use Rattle.syntax.proofs.Stand.{Stands, nothing, join, Good, Ends}
use Rattle.syntax.proofs.Parts.{SAt, sound_span}
use Rattle.syntax.proofs.Same.{then_same, byte_same, front_same, same_less, span_same, result_same}
use Rattle.syntax.proofs.Whole.{nonempty}
use Rattle.traces.specs.Reading.{Cell, cells, row_from, rows, read_trace}
use Rattle.traces.specs.Refusing.{RefusesRow, RefusesAlike}
use Rattle.traces.specs.Written.{write_row, write, Small}
use Rattle.traces.proofs.Turns.{onto, turn_is, rows_end, row_to, row_is, trace_is}
use Rattle.traces.proofs.Sound.{RowAt, sound_row}
use Rattle.traces.proofs.Accepted.{accepts_written}

row_same : (bs other : List ℕ) (at : ℕ) → IsSameTo (end_of bs at + 2) bs other → row_from other at ≡ row_from bs at
row_same bs other at same =
    row_is other at (span bs at) (sym (span_same same at (omega arith)))
    ∙ then_same (SAt bs at) (span bs at) (row_to other at) (row_to bs at) (sound_span bs at) (λ end s.
    let e = s.2 in
    ap (λ r. passing.then r (λ cs. Ok (cs, end)))
    (ap (λ l. result_to other end (cells 16 l (at + 2))) (front_same same end (omega arith)) ∙ result_same same end (cells 16 (take end bs) (at + 2)) (omega arith)))
    ∙ sym (row_is bs at (span bs at) refl)

-- rows are refused where those after some are
onto_err : {X : Type 0} (xs : List X) (rest : Result (List X) Refusal) (r : Refusal) → onto xs rest ≡ Err r → rest ≡ Err r
onto_err xs (Ok ys) r e = absurd (cc)
onto_err xs (Err x) r e = e

module _ (bs : List ℕ) (small : AllByRecursion (λ b. b < 256) bs) where
  -- the rows before one that is refused, and where it starts
  record Refused (from f : ℕ) (r : Refusal) : Type 0 where
    rs : List (List Cell)
    start : ℕ
    inside : start ≤ length bs
    stand : Stands bs from (write rs) start
    limits : AllByRecursion Small rs
    alike : (other : List ℕ) → IsSameTo (end_of bs start + 2) bs other → rows f other from ≡ Err r

  module _ (f at : ℕ) (r : Refusal) (more : at < length bs) where
    turn_same : (other : List ℕ) (found : Found (List Cell)) → IsSameTo (end_of bs at + 2) bs other → row_from bs at ≡ found
        → rows (suc f) other at ≡ then found (λ r n. onto (r ∷ []) (rows f other n))
    unfolding rows
    turn_same other found same e = let l = same.size in turn_is other at (row_from other at) (rows f other) found (omega arith) (row_same bs other at same ∙ e)

    refused_turn : (found : Found (List Cell)) → row_from bs at ≡ found → Good (RowAt bs small at) found
        → ((n : ℕ) → rows f bs n ≡ Err r → Refused n f r)
        → then found (λ r n. onto (r ∷ []) (rows f bs n)) ≡ Err r → Refused at (suc f) r
    refused_turn (Err x) is g next e =
        record { rs = []; start = at; inside = omega arith; stand = nothing at; limits = tt; alike = λ other same. turn_same other (Err x) same is ∙ e }
    refused_turn (Ok p) is g next e =
        let n = p.1 in
        let after = next n (onto_err (p.0 ∷ []) (rows f bs n) r e) in
        let end = g.2 in
        let on = after.stand.next in
        record {
          rs = p.0 ∷ after.rs;
          start = after.start;
          inside = after.inside;
          stand = join g.0 after.stand;
          limits = (g.3, after.limits);
          alike = λ other same. turn_same other (Ok p) (same_less same (end_of bs at + 2) (omega arith)) is ∙ ap (onto (p.0 ∷ [])) (after.alike other same);
        }

  refused_rows : (f at : ℕ) (r : Refusal) → rows f bs at ≡ Err r → Refused at f r
  unfolding rows
  refused_rows zero at r e = absurd (cc)
  refused_rows (suc f) at r e =
      ⊎_elim
      (λ (h : at < length bs).
      refused_turn f at r h (row_from bs at) refl (sound_row bs small at) (λ n. refused_rows f n r)
      (sym (turn_is bs at (row_from bs at) (rows f bs) (row_from bs at) h refl) ∙ e))
      (λ (h : length bs ≤ at). let z : Ok [] ≡ Err r = sym (rows_end bs at (suc f) h) ∙ e in absurd (cc))
      (cases_lt at (length bs))

  pub refuses_alike : RefusesAlike bs
  refuses_alike r version size e =
      let some = nonempty bs version in
      let is = refused_rows (length bs) 1 r (sym (trace_is bs version size) ∙ e) in
      let next = is.stand.next in
      let inside = is.inside in
      let start : take (1 + length (write is.rs)) bs ≡ 1 ∷ write is.rs =
      ap (take (1 + length (write is.rs))) (drop_more bs 0 0 some ∙ (λ i. version i ∷ is.stand.here i))
      ∙ take_at (1 ∷ write is.rs) (drop is.start bs) (1 + length (write is.rs)) (omega arith) in
      let bytes : AllByRecursion (λ b. b < 256) (1 ∷ write is.rs) = subst (AllByRecursion (λ b. b < 256)) start (All-take (λ b. b < 256) (1 + length (write is.rs)) bs small) in
      record {
        before = is.rs;
        read = (accepts_written (1 ∷ write is.rs) bytes is.rs).1 record { whole = refl; size = omega arith; small = is.limits };
        start = start;
        alike =
            λ other same.
            let l = same.size in
            trace_is other (byte_same same 0 (omega arith) ∙ version) (omega arith) ∙ ap (λ n. rows n other 1) l
            ∙ is.alike other (subst (λ s. IsSameTo (end_of bs s + 2) bs other) (sym next) same);
      }
