-- Records one after another: a loop's steps. Assumes nothing.
use Rattle.std.proofs.Common.{◌≡◌, ℕ, zero, suc, ◌+◌, ◌-◌, ◌<◌, ◌≤◌, cond, ltb, List, [], ◌∷◌, ◌++◌, length, get_or, take, Ok, Err, Result, Vec, sym, ap, ◌∙◌, arith}
use Rattle.std.proofs.lemmas.Bool.{eq-eqb, lt-ltb, le-ltb, le-leb, cond-true, cond-false}
use Rattle.std.specs.declared.alloc.Global.{Global}
use Rattle.syntax.specs.declared.record.Record.{Record}
use Rattle.faults.specs.Causes.{Refusal, refusal}
use Rattle.faults.specs.declared.cause.Cause.{Cause}
use Rattle.faults.specs.declared.stop.Stop.{Stop}
use Rattle.faults.specs.declared.stop.Stop.TheVariants.{Refused, Memory}
use Rattle.syntax.specs.Answers.{then}
use Rattle.syntax.specs.Parts.{result_to}
use Rattle.syntax.specs.Readers.{Stopped}
use Rattle.faults.specs.declared.cause.Cause.TheVariants.{Limit}
use Rattle.syntax.specs.declared.record.Kind.{Kind}
use Rattle.syntax.specs.Entries.{Entry, count, limit}
use Rattle.syntax.specs.Reading.{entry_from, entries, read_table, Yields, Begun, frame, filled}

module _ (whole : Result (List Entry) Refusal) (bs : List ℕ) (items : List Entry) (at : ℕ) where
  pub entries_more : (f : ℕ) (r : Entry) (n : ℕ) → at < length bs → length bs ≤ at + f → entry_from items bs at ≡ Ok (r, n) → whole ≡ entries f items bs at → whole ≡ entries (f - 1) (items ++ (r ∷ [])) bs n
  unfolding entries
  entries_more zero r n h g e w = absurd (omega arith)
  entries_more (suc f) r n h g e w =
      w ∙ cond-true _ _ _ (lt-ltb at (length bs) h) ∙ ap (λ x. then x (λ r n. entries f (items ++ (r ∷ [])) bs n)) e ∙ ap (λ m. entries m (items ++ (r ∷ [])) bs n) (omega arith)

  pub entries_err : (f : ℕ) (x : Refusal) → at < length bs → length bs ≤ at + f → entry_from items bs at ≡ Err x → whole ≡ entries f items bs at → whole ≡ Err x
  unfolding entries
  entries_err zero x h g e w = absurd (omega arith)
  entries_err (suc f) x h g e w = w ∙ cond-true _ _ _ (lt-ltb at (length bs) h) ∙ ap (λ x. then x (λ r n. entries f (items ++ (r ∷ [])) bs n)) e

  pub entries_stopped : {starved : Type 0} (s : Stop Cause) (f : ℕ) → starved → at < length bs → length bs ≤ at + f → Stopped s (entry_from items bs at) → whole ≡ entries f items bs at → Yields starved (Err s) whole
  entries_stopped (Refused x) f m h l e w = entries_err f (refusal x) h l e w
  entries_stopped Memory f m h l e w = m

  pub entries_end : (f : ℕ) → length bs ≤ at → whole ≡ entries f items bs at → whole ≡ Ok items
  unfolding entries
  entries_end zero h w = w
  entries_end (suc f) h w = w ∙ cond-false _ _ _ (le-ltb at (length bs) h)

module _ (before : List Entry) (bs : List ℕ) (at : ℕ) where
  pub entry_step : (k : Kind) (end : ℕ) → Ok (k, end) ≡ frame bs at → entry_from before bs at ≡ cond (ltb (count k before) (limit k)) (result_to bs end (filled k (take end bs) (at + 3))) (Err (refusal (Limit (at + 2))))
  unfolding entry_from
  entry_step k end e = ap (λ f. then f (λ k end. cond (ltb (count k before) (limit k)) (result_to bs end (filled k (take end bs) (at + 3))) (Err (refusal (Limit (at + 2)))))) (sym e)

  pub entry_err : (x : Refusal) → Err x ≡ frame bs at → entry_from before bs at ≡ Err x
  unfolding entry_from
  entry_err x e = ap (λ f. then f (λ k end. cond (ltb (count k before) (limit k)) (result_to bs end (filled k (take end bs) (at + 3))) (Err (refusal (Limit (at + 2)))))) (sym e)

  -- a record that has its place among those of its kind
  pub entry_filled : (k : Kind) (end : ℕ) → Ok (k, end) ≡ frame bs at → count k before < limit k → entry_from before bs at ≡ result_to bs end (filled k (take end bs) (at + 3))
  entry_filled k end e h =
      entry_step k end e ∙ cond-true _ _ _ (lt-ltb (count k before) (limit k) h)

-- a table whose version and size pass is its records
module _ (bs : List ℕ) (version : get_or bs 0 0 ≡ 1) (size : length bs ≤ 8192) where
  pub table_is : read_table bs ≡ entries (length bs) [] bs 1
  unfolding read_table
  table_is = cond-true _ _ _ (eq-eqb (get_or bs 0 0) 1 version) ∙ cond-true _ _ _ (le-leb (length bs) 8192 size)

  pub table_yields : (r : Result (Vec Record Global) (Stop Cause)) → Yields (1 < length bs) r (entries (length bs) [] bs 1) → Yields (Begun bs) r (read_table bs)
  table_yields (Ok records) e = table_is ∙ e
  table_yields (Err (Refused x)) e = table_is ∙ e
  table_yields (Err Memory) more = (version, size, more)
