use Rattle.std.proofs.Common.{ℕ, ◌<◌, List, get_or, sym, subst, arith, w8, Fits}
use Rattle.std.specs.List.{AllByRecursion}
use Rattle.std.proofs.ByRecursion.{All-from_get_or}
use Rattle.std.proofs.lemmas.List.{get_or_past}
use Rattle.std.proofs.lemmas.Bool.Decides.{nat_tests}
use Rattle.traces.specs.Reading.{read_trace}
use Rattle.traces.specs.Rows.{Counts}
use Rattle.traces.proofs.Turns.{trace_is}
use Rattle.traces.proofs.Accepted.{accepts_written}
use Rattle.traces.proofs.Refusing.{refuses_alike}
use Rattle.traces.proofs.opening.check_rows.Goals as goal
use Rattle.traces.proofs.opening.check_rows.Goals.{then-is_empty-via-then-is_empty, then-is_empty-via-else-is_empty+then-bytes-ne-VERSION}

-- the elements of a slice of bytes
bytes_of : (bs : List ℕ) → ((i : ℕ) → Fits w8 (get_or bs i 0)) → AllByRecursion (λ b. b < 256) bs
bytes_of bs typed = All-from_get_or (λ b. b < 256) bs 0 (λ i _. (typed i).fits)

pub returns-then-is_empty-clause-rows : goal.returns-then-is_empty-clause-rows
unfolding read_trace
returns-then-is_empty-clause-rows c =
    elim c.then-is_empty.branch [
      | then-is_empty-via-then-is_empty w ↦ grind (arith, nat_tests, get_or_past c.args.bytes.now 0 0)
      | then-is_empty-via-else-is_empty+then-bytes-ne-VERSION w ↦ grind (arith, nat_tests)
    ]

pub returns-then-is_empty-clause-law : goal.returns-then-is_empty-clause-law
returns-then-is_empty-clause-law c = accepts_written c.args.bytes.now (bytes_of c.args.bytes.now c.type_inv.bytes)

pub returns-then-bytes-gt-MOST_BYTES-clause-rows : goal.returns-then-bytes-gt-MOST_BYTES-clause-rows
unfolding read_trace
returns-then-bytes-gt-MOST_BYTES-clause-rows c = grind (arith, nat_tests)

pub returns-then-bytes-gt-MOST_BYTES-clause-law : goal.returns-then-bytes-gt-MOST_BYTES-clause-law
returns-then-bytes-gt-MOST_BYTES-clause-law c = accepts_written c.args.bytes.now (bytes_of c.args.bytes.now c.type_inv.bytes)

pub returns-clause-rows : goal.returns-clause-rows
returns-clause-rows c =
    subst (Counts c.count_rows.result) (sym (trace_is c.args.bytes.now c.if-bytes-ne-VERSION.false c.if-bytes-gt-MOST_BYTES.false)) c.count_rows.ensures

pub returns-clause-law : goal.returns-clause-law
returns-clause-law c = accepts_written c.args.bytes.now (bytes_of c.args.bytes.now c.type_inv.bytes)

pub returns-clause-refusals : goal.returns-clause-refusals
returns-clause-refusals c = refuses_alike c.args.bytes.now (bytes_of c.args.bytes.now c.type_inv.bytes)
