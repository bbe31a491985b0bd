use Rattle.std.proofs.Common.{ℕ, ◌<◌, List, get_or, arith, w8, Fits}
use Rattle.std.specs.List.{AllByRecursion}
use Rattle.std.proofs.ByRecursion.{All-from_get_or}
use Rattle.std.proofs.lemmas.List.{get_or_past}
use Rattle.std.proofs.lemmas.Bool.Decides.{nat_tests}
use Rattle.syntax.specs.Reading.{read_table}
use Rattle.syntax.proofs.Turns.{table_yields}
use Rattle.syntax.proofs.Accepted.{accepts_written}
use Rattle.syntax.proofs.Refusing.{refuses_alike}
use Rattle.syntax.proofs.table.read_table.Goals as goal
use Rattle.syntax.proofs.table.read_table.Goals.{then-is_empty-via-then-is_empty, then-is_empty-via-else-is_empty+then-bytes-ne-VERSION}

-- the elements of a slice of bytes
bytes_of : (bs : List ℕ) → ((i : ℕ) → Fits w8 (get_or bs i 0)) → AllByRecursion (λ b. b < 256) bs
bytes_of bs typed = All-from_get_or (λ b. b < 256) bs 0 (λ i _. (typed i).fits)

pub returns-then-is_empty : goal.returns-then-is_empty
unfolding read_table
returns-then-is_empty c =
    record {
      answer =
          elim c.then-is_empty.branch [
            | then-is_empty-via-then-is_empty w ↦ grind (arith, nat_tests, get_or_past c.args.bytes.now 0 0)
            | then-is_empty-via-else-is_empty+then-bytes-ne-VERSION w ↦ grind (arith, nat_tests)
          ];
      law = accepts_written c.args.bytes.now (bytes_of c.args.bytes.now c.type_inv.bytes);
      refusals = refuses_alike c.args.bytes.now (bytes_of c.args.bytes.now c.type_inv.bytes);
    }

pub returns-then-bytes-gt-MOST_BYTES : goal.returns-then-bytes-gt-MOST_BYTES
unfolding read_table
returns-then-bytes-gt-MOST_BYTES c =
    record {
      answer = grind (arith, nat_tests);
      law = accepts_written c.args.bytes.now (bytes_of c.args.bytes.now c.type_inv.bytes);
      refusals = refuses_alike c.args.bytes.now (bytes_of c.args.bytes.now c.type_inv.bytes);
    }

pub returns : goal.returns
returns c =
    record {
      answer = table_yields c.args.bytes.now c.if-bytes-ne-VERSION.false c.if-bytes-gt-MOST_BYTES.false c.read_records.result c.read_records.ensures;
      law = accepts_written c.args.bytes.now (bytes_of c.args.bytes.now c.type_inv.bytes);
      refusals = refuses_alike c.args.bytes.now (bytes_of c.args.bytes.now c.type_inv.bytes);
    }
