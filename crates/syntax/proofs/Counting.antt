-- Counting the records of a kind.
use Rattle.std.proofs.Common.{◌≡◌, ℕ, ◌+◌, Bool, true, false, List, map, eqb, cond, refl, sym, arith}
use Rattle.std.specs.List.{count_by}
use Rattle.std.proofs.lemmas.List.Recursion.{is_count_by}
use Rattle.syntax.specs.declared.record.Kind.{Kind}
use Rattle.syntax.specs.declared.record.Record.{Record}
use Rattle.syntax.specs.Entries.{count, entry_of, kind_of, kind_code}

one_more : (b : Bool) (n : ℕ) → cond b 1 0 + n ≡ cond b (1 + n) n
one_more true n = refl
one_more false n = omega arith

-- as many records are of a kind as pass the test for it
pub counted : (k : Kind) (xs : List Record) → count_by (λ r. eqb (kind_code (kind_of (entry_of r))) (kind_code k)) xs ≡ count k (map entry_of xs)
counted k xs =
    sym (is_count_by (λ l. count k (map entry_of l)) (λ r. eqb (kind_code (kind_of (entry_of r))) (kind_code k)) refl
    (λ x l. one_more (eqb (kind_code (kind_of (entry_of x))) (kind_code k)) (count k (map entry_of l))) xs)
