-- What stands in bytes as a table, or why nothing does. Assumes nothing.
use Rattle.std.specs.Prelude.{◌≡◌, ℕ, zero, suc, ◌+◌, ◌<◌, ◌≤◌, cond, List, [], ◌∷◌, ◌++◌, length, take, Ok, Err, Result, Vec, ◌==◌, nat_le, nat_lt, slice_index}
use Rattle.std.specs.declared.alloc.Global.{Global}
use Rattle.faults.specs.Causes.{Refusal, refusal}
use Rattle.faults.specs.declared.cause.Cause.{Cause}
use Rattle.faults.specs.declared.cause.Cause.TheVariants.{Version, Malformed, Limit}
use Rattle.syntax.specs.declared.record.Kind.{Kind}
use Rattle.syntax.specs.declared.record.Kind.TheVariants.{Channel, Stream, Rule}
use Rattle.syntax.specs.declared.record.Record.{Record}
use Rattle.faults.specs.declared.stop.Stop.{Stop}
use Rattle.faults.specs.declared.stop.Stop.TheVariants.{Refused, Memory}
use Rattle.syntax.specs.Answers.{Found, then}
use Rattle.syntax.specs.Parts.{within, named, type_from, value_from, span, result_to}
use Rattle.syntax.specs.Passing as passing
use Rattle.syntax.specs.Parsing.{parse}
use Rattle.syntax.specs.Entries.{Entry, channel, stream, rule, entries_of, kind_coded, count, limit}

-- so many parts, one after another, where `one` reads one
unfoldable pub many : {X : Type 0} → (ℕ → Found X) → ℕ → ℕ → Found (List X)
many one zero at = Ok ([], at)
many one (suc n) at = then (one at) (λ x m. then (many one n m) (λ xs k. Ok (x ∷ xs, k)))

-- the byte at a place that is at most a limit
abbrev pub at_most : ℕ → List ℕ → ℕ → Found ℕ
at_most most bs at = within bs at (cond (nat_le (slice_index bs at) most) (Ok (slice_index bs at, at + 1)) (Err (refusal (Limit at))))

-- what follows a record's kind, in bytes that end where the record ends
abbrev pub body : Kind → List ℕ → ℕ → Found Entry
body Channel bs at = then (type_from bs at) (λ t n. Ok (channel t, n))
body Stream bs at =
    then (type_from bs at) (λ t l. then (at_most 64 bs l) (λ c m.
    then (many (value_from bs t) c m) (λ vs n. then (parse 12 bs n) (λ e k. Ok (stream t vs e, k)))))
body Rule bs at =
    then (at_most 4 bs at) (λ c m. then (parse 12 bs m) (λ g n. then (many (parse 12 bs) c n) (λ es k. Ok (rule g es, k))))

-- the same to the record's end; a byte that is left over is refused
abbrev pub filled : Kind → List ℕ → ℕ → Found Entry
filled k bs at = then (body k bs at) (λ r n. cond (n == length bs) (Ok (r, n)) (Err (refusal (Malformed n))))

-- the kind of the record from one place to another: an empty one is refused at its start
abbrev pub framed : List ℕ → ℕ → ℕ → Found Kind
framed bs at end = cond (nat_lt (at + 2) end) (named (kind_coded (slice_index bs (at + 2))) (at + 2) end) (Err (refusal (Malformed at)))

-- the kind of the record at a place, and the place after the record
abbrev pub frame : List ℕ → ℕ → Found Kind
frame bs at = passing.then (span bs at) (framed bs at)

-- the record at a place, after those before it
unfoldable pub entry_from : List Entry → List ℕ → ℕ → Found Entry
entry_from before bs at =
    then (frame bs at) (λ k end. cond (nat_lt (count k before) (limit k)) (result_to bs end (filled k (take end bs) (at + 3))) (Err (refusal (Limit (at + 2)))))

-- the records from a place on, after those before it; each takes a byte at least, so that as many turns as bytes are enough
unfoldable pub entries : ℕ → List Entry → List ℕ → ℕ → Result (List Entry) Refusal
entries zero before bs at = Ok before
entries (suc turns) before bs at =
    cond (nat_lt at (length bs)) (then (entry_from before bs at) (λ r n. entries turns (before ++ (r ∷ [])) bs n)) (Ok before)

-- the records of a table: the version first, then the whole size, then record by record
unfoldable pub read_table : List ℕ → Result (List Entry) Refusal
read_table bs =
    cond (slice_index bs 0 == 1) (cond (nat_le (length bs) 8192) (entries (length bs) [] bs 1) (Err (refusal (Limit 8192)))) (Err (refusal Version))

-- the answer is the records that were found, or the refusal by number and place; where memory fails, `starved` holds
abbrev pub Yields : Type 0 → Result (Vec Record Global) (Stop Cause) → Result (List Entry) Refusal → Type 0
Yields starved (Ok records) found = found ≡ Ok (entries_of records)
Yields starved (Err (Refused x)) found = found ≡ Err (refusal x)
Yields starved (Err Memory) found = starved

-- there is a record to read: the version is right, the size passes, and more bytes follow; before that no memory is asked for
abbrev pub Begun : List ℕ → Type 0
Begun bs = (slice_index bs 0 ≡ 1) × (length bs ≤ 8192) × (1 < length bs)
