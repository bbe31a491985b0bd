-- The small parts of tables and traces, in bytes that end where the record or row ends. Assumes nothing.
use Rattle.std.specs.Prelude.{ℕ, ◌+◌, ◌*◌, cond, List, length, take, drop, Some, None, Ok, Err, Option, Result, ◌==◌, nat_le, nat_lt, slice_index}
use Rattle.faults.specs.Causes.{Refusal, refusal}
use Rattle.faults.specs.declared.cause.Cause.TheVariants.{Ended, Malformed}
use Rattle.values.specs.declared.types.«Type».{«Type» as Ty}
use Rattle.values.specs.declared.value.Value.{Value}
use Rattle.values.specs.Types.{size, type_coded}
use Rattle.values.specs.Bytes.{decoded}
use Rattle.syntax.specs.Answers.{Found}

-- x where the byte at a place is there; a missing byte is refused at the end
abbrev pub within : {X : Type 0} → List ℕ → ℕ → Result X Refusal → Result X Refusal
within bs at x = cond (nat_lt at (length bs)) x (Err (refusal (Malformed (length bs))))

-- what the bytes from one place to another name
abbrev pub named : {X : Type 0} → Option X → ℕ → ℕ → Found X
named None at next = Err (refusal (Malformed at))
named (Some x) at next = Ok (x, next)

-- the byte at a place
abbrev pub byte_from : List ℕ → ℕ → Found ℕ
byte_from bs at = within bs at (Ok (slice_index bs at, at + 1))

-- the type whose code stands at a place
abbrev pub type_from : List ℕ → ℕ → Found Ty
type_from bs at = within bs at (named (type_coded (slice_index bs at)) at (at + 1))

-- the value of a type that stands at a place
abbrev pub value_from : List ℕ → Ty → ℕ → Found Value
value_from bs t at =
    within bs at
    (cond (nat_le (at + size t) (length bs)) (named (decoded t (take (size t) (drop at bs))) at (at + size t)) (Err (refusal (Malformed (length bs)))))

-- where the record or row that begins at a place ends by its length, which is its first two bytes
abbrev pub end_of : List ℕ → ℕ → ℕ
end_of bs at = at + 2 + (slice_index bs at * 256 + slice_index bs (at + 1))

-- the place after a record or row, where its length allows it to end
abbrev pub ends : List ℕ → ℕ → ℕ → Result ℕ Refusal
ends bs at end = cond (nat_le end (length bs)) (Ok end) (Err (refusal (Ended at)))

-- the place after the record or row that begins at a place; one that has no room is refused at its start
abbrev pub span : List ℕ → ℕ → Result ℕ Refusal
span bs at = cond (nat_lt (at + 1) (length bs)) (ends bs at (end_of bs at)) (Err (refusal (Ended at)))

-- the refusal of a result, or another where it has none
abbrev pub refusal_or : {X : Type 0} → Result X Refusal → Refusal → Refusal
refusal_or (Ok x) r = r
refusal_or (Err x) r = x

-- the refusal of a record or row that ends at a place. Where that is the place refused, since a byte is missing there, and what begins there runs past the end,
-- both are refused at this byte, and the latter has the lower number
abbrev pub lower_first : List ℕ → ℕ → Refusal → Refusal
lower_first bs end r = cond (r.1 == end) (cond (nat_lt end (length bs)) (refusal_or (span bs end) r) r) r

-- the result of reading a record or row that ends at a place: of refusals at that byte, the lower first
abbrev pub result_to : {X : Type 0} → List ℕ → ℕ → Result X Refusal → Result X Refusal
result_to bs end (Ok x) = Ok x
result_to bs end (Err r) = Err (lower_first bs end r)
