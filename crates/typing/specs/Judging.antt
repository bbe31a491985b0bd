-- The first type or divisor of a table that does not fit. Assumes nothing.
use Rattle.std.specs.Prelude.{◌≡◌, ◌<◌, ◌+◌, Bool as Truth, true, cond, List, Some, None, Ok, Err, Option, Result}
use Rattle.faults.specs.declared.cause.Cause.TheVariants.{Mistyped}
use Rattle.values.specs.declared.types.«Type».{«Type» as Ty}
use Rattle.values.specs.declared.types.«Type».TheVariants.{Bool}
use Rattle.faults.specs.declared.cause.Cause.{Cause}
use Rattle.faults.specs.Causes.{refusal}
use Rattle.faults.specs.declared.stop.Stop.{Stop}
use Rattle.faults.specs.declared.stop.Stop.TheVariants.{Refused, Memory}
use Rattle.syntax.specs.Passing.{Passed, then, every}
use Rattle.syntax.specs.Trees.{Exp}
use Rattle.syntax.specs.declared.record.Kind.TheVariants.{Channel, Stream}
use Rattle.syntax.specs.Entries.{Entry, channel, stream, rule, count}
use Rattle.typing.specs.Scopes.{channel_types, stream_types}
use Rattle.typing.specs.Rules.{same, place, settled}
use Rattle.typing.specs.Typing.{shape}

-- a type is the one that is wanted, if any is
abbrev pub fits : Option Ty → Ty → Truth
fits None t = true
fits (Some want) t = same want t

-- a whole expression: what is in it comes first, then its own type, and its own divisor last
abbrev pub judged : List Ty → List Ty → Option Ty → Exp → Passed
judged cs ss want e = then (shape cs ss 12 e) (λ t. cond (fits want t) (then (settled e t) (λ _. Ok tt)) (Err (refusal (Mistyped (place e)))))

-- a body has its stream's type; a guard is a Bool, and its arguments, which follow it, have any type
abbrev pub entry_judged : List Ty → List Ty → Entry → Passed
entry_judged cs ss (channel t) = Ok tt
entry_judged cs ss (stream t vs e) = judged cs ss (Some t) e
entry_judged cs ss (rule g es) = then (judged cs ss (Some Bool) g) (λ _. every (judged cs ss None) es)

-- the first refusal of a table, record by record
abbrev pub types_in : List Entry → Passed
types_in rs = every (entry_judged (channel_types rs) (stream_types rs)) rs

-- the answer is that refusal, or that there is none; memory fails only where there is a channel or a stream
abbrev pub Typed : Result (Unit {0}) (Stop Cause) → List Entry → Type 0
Typed (Ok u) rs = types_in rs ≡ Ok tt
Typed (Err (Refused x)) rs = types_in rs ≡ Err (refusal x)
Typed (Err Memory) rs = 0 < count Channel rs + count Stream rs
