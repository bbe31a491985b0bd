-- What a reader finds, and how far it goes. Assumes nothing.
use Rattle.std.specs.Prelude.{◌≡◌, Ok, Err, Result}
use Rattle.faults.specs.Causes.{refusal}
use Rattle.faults.specs.declared.cause.Cause.{Cause}
use Rattle.syntax.specs.declared.reader.Reader.{Reader}
use Rattle.faults.specs.declared.stop.Stop.{Stop}
use Rattle.faults.specs.declared.stop.Stop.TheVariants.{Refused, Memory}
use Rattle.syntax.specs.Answers.{Found}

-- the answer is what was found, as f sees it, and the reader went on to the place after it; or its refusal, and the reader is as it was
abbrev pub Finds : {X Y : Type 0} → (X → Y) → Reader → Reader → Result X Cause → Found Y → Type 0
Finds f old new (Ok x) found = (new.bytes.now ≡ old.bytes.now) × (found ≡ Ok (f x, new.at))
Finds f old new (Err c) found = (new ≡ old) × (found ≡ Err (refusal c))

-- why reading stopped is the refusal that was found; nothing is said where memory fails
abbrev pub Stopped : {Y : Type 0} → Stop Cause → Found Y → Type 0
Stopped (Refused c) found = found ≡ Err (refusal c)
Stopped Memory found = Unit {0}

-- the same where memory may fail
abbrev pub Reads : {X Y : Type 0} → (X → Y) → Reader → Reader → Result X (Stop Cause) → Found Y → Type 0
Reads f old new (Ok x) found = (new.bytes.now ≡ old.bytes.now) × (found ≡ Ok (f x, new.at))
Reads f old new (Err stop) found = (new ≡ old) × Stopped stop found
