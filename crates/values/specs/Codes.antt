-- What a code names, as a conversion answers it. Assumes nothing.
use Rattle.std.specs.Prelude.{ℕ, Some, None, Ok, Err, Option, Result}
use Rattle.values.specs.declared.types.UnknownCode.{UnknownCode}

-- what the code n names, or that it names nothing
abbrev pub known : {X : Type 0} → ℕ → Option X → Result X UnknownCode
known n (Some x) = Ok x
known n None = Err record { code = n }
