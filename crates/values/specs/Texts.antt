-- How a value is told. Assumes nothing.
use Rattle.std.specs.Prelude.{ℕ, List, ◌++◌, codes, decimal}
use Rattle.std.specs.Fmt.{signed_decimal}
use Rattle.values.specs.declared.value.Value.{Value}
use Rattle.values.specs.Types.{code}
use Rattle.values.specs.Values.{type_of, num}

-- the code of its type in two digits, and its number
abbrev pub value_text : Value → List ℕ
value_text v = codes "0" ++ (decimal (code (type_of v)) ++ (codes "=" ++ signed_decimal (num v)))
