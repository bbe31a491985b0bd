-- The line that tells a refusal. Assumes nothing.
use Rattle.std.specs.Prelude.{ℕ, List, ◌++◌, codes, decimal}
use Rattle.faults.specs.declared.cause.Cause.{Cause}
use Rattle.faults.specs.declared.fault.Layer.{Layer}
use Rattle.faults.specs.declared.fault.Layer.TheVariants.{Table, Panel, Trace, Hold, Monitor, Ledger, Bell, Quota}
use Rattle.faults.specs.Causes.{number_of, place_of}

-- a refusal's number and its place
abbrev pub refusal_line : Cause → List ℕ
refusal_line c = codes "refused " ++ (decimal (number_of c) ++ (codes " at " ++ decimal (place_of c)))

-- a layer's name
abbrev pub layer_name : Layer → List ℕ
layer_name Table = codes "table"
layer_name Panel = codes "panel"
layer_name Trace = codes "trace"
layer_name Hold = codes "hold"
layer_name Monitor = codes "monitor"
layer_name Ledger = codes "ledger"
layer_name Bell = codes "bell"
layer_name Quota = codes "quota"
