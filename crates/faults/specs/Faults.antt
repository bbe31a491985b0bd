-- A fault as it is made, and as it is handed on. Assumes nothing.
use Rattle.std.specs.Prelude.{◌+◌, min}
use Rattle.faults.specs.declared.cause.Cause.{Cause}
use Rattle.faults.specs.declared.fault.Fault.{Fault}
use Rattle.faults.specs.declared.fault.Layer.{Layer}
use Rattle.faults.specs.declared.upper.UpperFault.{UpperFault}

-- the fault of a layer that no other has handed on
abbrev pub made_by : Layer → Cause → Fault
made_by l c = record { cause = c; layer = l; passed = 0 }

-- cause and layer kept, one layer more counted, up to 255
abbrev pub handed_on : Fault → Fault
handed_on f = record { cause = f.cause; layer = f.layer; passed = min (f.passed + 1) 255 }

-- a fault from below, as a layer that stands over another hands it on
abbrev pub from_below : Fault → UpperFault
from_below f = record { fault = handed_on f }

-- a fault that such a layer makes itself
abbrev pub its_own : Layer → Cause → UpperFault
its_own l c = record { fault = made_by l c }
