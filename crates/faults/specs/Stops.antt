-- Why a call stops, as its caller sees it. Assumes nothing.
use Rattle.std.specs.Prelude.{Ok, Err, Result}
use Rattle.std.specs.declared.alloc.AllocError.{AllocError}
use Rattle.faults.specs.declared.cause.Cause.{Cause}
use Rattle.faults.specs.declared.fault.Fault.{Fault}
use Rattle.faults.specs.declared.fault.Layer.{Layer}
use Rattle.faults.specs.declared.stop.Stop.{Stop}
use Rattle.faults.specs.declared.stop.Stop.TheVariants.{Refused, Memory}
use Rattle.faults.specs.Faults.{made_by}

-- a refusal is a fault of the layer, which no other layer has handed on
abbrev pub stop_made_by : Layer → Stop Cause → Stop Fault
stop_made_by layer (Refused c) = Refused (made_by layer c)
stop_made_by layer Memory = Memory

-- what is refused, where memory did not fail
abbrev pub refused : {R : Type 0} → Stop R → Result R AllocError
refused (Refused r) = Ok r
refused Memory = Err record {}
