-- The number, the place and the layer of a fault of the record layer.
use Rattle.format.specs.declared.fault.ByteFault.{ByteFault}
use Rattle.format.specs.declared.fault.Layer.TheVariants as L
use Rattle.format.specs.declared.fault.Refusal.{Refusal}
use Rattle.format.specs.Refusals.{byte_refusal, refusal_by}
use Rattle.rules.specs.declared.fault.RecordFault.{RecordFault}
use Rattle.rules.specs.declared.fault.RecordFault.TheVariants.{Bytes, Misplaced, Full, Range, Repeat}

abbrev pub record_fault_of : ByteFault → RecordFault
record_fault_of f = Bytes f

abbrev pub record_refusal : RecordFault → Refusal
record_refusal (Bytes f) = byte_refusal f
record_refusal (Misplaced p) = refusal_by L.Records 5 p
record_refusal (Full p) = refusal_by L.Records 7 p
record_refusal (Range p) = refusal_by L.Records 8 p
record_refusal (Repeat p) = refusal_by L.Records 9 p
