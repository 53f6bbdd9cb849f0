-- The number, the place and the layer of a fault.
use Rattle.std.specs.Prelude.{ℕ, List, codes}
use Rattle.format.specs.declared.fault.ByteFault.{ByteFault}
use Rattle.format.specs.declared.fault.ByteFault.TheVariants.{NoByte, NoKind, Short}
use Rattle.format.specs.declared.fault.Layer.{Layer}
use Rattle.format.specs.declared.fault.Layer.TheVariants.{Bytes, Records, Deck}
use Rattle.format.specs.declared.fault.Refusal.{Refusal}

-- what a layer is printed as
abbrev pub layer_name : Layer → List ℕ
layer_name Bytes = codes "bytes"
layer_name Records = codes "records"
layer_name Deck = codes "deck"

-- a refusal by a layer, with its number and place
abbrev pub refusal_by : Layer → ℕ → ℕ → Refusal
refusal_by l n p = record { number = n; place = p; layer = l }

abbrev pub byte_refusal : ByteFault → Refusal
byte_refusal (NoByte p) = refusal_by Bytes 3 p
byte_refusal (NoKind p) = refusal_by Bytes 4 p
byte_refusal (Short p) = refusal_by Bytes 6 p
