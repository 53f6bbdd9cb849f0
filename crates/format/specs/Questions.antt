-- When a fault of the byte layer is due, at what is left of a deck and its place.
use Rattle.std.specs.Prelude.{◌≡◌, ℕ, ◌<◌, List, length, ◌≢◌, slice_index}
use Rattle.format.specs.declared.record.Kind.{Kind}
use Rattle.format.specs.declared.fault.ByteFault.{ByteFault}
use Rattle.format.specs.declared.fault.ByteFault.TheVariants.{NoByte, NoKind, Short}
use Rattle.format.specs.Layout.{letter, size, Begins}

-- there is no next byte; it is no kind's letter; the body is not all there
abbrev pub ByteNo : List ℕ → ℕ → ByteFault → Type 0
ByteNo rest p (NoByte q) = (length rest ≡ 0) × (q ≡ p)
ByteNo rest p (NoKind q) = (0 < length rest) × ((k : Kind) → slice_index rest 0 ≢ letter k) × (q ≡ p)
ByteNo rest p (Short q) = ((k : Kind) × Begins rest k × (length rest < size k)) × (q ≡ p)

-- the same for the next byte alone
abbrev pub KindNo : List ℕ → ℕ → ByteFault → Type 0
KindNo rest p (NoByte q) = ByteNo rest p (NoByte q)
KindNo rest p (NoKind q) = ByteNo rest p (NoKind q)
KindNo rest p (Short q) = ⊥
