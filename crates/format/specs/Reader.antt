-- A reader before and after a record was taken off it.
use Rattle.std.specs.Prelude.{◌≡◌, ℕ, ◌+◌, List, drop}
use Rattle.format.specs.declared.reader.Reader.{Reader}
use Rattle.format.specs.declared.record.Record.{Record}
use Rattle.format.specs.Layout.{kind, size, Starts}

-- what is left: the bytes from the next record on
abbrev pub rest_of : Reader → List ℕ
rest_of r = drop r.place r.bytes.now

-- the bytes stay, whatever was taken off
abbrev pub SameBytes : Reader → Reader → Type 0
SameBytes old new = new.bytes.now ≡ old.bytes.now

-- this record was taken off, and the next one stands right after it
pub record Took (old new : Reader) (r : Record) : Type 0 where
  pub same : SameBytes old new
  pub starts : Starts (rest_of old) r (rest_of new)
  pub moved : new.place ≡ old.place + size (kind r)
