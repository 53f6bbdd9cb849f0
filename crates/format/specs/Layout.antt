-- The bytes of a record: one byte of kind, then a body whose length the kind fixes.
use Rattle.std.specs.Prelude.{◌≡◌, ℕ, ◌/◌, ◌%◌, ◌<◌, ◌≤◌, List, [], ◌∷◌, ◌++◌, length, drop, slice_index}
use Rattle.format.specs.declared.record.Kind.{Kind}
use Rattle.format.specs.declared.record.Kind.TheVariants as K
use Rattle.format.specs.declared.record.Record.{Record}
use Rattle.format.specs.declared.record.Record.TheVariants.{Group, Seat, Reserve, Trainee, Wish, Bar, End}

-- the byte that stands for a kind: the ASCII letters G, S, R, T, W, B, E
abbrev pub letter : Kind → ℕ
letter K.Group = 71
letter K.Seat = 83
letter K.Reserve = 82
letter K.Trainee = 84
letter K.Wish = 87
letter K.Bar = 66
letter K.End = 69

-- how many bytes a record of a kind has, its kind byte with them
abbrev pub size : Kind → ℕ
size K.Group = 12
size K.Seat = 3
size K.Reserve = 4
size K.Trainee = 12
size K.Wish = 5
size K.Bar = 2
size K.End = 3

abbrev pub kind : Record → Kind
kind (Group p c n) = K.Group
kind (Seat d r) = K.Seat
kind (Reserve d s) = K.Reserve
kind (Trainee l f n) = K.Trainee
kind (Wish g p t) = K.Wish
kind (Bar d) = K.Bar
kind (End n) = K.End

-- a number in two bytes, the low one first, and then more
abbrev pub two : ℕ → List ℕ → List ℕ
two n more = n % 256 ∷ n / 256 ∷ more

-- the bytes of a record
abbrev pub encode : Record → List ℕ
encode (Group p c n) = 71 ∷ p ∷ two c n
encode (Seat d r) = 83 ∷ d ∷ r ∷ []
encode (Reserve d s) = 82 ∷ d ∷ two s []
encode (Trainee l f n) = 84 ∷ two l (f ∷ n)
encode (Wish g p t) = 87 ∷ g ∷ two p (t ∷ [])
encode (Bar d) = 66 ∷ d ∷ []
encode (End n) = 69 ∷ two n []

-- a name has eight bytes
abbrev pub Formed : Record → Type 0
Formed (Group p c n) = length n ≡ 8
Formed (Seat d r) = Unit {0}
Formed (Reserve d s) = Unit {0}
Formed (Trainee l f n) = length n ≡ 8
Formed (Wish g p t) = Unit {0}
Formed (Bar d) = Unit {0}
Formed (End n) = Unit {0}

-- the bytes begin with this record, whole, and more follow
pub record Starts (rest : List ℕ) (r : Record) (more : List ℕ) : Type 0 where
  pub formed : Formed r
  pub spelled : rest ≡ encode r ++ more

-- the next byte is there, and is the letter of a kind
abbrev pub Begins : List ℕ → Kind → Type 0
Begins rest k = (0 < length rest) × (slice_index rest 0 ≡ letter k)

-- the bytes begin with this record, whole
pub record Fronts (rest : List ℕ) (r : Record) : Type 0 where
  pub starts : Starts rest r (drop (size (kind r)) rest)
  pub whole : size (kind r) ≤ length rest
