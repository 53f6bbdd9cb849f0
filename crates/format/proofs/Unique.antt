-- A record is known from its bytes.
use Rattle.std.proofs.Common.{◌≡◌, ℕ, ◌+◌, ◌*◌, ◌/◌, ◌%◌, ◌<◌, ◌≤◌, cond, eqb, List, ◌++◌, length, get_or, take, drop, sym, refl, ap, ◌∙◌, subst, arith, length-append}
use lib.Seq.{take-append_seam, drop-append_seam}
use Rattle.format.specs.declared.record.Kind.{Kind}
use Rattle.format.specs.declared.record.Kind.TheVariants as K
use Rattle.format.specs.declared.record.Record.{Record}
use Rattle.format.specs.declared.record.Record.TheVariants.{Group, Seat, Reserve, Trainee, Wish, Bar, End}
use Rattle.format.specs.Layout.{letter, size, kind, encode, Formed, Starts, Begins}

-- the kind of a letter
abbrev kind_by : ℕ → Kind
kind_by n = cond (eqb n 71) K.Group (cond (eqb n 83) K.Seat (cond (eqb n 82) K.Reserve (cond (eqb n 84) K.Trainee (cond (eqb n 87) K.Wish (cond (eqb n 66) K.Bar K.End)))))

kind_by_lem : (k : Kind) → kind_by (letter k) ≡ k
kind_by_lem K.Group = refl
kind_by_lem _ = refl

pub one_kind : (rest : List ℕ) (j k : Kind) → Begins rest j → Begins rest k → j ≡ k
one_kind rest j k a b = sym (kind_by_lem j) ∙ ap kind_by (sym a.1 ∙ b.1) ∙ kind_by_lem k

-- the record of a kind that bytes begin with
abbrev record_by : Kind → List ℕ → Record
record_by K.Group xs = Group (get_or xs 1 0) (get_or xs 2 0 + 256 * get_or xs 3 0) (take 8 (drop 4 xs))
record_by K.Seat xs = Seat (get_or xs 1 0) (get_or xs 2 0)
record_by K.Reserve xs = Reserve (get_or xs 1 0) (get_or xs 2 0 + 256 * get_or xs 3 0)
record_by K.Trainee xs = Trainee (get_or xs 1 0 + 256 * get_or xs 2 0) (get_or xs 3 0) (take 8 (drop 4 xs))
record_by K.Wish xs = Wish (get_or xs 1 0) (get_or xs 2 0 + 256 * get_or xs 3 0) (get_or xs 4 0)
record_by K.Bar xs = Bar (get_or xs 1 0)
record_by K.End xs = End (get_or xs 1 0 + 256 * get_or xs 2 0)

joined : (n : ℕ) → n % 256 + 256 * (n / 256) ≡ n
joined n = omega arith

front : (n : List ℕ) (m : ℕ) (more : List ℕ) → length n ≡ m → take m (n ++ more) ≡ n
front n m more e = ap (λ (k : ℕ). take k (n ++ more)) (sym e) ∙ take-append_seam n more

record_by_lem : (r : Record) (more : List ℕ) → Formed r → record_by (kind r) (encode r ++ more) ≡ r
record_by_lem (Group p c n) more f = let a = joined c in let b = front n 8 more f in cc
record_by_lem (Seat d r) more f = refl
record_by_lem (Reserve d s) more f = let a = joined s in cc
record_by_lem (Trainee l g n) more f = let a = joined l in let b = front n 8 more f in cc
record_by_lem (Wish g p m) more f = let a = joined p in cc
record_by_lem (Bar d) more f = refl
record_by_lem (End n) more f = let a = joined n in cc

pub encode_size : (r : Record) → Formed r → length (encode r) ≡ size (kind r)
encode_size (Group p c n) f = omega arith
encode_size _ f = omega arith

letters : (r : Record) (more : List ℕ) → (0 < length (encode r ++ more)) × (get_or (encode r ++ more) 0 0 ≡ letter (kind r))
letters (Group p c n) more = (omega arith, refl)
letters _ more = (omega arith, refl)

-- a whole record begins with its letter, and its body is there
pub begun : (rest : List ℕ) (r : Record) (more : List ℕ) → Starts rest r more → Begins rest (kind r) × (size (kind r) ≤ length rest)
begun rest r more h =
    let z = encode_size r h.formed in
    let n = length-append (encode r) more in
    let e = ap length h.spelled in
    (subst (λ (l : List ℕ). Begins l (kind r)) (sym h.spelled) (letters r more), omega arith)

-- bytes begin with at most one record
pub one_record : (rest : List ℕ) (q r : Record) (x y : List ℕ) → Starts rest q x → Starts rest r y → (q ≡ r) × (x ≡ y)
one_record rest q r x y a b =
    let k = one_kind rest (kind q) (kind r) (begun rest q x a).0 (begun rest r y b).0 in
    let e : q ≡ r =
    sym (record_by_lem q x a.formed) ∙ ap (λ (l : List ℕ). record_by (kind q) l) (sym a.spelled ∙ b.spelled)
    ∙ ap (λ (j : Kind). record_by j (encode r ++ y)) k ∙ record_by_lem r y b.formed in (
      e,
      sym (drop-append_seam (encode q) x) ∙ ap (λ (l : List ℕ). drop (length (encode q)) l) (sym a.spelled ∙ b.spelled)
          ∙ ap (λ (s : Record). drop (length (encode s)) (encode r ++ y)) e ∙ drop-append_seam (encode r) y,
    )
