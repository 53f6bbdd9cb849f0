-- A deck's bytes have one reading, and one verdict.
use Rattle.std.proofs.Common.{◌≡◌, ℕ, ◌+◌, ◌*◌, ◌<◌, ◌≤◌, true, cond, eqb, ◌⊎◌, List, [], ◌∷◌, ◌++◌, length, sym, refl, ap, ◌∙◌, subst, inl, inr, append_assoc, append-nil, arith, length-append}
use Rattle.std.proofs.lemmas.Bool.{cases_order, true≢false}
use Rattle.format.specs.declared.fault.Refusal.{Refusal}
use Rattle.format.specs.declared.record.Kind.{Kind}
use Rattle.format.specs.declared.record.Record.{Record}
use Rattle.format.specs.declared.record.Record.TheVariants as R
use Rattle.format.specs.Layout.{encode, kind, size, Formed, Starts}
use Rattle.format.proofs.Unique.{encode_size, one_record}
use Rattle.rules.specs.declared.section.Section.{Section}
use Rattle.rules.specs.declared.section.Section.TheVariants.{Closed}
use Rattle.rules.specs.Contents.{Content}
use Rattle.rules.specs.Order.{may, after}
use Rattle.rules.specs.Rules.{Allowed}
use Rattle.intake.specs.Rows.{Row, none, ◌▸◌, encodes, section_of, listed, entry_of, pushed, Passes, ended, Spells}
use Rattle.intake.specs.Book.{Question, there, known, stands, whole, room, ranged, fresh, number, FirstNo, Reached, Due, too_long, at_record, wrong_count, trailing}
use Rattle.intake.proofs.Rows.{few}
use Rattle.intake.proofs.Dues.{all_yes}

-- more records after a row, and their bytes
abbrev extend : Row → List Record → Row
extend A [] = A
extend A (m ∷ ms) = extend (A ▸ m) ms

abbrev spell : List Record → List ℕ
spell [] = []
spell (m ∷ ms) = encode m ++ spell ms

abbrev AllFormed : List Record → Type 0
AllFormed [] = Unit {0}
AllFormed (m ∷ ms) = Formed m × AllFormed ms

extend_snoc : (A : Row) (ms : List Record) (r : Record) → extend A (ms ++ (r ∷ [])) ≡ extend A ms ▸ r
extend_snoc A [] r = refl
extend_snoc A (m ∷ ms) r = extend_snoc (A ▸ m) ms r

extend_more : (A : Row) (ms ns : List Record) → extend A (ms ++ ns) ≡ extend (extend A ms) ns
extend_more A [] ns = refl
extend_more A (m ∷ ms) ns = extend_more (A ▸ m) ms ns

encodes-extend : (A : Row) (ms : List Record) → encodes (extend A ms) ≡ encodes A ++ spell ms
encodes-extend A [] = sym (append-nil (encodes A))
encodes-extend A (m ∷ ms) = encodes-extend (A ▸ m) ms ∙ append_assoc (encodes A) (encode m) (spell ms)

formed_snoc : (ms : List Record) (r : Record) → AllFormed ms → Formed r → AllFormed (ms ++ (r ∷ []))
formed_snoc [] r h f = (f, tt)
formed_snoc (m ∷ ms) r h f = (h.0, formed_snoc ms r h.1 f)

-- a row's records, the oldest first
record History (A : Row) : Type 0 where
  pub records : List Record
  pub row_is : A ≡ extend none records
  pub formed : AllFormed records

history : (A : Row) → Passes A → History A
history none p = record { records = []; row_is = refl; formed = tt }
history (A ▸ r) p =
    let h = history A p.0 in
    record {
      records = h.records ++ (r ∷ []);
      row_is = ap (λ (x : Row). x ▸ r) h.row_is ∙ sym (extend_snoc none h.records r);
      formed = formed_snoc h.records r h.formed p.1.formed;
    }

-- B goes on from A: x is left after A, and y after B
record Longer (A B : Row) (x y : List ℕ) : Type 0 where
  pub then : List Record
  pub row_is : B ≡ extend A then
  pub left_is : x ≡ spell then ++ y
  pub formed : AllFormed then

-- of two readings of one front, one goes on from the other
compare : (A : Row) (ps rs : List Record) (x y : List ℕ) → AllFormed ps → AllFormed rs → spell ps ++ x ≡ spell rs ++ y →
    Longer (extend A ps) (extend A rs) x y ⊎ Longer (extend A rs) (extend A ps) y x
compare A [] rs x y f g e = inl (record { then = rs; row_is = refl; left_is = e; formed = g })
compare A (a ∷ ps) [] x y f g e = inr (record { then = a ∷ ps; row_is = refl; left_is = sym e; formed = f })
compare A (a ∷ ps) (r ∷ rs) x y f g e =
    let u : encode a ++ (spell ps ++ x) ≡ encode r ++ (spell rs ++ y) = sym (append_assoc (encode a) (spell ps) x) ∙ e ∙ append_assoc (encode r) (spell rs) y in
    let o = one_record (encode a ++ (spell ps ++ x)) a r (spell ps ++ x) (spell rs ++ y) (record { formed = f.0; spelled = refl }) (record { formed = g.0; spelled = u }) in
    let P : Record → Type 0 = λ q. Longer (extend (A ▸ a) ps) (extend (A ▸ q) rs) x y ⊎ Longer (extend (A ▸ q) rs) (extend (A ▸ a) ps) y x in
    subst P o.0 (compare (A ▸ a) ps rs x y f.1 g.1 o.1)

either : (A B : Row) (x y : List ℕ) → Passes A → Passes B → encodes A ++ x ≡ encodes B ++ y → Longer A B x y ⊎ Longer B A y x
either A B x y p q e =
    let a = history A p in
    let b = history B q in
    let ea : encodes A ≡ spell a.records = ap encodes a.row_is ∙ encodes-extend none a.records in
    let eb : encodes B ≡ spell b.records = ap encodes b.row_is ∙ encodes-extend none b.records in
    let u = ap (λ (l : List ℕ). l ++ x) (sym ea) ∙ e ∙ ap (λ (l : List ℕ). l ++ y) eb in
    let P : Row → Row → Type 0 = λ C D. Longer C D x y ⊎ Longer D C y x in
    subst (λ (C : Row). P C B) (sym a.row_is) (subst (λ (D : Row). P (extend none a.records) D) (sym b.row_is)
    (compare none a.records b.records x y a.formed b.formed u))

passes_part : (A : Row) (ms : List Record) → Passes (extend A ms) → Passes A
passes_part A [] h = h
passes_part A (m ∷ ms) h = (passes_part (A ▸ m) ms h).0

-- no record can follow
abbrev Stuck : Row → List ℕ → Type 0
Stuck A x = (m : Record) (more : List ℕ) → Starts x m more → Allowed (section_of A) (listed A) m → ⊥

no_longer : (A B : Row) (x y : List ℕ) → Passes B → Stuck A x → Longer A B x y → (A ≡ B) × (x ≡ y)
no_longer A B x y p s h = by h.then h.row_is h.left_is h.formed
  where
    by : (ms : List Record) → B ≡ extend A ms → x ≡ spell ms ++ y → AllFormed ms → (A ≡ B) × (x ≡ y)
    by [] e f g = (sym e, f)
    by (m ∷ ms) e f g = absurd (s m (spell ms ++ y) (record { formed = g.0; spelled = f ∙ append_assoc (encode m) (spell ms) y }) (passes_part (A ▸ m) ms (subst Passes e p)).1)

-- two readings that nothing can follow are one
same_stop : (all : List ℕ) (A B : Row) (x y : List ℕ) → Reached all A x → Reached all B y → Stuck A x → Stuck B y → (A ≡ B) × (x ≡ y)
same_stop all A B x y a b s u =
    elim (either A B x y a.passed b.passed (sym a.bytes_are ∙ b.bytes_are)) [
      | inl h ↦ no_longer A B x y b.passed s h
      | inr h ↦ let e = no_longer B A y x a.passed u h in (sym e.0, sym e.1)
    ]

not_closed : (s : Section) (k : Kind) → may s k ≡ true → s ≡ Closed → ⊥
not_closed s k m e = true≢false (sym m ∙ ap (λ (x : Section). may x k) e)

-- nothing follows E, and nothing follows a record with a no
stuck_end : (A : Row) (n : ℕ) (x : List ℕ) → Stuck (A ▸ R.End n) x
stuck_end A n x m more s a = not_closed Closed (kind m) a.stands refl

stuck_no : (A : Row) (x : List ℕ) (q : Question) → FirstNo q A x → Stuck A x
stuck_no A x q h m more s a = h.no (all_yes A x m more s a q)

abbrev question_by : ℕ → Question
question_by n = cond (eqb n 3) there (cond (eqb n 4) known (cond (eqb n 5) stands (cond (eqb n 6) whole (cond (eqb n 7) room (cond (eqb n 8) ranged fresh)))))

question_by_lem : (q : Question) → question_by (number q) ≡ q
question_by_lem there = refl
question_by_lem known = refl
question_by_lem stands = refl
question_by_lem whole = refl
question_by_lem room = refl
question_by_lem ranged = refl
question_by_lem fresh = refl

-- two first noes are one
one_no : (A : Row) (x : List ℕ) (p q : Question) → FirstNo p A x → FirstNo q A x → p ≡ q
one_no A x p q a b = elim (cases_order (number p) (number q)) [
  | inl e ↦ sym (question_by_lem p) ∙ ap question_by e ∙ question_by_lem q
  | inr o ↦ elim o [ inl lt ↦ absurd (a.no (b.earlier p lt)) | inr lt ↦ absurd (b.no (a.earlier q lt)) ]
]

-- how many bytes the records of these entries have
abbrev weight : Content → ℕ
weight t = 12 * length t.groups + 3 * length t.seats + 4 * length t.reserves + 12 * length t.trainees + 5 * length t.contracts + 2 * length t.bars

heavier : (t : Content) (p : ℕ) (r : Record) → (after (kind r) ≡ Closed → ⊥) → weight (pushed t (entry_of t p r)) ≡ weight t + size (kind r)
heavier t p (R.Group q c n) o = simp length-append (omega arith)
heavier t p (R.Seat d r) o = simp length-append (omega arith)
heavier t p (R.Reserve d s) o = simp length-append (omega arith)
heavier t p (R.Trainee l f n) o = simp length-append (omega arith)
heavier t p (R.Wish g s m) o = simp length-append (omega arith)
heavier t p (R.Bar d) o = simp length-append (omega arith)
heavier t p (R.End n) o = absurd (o refl)

weight_is : (rs : Row) → Passes rs → (section_of rs ≡ Closed → ⊥) → length (encodes rs) ≡ weight (listed rs)
weight_is none p o = refl
weight_is (rs ▸ r) p o =
    let i = weight_is rs p.0 (not_closed (section_of rs) (kind r) p.1.stands) in
    let h = heavier (listed rs) (length (encodes rs)) r o in
    let z = encode_size r p.1.formed in
    length-append (encodes rs) (encode r) ∙ (omega arith)

-- a lawful deck is never too long
spells_short : (all : List ℕ) (rs : Row) → Spells all rs → length all ≤ 15363
spells_short all rs h =
    let w = weight_is rs h.passes.0 (not_closed (section_of rs) _ h.passes.1.stands) in
    let f = few rs h.passes.0 in
    let e = ap length h.bytes_are ∙ length-append (encodes rs) (encode (R.End (length (listed rs).contracts))) in
    omega arith

reached : (all : List ℕ) (rs : Row) → Spells all rs → Reached all (ended rs) []
reached all rs h = record { short = spells_short all rs h; bytes_are = h.bytes_are ∙ sym (append-nil (encodes (ended rs))); passed = h.passes }

some_left : (x : List ℕ) → x ≡ [] → 0 < length x → ⊥
some_left x e h = let z = ap length e in omega arith

-- two readings of one deck that come to an end are one
same_end : (all : List ℕ) (A B : Row) (m n : ℕ) (x y : List ℕ) → Reached all (A ▸ R.End m) x → Reached all (B ▸ R.End n) y → (A ≡ B) × (m ≡ n) × (x ≡ y)
same_end all A B m n x y a b =
    let e = same_stop all (A ▸ R.End m) (B ▸ R.End n) x y a b (stuck_end A m x) (stuck_end B n y) in
    let i = e.0 in
    let p : A ≡ B = cc in
    let q : m ≡ n = cc in
    (p, q, e.1)

-- a deck that comes to an end has a no at no record
end_no : (all : List ℕ) (A B : Row) (m : ℕ) (x y : List ℕ) (q : Question) → Reached all (A ▸ R.End m) x → Reached all B y → (section_of B ≡ Closed → ⊥) → FirstNo q B y → ⊥
end_no all A B m x y q a b o f = o (sym (ap section_of (same_stop all (A ▸ R.End m) B x y a b (stuck_end A m x) (stuck_no B y q f)).0))

long : {X : Type 0} (all : List ℕ) (A : Row) (x : List ℕ) → 15363 < length all → Reached all A x → X
long all A x l r = let s = r.short in absurd (omega arith)

abbrev wishes : Row → ℕ
wishes A = length (listed A).contracts

pub not_both : (all : List ℕ) (rs : Row) (x : Refusal) → Spells all rs → Due all x → ⊥
not_both all rs x h (too_long l) = let s = spells_short all rs h in omega arith
not_both all rs x h (at_record B y q r o f) = end_no all rs B (wishes rs) [] y q (reached all rs h) r o f
not_both all rs x h (wrong_count B n y r ne) =
    let e = same_end all rs B (wishes rs) n [] y (reached all rs h) r in
    ne (sym e.1 ∙ ap wishes e.0)
not_both all rs x h (trailing B n y r c l) = some_left y (sym (same_end all rs B (wishes rs) n [] y (reached all rs h) r).2) l

pub one_refusal : (all : List ℕ) (p q : Refusal) → Due all p → Due all q → p ≡ q
one_refusal all p q (too_long h) (too_long l) = refl
one_refusal all p q (too_long h) (at_record B y k r o f) = long all B y h r
one_refusal all p q (too_long h) (wrong_count B n y r ne) = long all _ y h r
one_refusal all p q (too_long h) (trailing B n y r c l) = long all _ y h r
one_refusal all p q (at_record A x j a u e) (too_long l) = long all A x l a
one_refusal all p q (at_record A x j a u e) (at_record B y k r o f) =
    let s = same_stop all A B x y a r (stuck_no A x j e) (stuck_no B y k f) in
    let i : j ≡ k = one_no B y j k (subst (λ (z : List ℕ). FirstNo j B z) s.1 (subst (λ (C : Row). FirstNo j C x) s.0 e)) f in
    let n = ap (λ (C : Row). length (encodes C)) s.0 in
    cc
one_refusal all p q (at_record A x j a u e) (wrong_count B n y r ne) = absurd (end_no all B A n y x j r a u e)
one_refusal all p q (at_record A x j a u e) (trailing B n y r c l) = absurd (end_no all B A n y x j r a u e)
one_refusal all p q (wrong_count A m x a ne) (too_long l) = long all _ x l a
one_refusal all p q (wrong_count A m x a ne) (at_record B y k r o f) = absurd (end_no all A B m x y k a r o f)
one_refusal all p q (wrong_count A m x a ne) (wrong_count B n y r me) =
    let e = ap (λ (C : Row). length (encodes C)) (same_end all A B m n x y a r).0 in cc
one_refusal all p q (wrong_count A m x a ne) (trailing B n y r c l) =
    let e = same_end all A B m n x y a r in
    absurd (ne (e.1 ∙ c ∙ sym (ap wishes e.0)))
one_refusal all p q (trailing A m x a c l) (too_long h) = long all _ x h a
one_refusal all p q (trailing A m x a c l) (at_record B y k r o f) = absurd (end_no all A B m x y k a r o f)
one_refusal all p q (trailing A m x a c l) (wrong_count B n y r ne) =
    let e = same_end all A B m n x y a r in
    absurd (ne (sym e.1 ∙ c ∙ ap wishes e.0))
one_refusal all p q (trailing A m x a c l) (trailing B n y r d k) =
    let e = same_end all A B m n x y a r in
    let u = ap (λ (C : Row). encodes C) e.0 in
    let v = e.1 in
    cc

-- the row of a deck is one
pub one_row : (all : List ℕ) (A B : Row) → Spells all A → Spells all B → A ≡ B
one_row all A B a b = (same_end all A B (wishes A) (wishes B) [] [] (reached all A a) (reached all B b)).0
