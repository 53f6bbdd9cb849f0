-- One text after another, and a text for each element of a list.
use Rattle.std.proofs.Common.{◌≡◌, ℕ, ◌+◌, List, [], ◌∷◌, ◌++◌, sym, ap, ◌∙◌, subst, append_assoc, arith}
use Rattle.std.proofs.lemmas.List.{flat_map_more, map-id}
use Rattle.std.proofs.lemmas.List.FromFn.{map-range_with_len_more}
use Rattle.std.specs.List.{range_with_len, flat_map}
use Rattle.rules.specs.declared.table.Trainee.{Trainee}
use Rattle.rules.specs.declared.table.Contract.{Contract}
use Rattle.rules.specs.Contents.{Content, trainee_at}
use Rattle.listing.specs.Lines.{line_of_name, line_of_trainee, wishes}
use Rattle.listing.specs.Print.{Grew}

pub then : {a b c x y : List ℕ} → Grew a b x → Grew b c y → Grew a c (x ++ y)
then {a = a} {x = x} {y = y} e f = record { is = f.is ∙ (ap (λ z. z ++ y) e.is ∙ append_assoc a x y) }

counting_more : (n : ℕ) → range_with_len 0 (n + 1) ≡ range_with_len 0 n ++ n ∷ []
counting_more n = sym (map-id (range_with_len 0 (n + 1))) ∙ (map-range_with_len_more (λ k. k) 0 n n (omega arith) ∙ ap (λ z. z ++ n ∷ []) (map-id (range_with_len 0 n)))

-- a text for each number below n
pub count_more : (f : ℕ → List ℕ) (n : ℕ) {a b c : List ℕ} → Grew a b (flat_map f (range_with_len 0 n)) → Grew b c (f n) → Grew a c (flat_map f (range_with_len 0 (n + 1)))
count_more f n {a = a} e g = record { is = g.is ∙ (ap (λ z. z ++ f n) e.is ∙ (flat_map_more f a (range_with_len 0 n) n ∙ ap (λ z. a ++ flat_map f z) (sym (counting_more n)))) }

-- a text that was written, by what was written
pub as_said : {a b x y : List ℕ} → x ≡ y → Grew a b x → Grew a b y
as_said {a = a} {b = b} e g = subst (Grew a b) e g

-- the line of a trainee, by what was read of the deck
pub trainee_said : (deck read : List ℕ) (t : Content) (ts : List Trainee) (cs : List Contract) (k n : ℕ)
    → read ≡ deck → ts ≡ t.trainees → cs ≡ t.contracts → n ≡ wishes k cs
    → line_of_name read (trainee_at ts k).name n ≡ line_of_trainee deck t k
trainee_said deck read t ts cs k n d e f g =
    ap (λ b. line_of_name b (trainee_at ts k).name n) d ∙ ap (λ xs. line_of_name deck (trainee_at xs k).name n) e
    ∙ ap (line_of_name deck (trainee_at t.trainees k).name) (g ∙ ap (wishes k) f)
