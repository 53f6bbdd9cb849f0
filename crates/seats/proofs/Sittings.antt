-- The seats, one after another.
use Rattle.std.proofs.Common.{◌≡◌, ℕ, ◌+◌, ◌<◌, ◌≤◌, Bool, true, false, not, ◌&&◌, ◌||◌, List, ◌∷◌, length, get_or, drop, Some, None, Option, sym, refl, ap, ◌∙◌}
use mathlib.Core.Path.{fun_ext}
use Rattle.std.proofs.lemmas.Bool.{and_parts, false≢true}
use Rattle.std.proofs.lemmas.List.{drop_more, drop_all}
use Rattle.rules.specs.declared.table.Contract.{Contract}
use Rattle.rules.specs.declared.table.Rule.{Rule}
use Rattle.rules.specs.declared.table.Rule.TheVariants.{Rank, Lot, Term}
use Rattle.rules.specs.declared.table.Seat.{Seat}
use Rattle.rules.specs.Contents.{zero_seat}
use Rattle.deck.specs.Contents.{data_of}
use Rattle.board.specs.declared.marked.Marked.{Marked}
use Rattle.board.specs.Marked.{contracts_of, deck_of, list_of}
use Rattle.matching.specs.Sets.{Set, Part, minus, less, union}
use Rattle.matching.proofs.Sets.{and_true, or_false, minus_of}
use Rattle.seats.specs.declared.lineup.Lineup.{Lineup}
use Rattle.seats.specs.declared.lineups.Lineups.{Lineups}
use Rattle.seats.specs.Taking.{takes, seated}
use Rattle.seats.specs.Ready.{Is, Takes}
use Rattle.seats.specs.Lineups.{Prepared, Stands}
use Rattle.seats.proofs.Lefts.{ready_less}

stands_less : (rule : Rule) (rest more : Marked) (o : Option Lineup) → deck_of rest ≡ deck_of more → Part (list_of rest) (list_of more) → Stands rule more o → Stands rule rest o
stands_less rule rest more None e p h = tt
stands_less rule rest more (Some l) e p h = ready_less rule rest more l e p h

prepared_less : (rest more : Marked) (ls : Lineups) → deck_of rest ≡ deck_of more → Part (list_of rest) (list_of more) → Prepared more ls → Prepared rest ls
prepared_less rest more ls e p h = record {
  rank = stands_less Rank rest more ls.rank e p h.rank;
  lot = stands_less Lot rest more ls.lot e p h.lot;
  term = stands_less Term rest more ls.term e p h.term;
}

-- after i seats R is left of X: what is missing, with what the other seats take of R, is what all take of X
pub record Seating (ss : List Seat) (cs : List Contract) (X R : Set) (i : ℕ) : Type 0 where
  pub part : Part R X
  pub whole : union (minus X R) (seated (drop i ss) cs R) ≡ seated ss cs X

missing : (x r t z : Bool) → (r ≡ true → x ≡ true) → (t ≡ true → r ≡ true) → ((x && not (r && not t)) || z) ≡ ((x && not r) || (t || z))
missing true true true z a b = refl
missing true true false z a b = refl
missing true false true z a b = absurd (false≢true (b refl))
missing true false false z a b = refl
missing false true t z a b = absurd (false≢true (a refl))
missing false false true z a b = absurd (false≢true (b refl))
missing false false false z a b = refl

seating_more : (ss : List Seat) (cs : List Contract) (X R R' : Set) (i : ℕ) (s : Seat) → i < length ss → get_or ss i zero_seat ≡ s → Seating ss cs X R i
    → R' ≡ minus R (takes s cs R) → Seating ss cs X R' (i + 1)
seating_more ss cs X R R' i s l g h e = record {
  part = λ k r. h.part k (minus_of R (takes s cs R) k (sym (ap (λ Z. Z k) e) ∙ r));
  whole =
      ap (λ Z. union (minus X Z) (seated (drop (i + 1) ss) cs Z)) e
      ∙ fun_ext (λ j. missing (X j) (R j) (takes s cs R j) (seated (drop (i + 1) ss) cs (minus R (takes s cs R)) j) (h.part j) (λ t. (and_parts (R j) _ t).0))
      ∙ sym (ap (λ qs. union (minus X R) (seated qs cs R)) (drop_more ss i zero_seat l ∙ ap (λ q. q ∷ drop (i + 1) ss) g))
      ∙ h.whole;
}

seating_all : (ss : List Seat) (cs : List Contract) (X R : Set) (i : ℕ) → length ss ≤ i → Seating ss cs X R i → minus X R ≡ seated ss cs X
seating_all ss cs X R i l h =
    fun_ext (λ j. sym (or_false (minus X R j))) ∙ sym (ap (λ qs. union (minus X R) (seated qs cs R)) (drop_all i ss l)) ∙ h.whole

-- the one contract of Z is taken out, if there is one
out_one : (n k : ℕ) (X Z : Set) → Is n Z (Some k) → less X k ≡ minus X Z
out_one n k X Z h = fun_ext (λ j. ap (λ t. X j && not t) (sym (h.1 j)))

out_none : (n : ℕ) (X Z : Set) → Is n Z None → X ≡ minus X Z
out_none n X Z h = fun_ext (λ j. sym (ap (λ t. X j && not t) (h j) ∙ and_true (X j)))

-- i seats have taken of the list that was first
pub record Sitting (ss : List Seat) (first rest : Marked) (ls : Lineups) (i : ℕ) : Type 0 where
  pub deck : deck_of rest ≡ deck_of first
  pub seating : Seating ss (contracts_of first) (list_of first) (list_of rest) i
  pub prepared : Prepared rest ls

sitting_more : (ss : List Seat) (first more rest : Marked) (ls ms : Lineups) (i : ℕ) (s : Seat) → i < length ss → get_or ss i zero_seat ≡ s
    → Sitting ss first more ls i → deck_of rest ≡ deck_of more → list_of rest ≡ minus (list_of more) (takes s (contracts_of more) (list_of more))
    → Prepared more ms → Sitting ss first rest ms (i + 1)
sitting_more ss first more rest ls ms i s l g h d e p = record {
  deck = d ∙ h.deck;
  seating = seating_more ss (contracts_of first) (list_of first) (list_of more) (list_of rest) i s l g h.seating
      (e ∙ ap (λ x. minus (list_of more) (takes s (data_of x).contracts (list_of more))) h.deck);
  prepared = prepared_less rest more ms d
      (λ k r. minus_of (list_of more) (takes s (contracts_of more) (list_of more)) k (sym (ap (λ (Z : Set). Z k) e) ∙ r)) p;
}

pub sitting_some : (ss : List Seat) (first more rest : Marked) (ls ms : Lineups) (i k : ℕ) (s : Seat) → i < length ss → get_or ss i zero_seat ≡ s
    → Sitting ss first more ls i → deck_of rest ≡ deck_of more → list_of rest ≡ less (list_of more) k
    → Takes s more (Some k) → Prepared more ms → Sitting ss first rest ms (i + 1)
sitting_some ss first more rest ls ms i k s l g h d e b p =
    sitting_more ss first more rest ls ms i s l g h d (e ∙ out_one (length (contracts_of more)) k (list_of more) (takes s (contracts_of more) (list_of more)) b) p

pub sitting_same : (ss : List Seat) (first more : Marked) (ls ms : Lineups) (i : ℕ) (s : Seat) → i < length ss → get_or ss i zero_seat ≡ s
    → Sitting ss first more ls i → Takes s more None → Prepared more ms → Sitting ss first more ms (i + 1)
sitting_same ss first more ls ms i s l g h b p =
    sitting_more ss first more more ls ms i s l g h refl (out_none (length (contracts_of more)) (list_of more) (takes s (contracts_of more) (list_of more)) b) p

pub sitting_all : (ss : List Seat) (first rest : Marked) (ls : Lineups) (i : ℕ) → length ss ≤ i → Sitting ss first rest ls i
    → minus (list_of first) (list_of rest) ≡ seated ss (contracts_of first) (list_of first)
sitting_all ss first rest ls i l h = seating_all ss (contracts_of first) (list_of first) (list_of rest) i l h.seating
