-- The places that entries give, one entry after the other.
use Rattle.std.specs.Prelude.{◌≡◌, ℕ, zero, suc, ◌<◌, ◌≤◌, ◌⊎◌, List, [], ◌∷◌, length, replicate, ◌≢◌, slice_index, refl}
use Rattle.std.proofs.Common.{sym, ◌∙◌, ap, inl, inr, ⊎_elim, arith}
use Rattle.std.proofs.lemmas.List.{get_or_past, get_or-replicate, length-replicate}
use Rattle.std.proofs.lemmas.Bool.{cases_eq, cases_lt, cond-true, cond-false, eq-eqb, ne_eqb}
use Rattle.rules.specs.declared.table.Reservation.{Reservation}
use Rattle.rules.specs.Contents.{reserve_at}
use Rattle.reserve.specs.Reserves.{seats_for, Reserving}

abbrev zeros : ℕ → List ℕ
zeros n = replicate n 0

pub get_or-zeros : (n v : ℕ) → slice_index (zeros n) v ≡ 0
get_or-zeros n v = ⊎_elim (λ l. get_or-replicate n v 0 0 l)
    (λ l. get_or_past (zeros n) v 0 (let e : length (zeros n) ≡ n = length-replicate n 0 in omega arith)) (cases_lt v n)

pub reserving_none : (rs : List Reservation) (n : ℕ) → Reserving rs 0 (replicate n 0)
reserving_none rs n = record { given = λ i l. absurd (omega arith); none = λ v h. get_or-zeros n v }

-- the first entry of a dredger, if it has one
looked_up : (rs : List Reservation) (v : ℕ)
    → ((i : ℕ) × (i < length rs) × ((reserve_at rs i).dredger ≡ v) × (seats_for rs v ≡ (reserve_at rs i).seats))
    ⊎ (((i : ℕ) → i < length rs → (reserve_at rs i).dredger ≢ v) × (seats_for rs v ≡ 0))
looked_up [] v = inr ((λ i l e. absurd (omega arith)), refl)
looked_up (x ∷ xs) v = ⊎_elim (λ e. inl (0, omega arith, e, cond-true _ _ _ (eq-eqb _ _ e))) (λ ne. later ne (looked_up xs v)) (cases_eq x.dredger v)
  where
    rest : (x.dredger ≢ v) → seats_for (x ∷ xs) v ≡ seats_for xs v
    rest ne = cond-false _ _ _ (ne_eqb _ _ ne)

    later : (x.dredger ≢ v)
        → ((i : ℕ) × (i < length xs) × ((reserve_at xs i).dredger ≡ v) × (seats_for xs v ≡ (reserve_at xs i).seats))
        ⊎ (((i : ℕ) → i < length xs → (reserve_at xs i).dredger ≢ v) × (seats_for xs v ≡ 0))
        → ((i : ℕ) × (i < length (x ∷ xs)) × ((reserve_at (x ∷ xs) i).dredger ≡ v) × (seats_for (x ∷ xs) v ≡ (reserve_at (x ∷ xs) i).seats))
        ⊎ (((i : ℕ) → i < length (x ∷ xs) → (reserve_at (x ∷ xs) i).dredger ≢ v) × (seats_for (x ∷ xs) v ≡ 0))
    later ne (inl r) = inl (suc r.0, (let l = r.1 in omega arith), r.2, rest ne ∙ r.3)
    later ne (inr r) = inr (nowhere, rest ne ∙ r.1)
      where
        nowhere : (i : ℕ) → i < suc (length xs) → (reserve_at (x ∷ xs) i).dredger ≢ v
        nowhere zero l e = ne e
        nowhere (suc i) l e = r.0 i (omega arith) e

pub reserving_all : (rs : List Reservation) (n : ℕ) (places : List ℕ) → length rs ≤ n → n ≤ length rs → Reserving rs n places → (v : ℕ) → slice_index places v ≡ seats_for rs v
reserving_all rs n places a b h v = ⊎_elim
    (λ r. let l = r.1 in ap (λ x. slice_index places x) (sym r.2) ∙ h.given r.0 (omega arith) ∙ sym r.3)
    (λ r. h.none v (λ i l. r.0 i (omega arith)) ∙ sym r.1) (looked_up rs v)
