-- Tables that match those of another intake of the same bytes.
use Rattle.std.proofs.Common.{◌≡◌, ℕ, ◌+◌, ◌-◌, ◌≤◌, List, ◌++◌, length, replicate, sym, ap, ◌∙◌, subst, append_assoc, arith, length-append}
use Rattle.std.proofs.lemmas.List.{replicate-append-replicate}
use Rattle.rules.specs.Contents.{Content}
use Rattle.intake.specs.declared.counts.Counts.{Counts}
use Rattle.intake.specs.Rows.{Row, listed}
use Rattle.intake.specs.Book.{Fills}
use Rattle.intake.specs.Fillings.{Full, Held, Holds}
use Rattle.intake.proofs.Unique.{one_row}
use Rattle.deck.specs.Alike.{Extends, Matches, Fits}

module _ {A : Type 0} (d : A) (xs own given : List A) (n : ℕ) (h : Held d xs n own) where
  own_long : length xs ≤ length own
  own_long = let e = ap length h.filled ∙ length-append xs (replicate (length own - length xs) d) in omega arith

  -- blanks after the entries, and blanks after the table
  seam : length own ≤ length given → own ++ replicate (length given - length own) d ≡ xs ++ replicate (length given - length xs) d
  seam le =
      let l = own_long in
      let e : (length own - length xs) + (length given - length own) ≡ length given - length xs = omega arith in
      ap (λ (u : List A). u ++ replicate (length given - length own) d) h.filled
      ∙ append_assoc xs (replicate (length own - length xs) d) (replicate (length given - length own) d)
      ∙ ap (λ (u : List A). xs ++ u) (replicate-append-replicate (length own - length xs) (length given - length own) d)
      ∙ ap (λ (k : ℕ). xs ++ replicate k d) e

  held_given : Extends d own given → Held d xs n given
  held_given e = record { count = h.count; filled = e.same ∙ seam e.long }

  given_held : (m : ℕ) → length own ≤ length given → Held d xs m given → Extends d own given
  given_held m le g = record { long = le; same = g.filled ∙ sym (seam le) }

pub agreed : (all : List ℕ) (own given : Content) (had said : Counts) → Full own → Fills all had own → Matches own had given said → Fits all said given
agreed all own given had said x f m =
    let h = f.2 in
    let a = m.groups.long in let b = m.seats.long in let c = m.reserves.long in
    let d = m.trainees.long in let e = m.contracts.long in let g = m.bars.long in (
      record { groups = omega (arith, x.groups); seats = omega (arith, x.seats); reserves = omega (arith, x.reserves); trainees = omega (arith, x.trainees); contracts = omega (arith, x.contracts); bars = omega (arith, x.bars) },
      (
        f.0,
        f.1,
        subst (λ (k : Counts). Holds (listed f.0) k given) m.counts (record {
          groups = held_given _ _ _ _ _ h.groups m.groups;
          seats = held_given _ _ _ _ _ h.seats m.seats;
          reserves = held_given _ _ _ _ _ h.reserves m.reserves;
          trainees = held_given _ _ _ _ _ h.trainees m.trainees;
          contracts = held_given _ _ _ _ _ h.contracts m.contracts;
          bars = held_given _ _ _ _ _ h.bars m.bars;
        }),
      ),
    )

same-counts : (y : Content) (had said : Counts) (own given : Content) → Holds y had own → Holds y said given → had ≡ said
same-counts y had said own given h g =
    let a = h.groups.count ∙ sym g.groups.count in
    let b = h.seats.count ∙ sym g.seats.count in
    let c = h.reserves.count ∙ sym g.reserves.count in
    let d = h.trainees.count ∙ sym g.trainees.count in
    let e = h.contracts.count ∙ sym g.contracts.count in
    let f = h.bars.count ∙ sym g.bars.count in
    let z : record { groups = had.groups; seats = had.seats; reserves = had.reserves; trainees = had.trainees; wishes = had.wishes; bars = had.bars }
    ≡ record { groups = said.groups; seats = said.seats; reserves = said.reserves; trainees = said.trainees; wishes = said.wishes; bars = said.bars } = cc in
    z

pub matched : (all : List ℕ) (own given : Content) (had said : Counts) → Full own → Fills all had own → Fits all said given → Matches own had given said
matched all own given had said x f k =
    let r = k.0 in
    let h = f.2 in
    let g = subst (λ (R : Row). Holds (listed R) said given) (one_row all k.1.0 f.0 k.1.1 f.1) k.1.2 in
    record {
      counts = same-counts (listed f.0) had said own given h g;
      groups = given_held _ _ _ _ _ h.groups _ (omega (arith, x.groups, r.groups)) g.groups;
      seats = given_held _ _ _ _ _ h.seats _ (omega (arith, x.seats, r.seats)) g.seats;
      reserves = given_held _ _ _ _ _ h.reserves _ (omega (arith, x.reserves, r.reserves)) g.reserves;
      trainees = given_held _ _ _ _ _ h.trainees _ (omega (arith, x.trainees, r.trainees)) g.trainees;
      contracts = given_held _ _ _ _ _ h.contracts _ (omega (arith, x.contracts, r.contracts)) g.contracts;
      bars = given_held _ _ _ _ _ h.bars _ (omega (arith, x.bars, r.bars)) g.bars;
    }
