-- Tables that hold entries: one more, their first entries, and blank tables.
use Rattle.std.proofs.Common.{◌≡◌, ℕ, suc, ◌+◌, ◌-◌, ◌<◌, List, [], ◌∷◌, ◌++◌, length, take, set, replicate, sym, refl, ap, ◌∙◌, subst, append_assoc, arith, length-append, length-set}
use lib.Seq.{set_at, take-append_seam}
use Rattle.rules.specs.Contents.{Content}
use Rattle.intake.specs.declared.counts.Counts.{Counts}
use Rattle.intake.specs.declared.entry.Entry.{Entry}
use Rattle.intake.specs.declared.entry.Entry.TheVariants as E
use Rattle.intake.specs.Rows.{pushed}
use Rattle.intake.specs.Firsts.{firsts}
use Rattle.intake.specs.Fillings.{Roomy, blanks, SameLengths, Held, Holds, PlaceFor, counted, written}

module _ {A : Type 0} (d : A) (xs : List A) (n : ℕ) (t : List A) (h : Held d xs n t) where
  pub held_firsts : take n t ≡ xs
  held_firsts = ap (λ (k : ℕ). take k t) h.count ∙ ap (λ (u : List A). take (length xs) u) h.filled ∙ take-append_seam xs (replicate (length t - length xs) d)

  pub held_more : (x : A) → n < length t → Held d (xs ++ (x ∷ [])) (n + 1) (set t n x)
  held_more x lt =
      let m : ℕ = length t - suc (length xs) in
      let c = h.count in
      let e1 : length t - length xs ≡ suc m = omega arith in
      let e2 : m ≡ length (set t n x) - length (xs ++ (x ∷ [])) = simp (length-append, length-set) (omega arith) in
      record {
        count = simp length-append (omega arith);
        filled =
            ap (λ (u : List A). set u n x) h.filled
            ∙ ap (λ (k : ℕ). set (xs ++ replicate k d) n x) e1
            ∙ ap (λ (j : ℕ). set (xs ++ replicate (suc m) d) j x) c
            ∙ set_at xs d (replicate m d) x (length xs) refl
            ∙ sym (append_assoc xs (x ∷ []) (replicate m d))
            ∙ ap (λ (k : ℕ). (xs ++ (x ∷ [])) ++ replicate k d) e2;
      }

-- one entry more
pub holds_more : (x : Content) (c : Counts) (t : Content) (e : Entry) → Holds x c t → PlaceFor c t e → Holds (pushed x e) (counted c e) (written c t e)
holds_more x c t (E.Group y) h p = record { groups = held_more _ _ _ _ h.groups y p; seats = h.seats; reserves = h.reserves; trainees = h.trainees; contracts = h.contracts; bars = h.bars }
holds_more x c t (E.Seat y) h p = record { groups = h.groups; seats = held_more _ _ _ _ h.seats y p; reserves = h.reserves; trainees = h.trainees; contracts = h.contracts; bars = h.bars }
holds_more x c t (E.Reserve y) h p = record { groups = h.groups; seats = h.seats; reserves = held_more _ _ _ _ h.reserves y p; trainees = h.trainees; contracts = h.contracts; bars = h.bars }
holds_more x c t (E.Trainee y) h p = record { groups = h.groups; seats = h.seats; reserves = h.reserves; trainees = held_more _ _ _ _ h.trainees y p; contracts = h.contracts; bars = h.bars }
holds_more x c t (E.Contract y) h p = record { groups = h.groups; seats = h.seats; reserves = h.reserves; trainees = h.trainees; contracts = held_more _ _ _ _ h.contracts y p; bars = h.bars }
holds_more x c t (E.Bar y) h p = record { groups = h.groups; seats = h.seats; reserves = h.reserves; trainees = h.trainees; contracts = h.contracts; bars = held_more _ _ _ _ h.bars y p }
holds_more x c t (E.End n) h p = h

-- the first entries are those that are held
pub holds-firsts : (x : Content) (c : Counts) (t : Content) → Holds x c t → firsts c t ≡ x
holds-firsts x c t h =
    let a = held_firsts _ _ _ _ h.groups in
    let b = held_firsts _ _ _ _ h.seats in
    let f = held_firsts _ _ _ _ h.reserves in
    let g = held_firsts _ _ _ _ h.trainees in
    let i = held_firsts _ _ _ _ h.contracts in
    let j = held_firsts _ _ _ _ h.bars in
    let z : firsts c t ≡ record { groups = x.groups; seats = x.seats; reserves = x.reserves; trainees = x.trainees; contracts = x.contracts; bars = x.bars } = cc in
    z

-- blanking and writing keep the lengths
pub same_itself : (t : Content) → SameLengths t t
same_itself t = record { groups = refl; seats = refl; reserves = refl; trainees = refl; contracts = refl; bars = refl }

pub same_then : (t u v : Content) → SameLengths t u → SameLengths u v → SameLengths t v
same_then t u v h k = record {
  groups = k.groups ∙ h.groups;
  seats = k.seats ∙ h.seats;
  reserves = k.reserves ∙ h.reserves;
  trainees = k.trainees ∙ h.trainees;
  contracts = k.contracts ∙ h.contracts;
  bars = k.bars ∙ h.bars;
}

set_same : (c : Counts) (t : Content) (e : Entry) → SameLengths t (written c t e)
set_same c t (E.Group x) = record { groups = length-set t.groups _ x; seats = refl; reserves = refl; trainees = refl; contracts = refl; bars = refl }
set_same c t (E.Seat x) = record { groups = refl; seats = length-set t.seats _ x; reserves = refl; trainees = refl; contracts = refl; bars = refl }
set_same c t (E.Reserve x) = record { groups = refl; seats = refl; reserves = length-set t.reserves _ x; trainees = refl; contracts = refl; bars = refl }
set_same c t (E.Trainee x) = record { groups = refl; seats = refl; reserves = refl; trainees = length-set t.trainees _ x; contracts = refl; bars = refl }
set_same c t (E.Contract x) = record { groups = refl; seats = refl; reserves = refl; trainees = refl; contracts = length-set t.contracts _ x; bars = refl }
set_same c t (E.Bar x) = record { groups = refl; seats = refl; reserves = refl; trainees = refl; contracts = refl; bars = length-set t.bars _ x }
set_same c t (E.End n) = same_itself t

pub same_written : (c : Counts) (t u : Content) (e : Entry) → u ≡ written c t e → SameLengths t u
same_written c t u e h = subst (SameLengths t) (sym h) (set_same c t e)

pub roomy_same : (t u : Content) → SameLengths t u → Roomy t → Roomy u
roomy_same t u h r = record {
  groups = omega (arith, h.groups, r.groups);
  seats = omega (arith, h.seats, r.seats);
  reserves = omega (arith, h.reserves, r.reserves);
  trainees = omega (arith, h.trainees, r.trainees);
  contracts = omega (arith, h.contracts, r.contracts);
  bars = omega (arith, h.bars, r.bars);
}

-- blank tables of the same lengths are the same
pub blanks_same : (t u : Content) → SameLengths t u → blanks u ≡ blanks t
blanks_same t u h =
    let a = h.groups in
    let b = h.seats in
    let c = h.reserves in
    let d = h.trainees in
    let e = h.contracts in
    let f = h.bars in
    cc
