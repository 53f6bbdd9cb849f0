-- What holds of the entries of every row that passes.
use Rattle.std.proofs.Common.{rules, ◌≡◌, ℕ, ◌<◌, ◌≤◌, true, List, [], ◌∷◌, ◌++◌, length, refl, arith, length-append}
use Rattle.format.specs.declared.record.Kind.TheVariants as K
use Rattle.format.specs.declared.record.Record.{Record}
use Rattle.format.specs.declared.record.Record.TheVariants as R
use Rattle.format.specs.Layout.{kind}
use Rattle.rules.specs.declared.section.Section.{Section}
use Rattle.rules.specs.declared.section.Section.TheVariants.{Groups, Seats, Reserves, Trainees, Closed}
use Rattle.rules.specs.Contents.{Content}
use Rattle.rules.specs.Order.{may}
use Rattle.rules.specs.Rules.{Room}
use Rattle.intake.specs.Rows.{Row, none, ◌▸◌, section_of, listed, entry_of, pushed, Passes, Led, Belongs}

-- no table has more than its most
pub record Few (t : Content) : Type 0 where
  pub groups : length t.groups ≤ 64
  pub seats : length t.seats ≤ 256
  pub reserves : length t.reserves ≤ 64
  pub trainees : length t.trainees ≤ 256
  pub contracts : length t.contracts ≤ 2048
  pub bars : length t.bars ≤ 128

more : {A : Type 0} (xs : List A) (x : A) (n : ℕ) → length xs < n → length (xs ++ (x ∷ [])) ≤ n
more xs x n h = simp length-append (omega arith)

few_more : (t : Content) (p : ℕ) (r : Record) → Few t → Room t (kind r) → Few (pushed t (entry_of t p r))
few_more t p (R.Group q c n) h m = record { groups = more t.groups _ 64 m; seats = h.seats; reserves = h.reserves; trainees = h.trainees; contracts = h.contracts; bars = h.bars }
few_more t p (R.Seat d r) h m = record { groups = h.groups; seats = more t.seats _ 256 m; reserves = h.reserves; trainees = h.trainees; contracts = h.contracts; bars = h.bars }
few_more t p (R.Reserve d s) h m = record { groups = h.groups; seats = h.seats; reserves = more t.reserves _ 64 m; trainees = h.trainees; contracts = h.contracts; bars = h.bars }
few_more t p (R.Trainee l f n) h m = record { groups = h.groups; seats = h.seats; reserves = h.reserves; trainees = more t.trainees _ 256 m; contracts = h.contracts; bars = h.bars }
few_more t p (R.Wish g s e) h m = record { groups = h.groups; seats = h.seats; reserves = h.reserves; trainees = h.trainees; contracts = more t.contracts _ 2048 m; bars = h.bars }
few_more t p (R.Bar d) h m = record { groups = h.groups; seats = h.seats; reserves = h.reserves; trainees = h.trainees; contracts = h.contracts; bars = more t.bars _ 128 m }
few_more t p (R.End n) h m = h

pub few : (rs : Row) → Passes rs → Few (listed rs)
few none p = record { groups = omega arith; seats = omega arith; reserves = omega arith; trainees = omega arith; contracts = omega arith; bars = omega arith }
few (rs ▸ r) p = few_more (listed rs) _ r (few rs p.0) p.1.ruled.room

-- a wish or a bar stands in the trainees' part
wish_part : (s : Section) → may s K.Wish ≡ true → s ≡ Trainees
wish_part Groups e = search rules
wish_part Seats e = search rules
wish_part Reserves e = search rules
wish_part Trainees e = refl
wish_part Closed e = search rules

bar_part : (s : Section) → may s K.Bar ≡ true → s ≡ Trainees
bar_part Groups e = search rules
bar_part Seats e = search rules
bar_part Reserves e = search rules
bar_part Trainees e = refl
bar_part Closed e = search rules

-- in the trainees' part there is a trainee
pub led : (rs : Row) → Passes rs → Led (section_of rs) (listed rs)
led none p e = search rules
led (rs ▸ R.Group q c n) p e = search rules
led (rs ▸ R.Seat d r) p e = search rules
led (rs ▸ R.Reserve d s) p e = search rules
led (rs ▸ R.Trainee l f n) p e = simp length-append (omega arith)
led (rs ▸ R.Wish g s m) p e = led rs p.0 (wish_part (section_of rs) p.1.stands)
led (rs ▸ R.Bar d) p e = led rs p.0 (bar_part (section_of rs) p.1.stands)
led (rs ▸ R.End n) p e = search rules

pub belongs : (s : Section) (t : Content) (r : Record) → may s (kind r) ≡ true → Led s t → Belongs t r
belongs s t (R.Group q c n) e h = tt
belongs s t (R.Seat d r) e h = tt
belongs s t (R.Reserve d m) e h = tt
belongs s t (R.Trainee l f n) e h = tt
belongs s t (R.Wish g p m) e h = h (wish_part s e)
belongs s t (R.Bar d) e h = h (bar_part s e)
belongs s t (R.End n) e h = tt
