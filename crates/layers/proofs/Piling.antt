-- What a pile of layers keeps, by the tables that it was made from.
use Rattle.std.proofs.Common.{◌≡◌, ℕ, List, length, get_or, Result, ap, subst, ◌∙◌}
use Rattle.std.proofs.Math.Path.{fun_ext}
use Rattle.rules.specs.declared.table.Barring.{Barring}
use Rattle.rules.specs.Contents.{Content, contract_at}
use Rattle.board.specs.declared.unfit.Unfit.{Unfit}
use Rattle.board.specs.Calls.{Chosen}
use Rattle.matching.specs.Choices.{Choice, without, over, first}
use Rattle.ranking.specs.Rank.{above}
use Rattle.bar.specs.Bars.{barred}
use Rattle.reserve.specs.Reserves.{flagged, reserved, seats_for}
use Rattle.layers.specs.Piles.{reserve_part, piled}

part_of : (t : Content) (places : List ℕ) → ((v : ℕ) → get_or places v 0 ≡ seats_for t.reserves v) → reserved places t.contracts ≡ reserve_part t
part_of t places h =
    ap (λ (r : ℕ → ℕ). first (length t.contracts) (flagged t.contracts) (above t.contracts) r) (fun_ext (λ k. h (contract_at t.contracts k).dredger))

pub piled_is : (t : Content) (f h : Choice) (ps : List Barring) (places : List ℕ) → ps ≡ t.bars → ((v : ℕ) → get_or places v 0 ≡ seats_for t.reserves v) → f ≡ h
    → without (barred ps t.contracts) (over (reserved places t.contracts) f) ≡ piled t h
piled_is t f h ps places a b e =
    ap (λ (z : List Barring). without (barred z t.contracts) (over (reserved places t.contracts) f)) a
    ∙ ap (λ (R : Choice). without (barred t.bars t.contracts) (over R f)) (part_of t places b)
    ∙ ap (λ (k : Choice). piled t k) e

-- what a pile of layers chooses, by the tables that it was made from
pub chosen_piled : {B : Type 0} (kept : B → Content → Choice) (t : Content) (own below : B) (ps : List Barring) (places : List ℕ) (n : ℕ) (before after : List ℕ) (r : Result Unit Unfit)
    → own ≡ below → ((v : ℕ) → get_or places v 0 ≡ seats_for t.reserves v) → ps ≡ t.bars
    → Chosen (without (barred ps t.contracts) (over (reserved places t.contracts) (kept own t))) n before after r → Chosen (piled t (kept below t)) n before after r
chosen_piled kept t own below ps places n before after r e b a =
    subst (λ k. Chosen k n before after r) (piled_is t (kept own t) (kept below t) ps places a b (ap (λ x. kept x t) e))
