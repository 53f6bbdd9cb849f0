-- Which contracts some pair bars.
use Rattle.std.proofs.Common.{Result, ◌≡◌, ℕ, ◌+◌, ◌-◌, ◌<◌, ◌≤◌, ◌⊎◌, inl, inr, false, ◌||◌, List, length, take, drop, replicate, sym, ap, ◌∙◌, ⊎_elim, arith}
use Rattle.std.specs.List.{slice_range, slice_index_or}
use Rattle.std.proofs.lemmas.List.{get_or_past, get_or_default, get_or-replicate, get_or-take, get_or-drop, length-replicate, length-take, length-drop, take-append-drop}
use Rattle.std.proofs.lemmas.List.Folds.{list_any_none, list_any-append, drop_split}
use Rattle.std.proofs.lemmas.Bool.{and_left, ne_eqb, cases_eq, cases_lt}
use Rattle.rules.specs.declared.table.Barring.{Barring}
use Rattle.rules.specs.declared.table.Contract.{Contract}
use Rattle.rules.specs.Contents.{bar_at, contract_at, zero_barring}
use Rattle.matching.specs.Sets.{minus}
use Rattle.matching.specs.Choices.{Choice, without}
use Rattle.matching.proofs.Sets.{or_false}
use Rattle.board.specs.declared.unfit.Unfit.{Unfit}
use Rattle.board.specs.Calls.{Chosen}
use Rattle.board.specs.Marks.{member}
use Rattle.board.proofs.Through.{chosen-without}
use Rattle.bar.specs.declared.span.Span.{Span}
use Rattle.bar.specs.Bars.{hits, bars, barred, span_at, Spans}

abbrev empty : Span
empty = record { from = 0; to = 0 }

-- the pairs of a contract's trainee alone decide whether it is barred
module _ (ss : List Span) (ps : List Barring) (c : Contract) (h : Spans ss ps (length ps)) where
  abbrev from : ℕ
  from = (span_at ss c.trainee).from

  abbrev to : ℕ
  to = (span_at ss c.trainee).to

  -- a pair outside the span of the trainee names another one
  outside : (i : ℕ) (d : Barring) → i < length ps → (i < from) ⊎ (to ≤ i) → hits (slice_index_or ps i d) c ≡ false
  outside i d l o = ap (λ p. hits p c) (get_or_default ps i d zero_barring l) ∙ ⊎_elim same (λ ne. and_left _ _ (ne_eqb _ _ ne)) (cases_eq (bar_at ps i).trainee c.trainee)
    where
      same : (bar_at ps i).trainee ≡ c.trainee → hits (bar_at ps i) c ≡ false
      same e =
          let a : from ≤ i = rw e at (h.from i l) in
          let b : i < to = rw e at (h.to i l) in
          absurd (omega arith)

  front : bars (take from ps) c ≡ false
  front = list_any_none (λ p. hits p c) (take from ps) (λ k d l.
      let e = length-take from ps in
      let m : k < from = omega arith in
      ap (λ p. hits p c) (get_or-take from ps k d m) ∙ outside k d (omega arith) (inl m))

  back : bars (drop to ps) c ≡ false
  back = list_any_none (λ p. hits p c) (drop to ps) (λ k d l.
      let e : length (drop to ps) ≡ length ps - to = length-drop to ps in
      ap (λ p. hits p c) (get_or-drop to ps k d) ∙ outside (to + k) d (omega arith) (inr (omega arith)))

  pub bars_in_span : bars (slice_range ps from to) c ≡ bars ps c
  bars_in_span =
      sym (or_false (bars (slice_range ps from to) c))
      ∙ ap (λ b. bars (slice_range ps from to) c || b) (sym back)
      ∙ sym (list_any-append (λ p. hits p c) (slice_range ps from to) (drop to ps))
      ∙ ap (λ xs. bars xs c) (sym (drop_split ps from to (h.proper c.trainee)))
      ∙ ap (λ b. b || bars (drop from ps) c) (sym front)
      ∙ sym (list_any-append (λ p. hits p c) (take from ps) (drop from ps))
      ∙ ap (λ xs. bars xs c) (take-append-drop from ps)

-- a row of empty spans has only empty ones
no_span : (s : Span) (t : ℕ) → (span_at (replicate 256 s) t ≡ s) ⊎ (span_at (replicate 256 s) t ≡ empty)
no_span s t = ⊎_elim (λ l. inl (get_or-replicate 256 t s empty l))
    (λ l. inr (get_or_past (replicate 256 s) t empty (let e : length (replicate 256 s) ≡ 256 = length-replicate 256 s in omega arith))) (cases_lt t 256)

pub spans_none : (s : Span) (ps : List Barring) → s.from ≡ 0 → s.to ≡ 0 → Spans (replicate 256 s) ps 0
spans_none s ps f e = record {
  from = λ i l. absurd (omega arith);
  to = λ i l. absurd (omega arith);
  short = λ t. let z = ends t in omega arith;
  proper = λ t. let z = starts t in omega arith;
}
  where
    starts : (t : ℕ) → (span_at (replicate 256 s) t).from ≡ 0
    starts t = ⊎_elim (λ q. ap (λ x. x.from) q ∙ f) (λ q. ap (λ x. x.from) q) (no_span s t)

    ends : (t : ℕ) → (span_at (replicate 256 s) t).to ≡ 0
    ends t = ⊎_elim (λ q. ap (λ x. x.to) q ∙ e) (λ q. ap (λ x. x.to) q) (no_span s t)

-- the pair for a barred contract, by the contracts that were read
pub said_of : (cs ds : List Contract) (k v : ℕ) (w : ℕ × ℕ) → v ≡ (contract_at cs k).dredger → cs ≡ ds → ◌≡◌ {A = ℕ × ℕ} (4, (contract_at ds k).dredger) w → ◌≡◌ {A = ℕ × ℕ} (4, v) w
said_of cs ds k v w a e h = ap (λ (x : ℕ). (4, x)) a ∙ ap (λ (z : List Contract). (4, (contract_at z k).dredger)) e ∙ h

-- `choose` of the board below, on marks from which what these pairs bar was struck
pub chosen_struck : (f : Choice) (ps : List Barring) (cs ds : List Contract) (xs mid after : List ℕ) (r : Result Unit Unfit) → ds ≡ cs → length xs ≡ length cs
    → length mid ≡ length xs → member mid ≡ minus (member xs) (barred ps ds) → Chosen f (length cs) mid after r → Chosen (without (barred ps cs) f) (length cs) xs after r
chosen_struck f ps cs ds xs mid after r e l m h =
    chosen-without f (barred ps cs) (length cs) xs mid after r l m (h ∙ ap (λ (zs : List Contract). minus (member xs) (barred ps zs)) e)
