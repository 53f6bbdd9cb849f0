-- Barred contracts.
use Rattle.std.specs.Prelude.{ℕ, ◌+◌, ◌<◌, ◌≤◌, Bool, cond, ◌&&◌, List, ◌==◌, slice_index_or}
use Rattle.std.specs.List.{list_any}
use Rattle.rules.specs.declared.table.Barring.{Barring}
use Rattle.rules.specs.declared.table.Contract.{Contract}
use Rattle.rules.specs.Contents.{bar_at, contract_at}
use Rattle.matching.specs.Sets.{Set, minus}
use Rattle.bar.specs.declared.span.Span.{Span}

-- the pair bars the contract: both name its trainee and its dredger
abbrev pub hits : Barring → Contract → Bool
hits p c = p.trainee == c.trainee && p.dredger == c.dredger

-- one of the pairs bars the contract
abbrev pub bars : List Barring → Contract → Bool
bars ps c = list_any (λ p. hits p c) ps

-- the contracts that are barred
abbrev pub barred : List Barring → List Contract → Set
barred ps cs k = bars ps (contract_at cs k)

-- (4, dredger) for a barred contract, and for any other what the board below says of the list without the barred ones
abbrev pub bar_reason : Set → List Contract → (Set → ℕ → ℕ × ℕ) → Set → ℕ → ℕ × ℕ
bar_reason B cs reason X k = cond (B k) (4, (contract_at cs k).dredger) (reason (minus X B) k)

-- a trainee's span; past the end of the spans there is none
abbrev pub span_at : List Span → ℕ → Span
span_at ss t = slice_index_or ss t (record { from = 0; to = 0 })

-- each of the first n pairs stands in the span of its trainee
abbrev pub From : List Span → List Barring → ℕ → Type 0
From ss ps n = (i : ℕ) → i < n → (span_at ss (bar_at ps i).trainee).from ≤ i

abbrev pub To : List Span → List Barring → ℕ → Type 0
To ss ps n = (i : ℕ) → i < n → i < (span_at ss (bar_at ps i).trainee).to

-- no span reaches past the first n
abbrev pub Short : List Span → ℕ → Type 0
Short ss n = (t : ℕ) → (span_at ss t).to ≤ n

-- a span that takes in place i, the last so far
abbrev pub widened : Span → ℕ → Span
widened s i = record { from = cond (s.to == 0) i s.from; to = i + 1 }

-- the spans of the first n pairs
pub record Spans (ss : List Span) (ps : List Barring) (n : ℕ) : Type 0 where
  pub from : From ss ps n
  pub to : To ss ps n
  pub short : Short ss n
  pub proper : (t : ℕ) → (span_at ss t).from ≤ (span_at ss t).to
