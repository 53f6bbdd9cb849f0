-- Counting the wishes of a trainee, one contract after another.
use Rattle.std.proofs.Common.{◌≡◌, ℕ, ◌+◌, ◌<◌, ◌≤◌, cond, eqb, List, [], ◌∷◌, ◌++◌, length, take, ap, ◌∙◌, arith, take_all, eq-eqb, ne_eqb}
use Rattle.std.proofs.lemmas.List.{take_more}
use Rattle.std.proofs.lemmas.List.Sums.{sum_by-append}
use Rattle.rules.specs.declared.table.Contract.{Contract}
use Rattle.rules.specs.Contents.{zero_contract, contract_at}
use Rattle.listing.specs.Lines.{wishes}

module _ (k : ℕ) (cs : List Contract) (i : ℕ) (lt : i < length cs) where
  one_more : wishes k (take (i + 1) cs) ≡ wishes k (take i cs) + cond (eqb (contract_at cs i).trainee k) 1 0
  one_more =
      ap (wishes k) (take_more cs i zero_contract lt)
      ∙ sum_by-append (λ c. cond (eqb c.trainee k) 1 0) (take i cs) (contract_at cs i ∷ [])
      ∙ (omega arith)

  pub wish_more : (contract_at cs i).trainee ≡ k → wishes k (take (i + 1) cs) ≡ wishes k (take i cs) + 1
  wish_more e = one_more ∙ ap (λ b. wishes k (take i cs) + cond b 1 0) (eq-eqb (contract_at cs i).trainee k e)

  pub wish_other : ((contract_at cs i).trainee ≡ k → ⊥) → wishes k (take (i + 1) cs) ≡ wishes k (take i cs)
  wish_other e = one_more ∙ ap (λ b. wishes k (take i cs) + cond b 1 0) (ne_eqb (contract_at cs i).trainee k e) ∙ (omega arith)

pub wish_all : (k : ℕ) (cs : List Contract) (i : ℕ) → length cs ≤ i → wishes k (take i cs) ≡ wishes k cs
wish_all k cs i h = ap (wishes k) (take_all i cs h)
