-- A market of contracts between trainees and one board that chooses for all dredgers together: what a trainee likes better, and which lists are stable.
use Rattle.std.specs.Prelude.{◌≡◌, ℕ, ◌<◌, true, false}
use Rattle.matching.specs.Sets.{Set, add, Part, Within}
use Rattle.matching.specs.Choices.{Choice}

-- The contracts are numbered below `contracts`, each of one trainee. A trainee finds some of their contracts acceptable, and of these likes better the one
-- that comes earlier in their order.
pub record Market : Type 0 where
  pub contracts : ℕ
  pub trainees : ℕ
  pub trainee : ℕ → ℕ
  pub acceptable : Set
  pub order : ℕ → ℕ

-- each contract is of a trainee of the market, and no two that a trainee accepts have the same place in their order
pub record Known (M : Market) : Type 0 where
  pub trainee : (k : ℕ) → k < M.contracts → M.trainee k < M.trainees
  pub apart : (i j : ℕ) → i < M.contracts → j < M.contracts → M.acceptable i ≡ true → M.acceptable j ≡ true →
      M.trainee i ≡ M.trainee j → M.order i ≡ M.order j → i ≡ j

-- its trainee likes k better than what the list N gives them; any contract is better than none
abbrev pub Better : Market → ℕ → Set → Type 0
Better M k N = (j : ℕ) → N j ≡ true → M.trainee j ≡ M.trainee k → M.order k < M.order j

-- trainee t likes what the list A gives them better than what the list B does
abbrev pub Likes : Market → ℕ → Set → Set → Type 0
Likes M t A B = (a : ℕ) × (A a ≡ true) × (M.trainee a ≡ t) × Better M a B

-- no trainee has two contracts in the list
abbrev pub Single : Market → Set → Type 0
Single M N = (i j : ℕ) → N i ≡ true → N j ≡ true → M.trainee i ≡ M.trainee j → i ≡ j

-- k, outside N, blocks: it is acceptable, its trainee likes it better than what N gives, and it is kept beside N
pub record Blocks (M : Market) (kept : Choice) (N : Set) (k : ℕ) : Type 0 where
  pub known : k < M.contracts
  pub acceptable : M.acceptable k ≡ true
  pub outside : N k ≡ false
  pub better : Better M k N
  pub wanted : kept (add N k) k ≡ true

pub record Stable (M : Market) (kept : Choice) (N : Set) : Type 0 where
  pub within : Within M.contracts N
  pub acceptable : Part N M.acceptable
  pub single : Single M N
  pub keeps : kept N ≡ N
  pub unblocked : (k : ℕ) → Blocks M kept N k → ⊥

-- N is stable, and no trainee likes another stable list better
pub record Best (M : Market) (kept : Choice) (N : Set) : Type 0 where
  pub stable : Stable M kept N
  pub liked : (A : Set) → Stable M kept A → (t : ℕ) → Likes M t A N → ⊥
