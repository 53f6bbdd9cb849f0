-- The number of each refusal of a board's calls, and the first question answered no.
use Rattle.std.specs.Prelude.{ℕ, cond, ◌==◌, nat_lt}
use Rattle.board.specs.declared.unfit.Unfit.{Unfit}
use Rattle.board.specs.declared.unfit.Unfit.TheVariants.{Marks, Contract}

abbrev pub number : Unfit → ℕ
number Marks = 31
number Contract = 32

-- are the marks as long as the deck has contracts? 31; 0 is no refusal
abbrev pub asks_marks : ℕ → ℕ → ℕ
asks_marks n long = cond (long == n) 0 31

-- and then, is the contract in the deck? 32
abbrev pub asks_contract : ℕ → ℕ → ℕ → ℕ
asks_contract n long k = cond (long == n) (cond (nat_lt k n) 0 32) 31
