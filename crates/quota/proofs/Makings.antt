-- The rows of a deck's groups.
use Rattle.std.proofs.Common.{◌≡◌, ℕ, ◌<◌, ◌≤◌, List, length, None, replicate, refl, ◌∙◌, ⊎_elim, arith}
use Rattle.std.proofs.lemmas.List.{get_or_past, get_or-replicate}
use Rattle.std.proofs.lemmas.Bool.{cases_lt}
use Rattle.rules.specs.declared.table.Group.{Group}
use Rattle.rules.specs.Contents.{group_at}
use Rattle.quota.specs.declared.row.Row.{Row}
use Rattle.quota.specs.Caps.{row_of, no_row, row_at}

-- the first n rows are written
pub record Made (gs : List Group) (rows : List Row) (n : ℕ) : Type 0 where
  pub done : (v : ℕ) → v < n → row_at rows v ≡ row_of (group_at gs v)
  pub rest : (v : ℕ) → n ≤ v → row_at rows v ≡ no_row
  pub long : length rows ≡ 64

same_row : (r : Row) → r.parent ≡ None → r.cap ≡ 0 → r ≡ no_row
same_row r p c i = record { parent = p i; cap = c i }

pub made_none : (gs : List Group) (r : Row) → r.parent ≡ None → r.cap ≡ 0 → Made gs (replicate 64 r) 0
made_none gs r p c = record {
  done = λ v l. absurd (omega arith);
  rest = λ v l. ⊎_elim (λ h. get_or-replicate 64 v r no_row h ∙ same_row r p c) (λ h. get_or_past (replicate 64 r) v no_row h) (cases_lt v 64);
  long = refl;
}
