-- The lineups of a board of seats.
use Rattle.std.specs.Prelude.{Some, None, Option, ⊤}
use Rattle.rules.specs.declared.table.Rule.{Rule}
use Rattle.rules.specs.declared.table.Rule.TheVariants.{Rank, Lot, Term}
use Rattle.board.specs.declared.marked.Marked.{Marked}
use Rattle.seats.specs.declared.lineup.Lineup.{Lineup}
use Rattle.seats.specs.declared.lineups.Lineups.{Lineups}
use Rattle.seats.specs.Ready.{Ready}

-- a lineup that is made is ready
abbrev pub Stands : Rule → Marked → Option Lineup → Type 0
Stands rule rest None = ⊤
Stands rule rest (Some l) = Ready rule rest l

-- one lineup for each rule
pub record Prepared (rest : Marked) (ls : Lineups) : Type 0 where
  pub rank : Stands Rank rest ls.rank
  pub lot : Stands Lot rest ls.lot
  pub term : Stands Term rest ls.term
