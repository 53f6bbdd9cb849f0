-- Six tables that are lent for writing.
use Rattle.std.specs.Prelude.{◌≡◌}
use Rattle.rules.specs.Contents.{Content}
use Rattle.intake.specs.declared.tables.TablesMut.{TablesMut}
use Rattle.intake.specs.Fillings.{tables}

-- what they hold
abbrev pub content_of_lent : TablesMut → Content
content_of_lent t = tables t.groups.now t.seats.now t.reserves.now t.trainees.now t.contracts.now t.bars.now

-- they are lent still, and no others in their place
pub record SameTables (x y : TablesMut) : Type 0 where
  pub groups : y.groups.ghost_name ≡ x.groups.ghost_name
  pub seats : y.seats.ghost_name ≡ x.seats.ghost_name
  pub reserves : y.reserves.ghost_name ≡ x.reserves.ghost_name
  pub trainees : y.trainees.ghost_name ≡ x.trainees.ghost_name
  pub contracts : y.contracts.ghost_name ≡ x.contracts.ghost_name
  pub bars : y.bars.ghost_name ≡ x.bars.ghost_name
