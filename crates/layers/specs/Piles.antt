-- What a board keeps under the reserves and the bars of a deck.
use Rattle.std.specs.Prelude.{length}
use Rattle.rules.specs.Contents.{Content, contract_at}
use Rattle.matching.specs.Choices.{Choice, without, over, first}
use Rattle.ranking.specs.Rank.{above}
use Rattle.bar.specs.Bars.{barred}
use Rattle.reserve.specs.Reserves.{flagged, seats_for}

-- the reserve part by a deck's own reserves
abbrev pub reserve_part : Content → Choice
reserve_part t = first (length t.contracts) (flagged t.contracts) (above t.contracts) (λ k. seats_for t.reserves (contract_at t.contracts k).dredger)

-- the bars are outermost: a barred contract takes no reserved place
abbrev pub piled : Content → Choice → Choice
piled t kept = without (barred t.bars t.contracts) (over (reserve_part t) kept)
