-- The entries that counts count.
use Rattle.std.specs.Prelude.{take}
use Rattle.rules.specs.Contents.{Content}
use Rattle.intake.specs.declared.counts.Counts.{Counts}

-- the first entries of the tables, as many as were counted
abbrev pub firsts : Counts → Content → Content
firsts c t = record {
  groups = take c.groups t.groups;
  seats = take c.seats t.seats;
  reserves = take c.reserves t.reserves;
  trainees = take c.trainees t.trainees;
  contracts = take c.wishes t.contracts;
  bars = take c.bars t.bars;
}
