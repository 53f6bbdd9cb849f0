-- A board that asks for points, and has room for everybody.
use Rattle.std.specs.Prelude.{ℕ, ◌&&◌, List, nat_le}
use Rattle.rules.specs.declared.table.Contract.{Contract}
use Rattle.rules.specs.Contents.{contract_at}
use Rattle.matching.specs.Sets.{Set}
use Rattle.matching.specs.Choices.{Choice}

-- the contracts with at least so many points
abbrev pub enough : ℕ → List Contract → Set
enough least cs k = nat_le least (contract_at cs k).points

-- of a list, those with enough points are kept
abbrev pub keeps : ℕ → List Contract → Choice
keeps least cs X k = X k && enough least cs k
