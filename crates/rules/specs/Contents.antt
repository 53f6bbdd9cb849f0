-- What six tables hold, without the memory that holds it.
use Rattle.std.specs.Prelude.{◌≡◌, ℕ, ◌<◌, ◌≤◌, false, zero, suc, List, [], Some, None, Option, Result, Ok, MatchResult, slice_index_or, if◌then◌else◌, ◌==◌}
use Rattle.std.specs.Result.{result_unwrap_or}
use Rattle.rules.specs.declared.table.Group.{Group}
use Rattle.rules.specs.declared.table.Rule.{Rule}
use Rattle.rules.specs.declared.table.Rule.TheVariants.{Rank, Lot, Term}
use Rattle.rules.specs.declared.table.UnknownRule.{UnknownRule}
use Rattle.rules.specs.declared.table.Seat.{Seat}
use Rattle.rules.specs.declared.table.Reservation.{Reservation}
use Rattle.rules.specs.declared.table.Trainee.{Trainee}
use Rattle.rules.specs.declared.table.Contract.{Contract}
use Rattle.rules.specs.declared.table.Barring.{Barring}
use Rattle.rules.specs.declared.table.Tables.{Tables}

pub record Content : Type 0 where
  pub groups : List Group
  pub seats : List Seat
  pub reserves : List Reservation
  pub trainees : List Trainee
  pub contracts : List Contract
  pub bars : List Barring

abbrev pub content_of : Tables → Content
content_of t = record {
  groups = t.groups.now;
  seats = t.seats.now;
  reserves = t.reserves.now;
  trainees = t.trainees.now;
  contracts = t.contracts.now;
  bars = t.bars.now;
}

abbrev pub nothing : Content
nothing = record { groups = []; seats = []; reserves = []; trainees = []; contracts = []; bars = [] }

-- the parent that a byte gives
abbrev pub parent_of : ℕ → Option ℕ
parent_of p = if p == 255 then None else Some p

-- the rule that a byte stands for: by rank, by lot or by term
abbrev pub rule_of : ℕ → Rule
rule_of zero = Rank
rule_of (suc zero) = Lot
rule_of (suc (suc b)) = Term

-- a number's rule, and by rank where it stands for none
abbrev pub rule_or_rank : ℕ → Rule
rule_or_rank n = if n == 1 then Lot else (if n == 2 then Term else Rank)

-- a byte of at most 2 gives its rule, and any other is handed back
abbrev pub RuleGiven : ℕ → Result Rule UnknownRule → Type 0
RuleGiven b r = MatchResult r (λ rule. (b ≤ 2) × (rule ≡ rule_of b)) (λ e. (2 < b) × (e.0 ≡ b))

-- blank entries, and what is read past the end of a table
abbrev pub zero_group : Group
zero_group = record { parent = None; capacity = 0; name = 0; dredger = 0 }

abbrev pub zero_seat : Seat
zero_seat = record { dredger = 0; rule = Ok Rank }

-- the rule that a seat goes by: its own, and by rank where its byte stands for none
abbrev pub rule_by : Seat → Rule
rule_by s = result_unwrap_or s.rule Rank

abbrev pub zero_reservation : Reservation
zero_reservation = record { dredger = 0; seats = 0 }

abbrev pub zero_trainee : Trainee
zero_trainee = record { lot = 0; flag = false; name = 0 }

abbrev pub zero_contract : Contract
zero_contract = record { trainee = 0; group = 0; dredger = 0; points = 0; term = 0; lot = 0; flag = false }

abbrev pub zero_barring : Barring
zero_barring = record { trainee = 0; dredger = 0 }

-- an entry by its number
abbrev pub group_at : List Group → ℕ → Group
group_at gs k = slice_index_or gs k zero_group

abbrev pub seat_at : List Seat → ℕ → Seat
seat_at ss k = slice_index_or ss k zero_seat

abbrev pub reserve_at : List Reservation → ℕ → Reservation
reserve_at rs k = slice_index_or rs k zero_reservation

abbrev pub trainee_at : List Trainee → ℕ → Trainee
trainee_at ts k = slice_index_or ts k zero_trainee

abbrev pub contract_at : List Contract → ℕ → Contract
contract_at cs k = slice_index_or cs k zero_contract

abbrev pub bar_at : List Barring → ℕ → Barring
bar_at bs k = slice_index_or bs k zero_barring
