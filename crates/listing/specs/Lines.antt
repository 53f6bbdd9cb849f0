-- The lines that are printed. Fields stand one blank apart; byte 10 ends a line.
use Rattle.std.specs.Prelude.{ℕ, List, ◌++◌, length, take, drop, codes, decimal, ◌==◌}
use Rattle.std.specs.List.{count_by, range_with_len, flat_map}
use Rattle.format.specs.declared.fault.Refusal.{Refusal}
use Rattle.format.specs.Refusals.{layer_name}
use Rattle.intake.specs.declared.counts.Counts.{Counts}
use Rattle.rules.specs.declared.table.Contract.{Contract}
use Rattle.rules.specs.Contents.{Content, trainee_at}

-- a number in decimal, a blank before it
abbrev pub number_field : ℕ → List ℕ
number_field n = codes " " ++ decimal n

-- a refusal prints only this line
abbrev pub line_of_refusal : Refusal → List ℕ
line_of_refusal x = codes "REFUSED" ++ (number_field x.number ++ (codes " PLACE" ++ (number_field x.place ++ (codes " LAYER " ++ (layer_name x.layer ++ codes "\n")))))

-- the eight bytes of the name at a place of the deck
abbrev pub name_at : List ℕ → ℕ → List ℕ
name_at deck place = take 8 (drop place deck)

-- how many entries of each table there are
abbrev pub counts_of : Content → Counts
counts_of t = record {
  groups = length t.groups;
  seats = length t.seats;
  reserves = length t.reserves;
  trainees = length t.trainees;
  wishes = length t.contracts;
  bars = length t.bars;
}

-- six counts
abbrev pub line_of_counts : Counts → List ℕ
line_of_counts c =
    codes "DECK" ++ (number_field c.groups ++ (number_field c.seats ++ (number_field c.reserves
    ++ (number_field c.trainees ++ (number_field c.wishes ++ (number_field c.bars ++ codes "\n"))))))

-- the six counts of a deck
abbrev pub line_of_deck : Content → List ℕ
line_of_deck t = line_of_counts (counts_of t)

-- how many of these contracts are of trainee k
abbrev pub wishes : ℕ → List Contract → ℕ
wishes k cs = count_by (λ c. c.trainee == k) cs

-- the name at a place of the deck, and a number
abbrev pub line_of_name : List ℕ → ℕ → ℕ → List ℕ
line_of_name deck place n = codes "T " ++ (name_at deck place ++ (number_field n ++ codes "\n"))

-- a trainee's name and number of wishes
abbrev pub line_of_trainee : List ℕ → Content → ℕ → List ℕ
line_of_trainee deck t k = line_of_name deck (trainee_at t.trainees k).name (wishes k t.contracts)

abbrev pub lines_of_trainees : List ℕ → Content → ℕ → List ℕ
lines_of_trainees deck t n = flat_map (line_of_trainee deck t) (range_with_len 0 n)

-- what is printed of a deck that was accepted
abbrev pub text_of_deck : List ℕ → Content → List ℕ
text_of_deck deck t = line_of_deck t ++ (lines_of_trainees deck t (length t.trainees) ++ codes "END\n")
