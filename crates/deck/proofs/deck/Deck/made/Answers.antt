use Rattle.rules.specs.Contents.{content_of}
use Rattle.deck.proofs.Deals.{dealt_sound, dealt_few}
use Rattle.deck.proofs.deck.Deck.made.Goals as goal

pub invariant_of-result : goal.invariant_of-result
invariant_of-result c =
    let s = dealt_sound c.args.bytes.now (content_of c.args.tables) c.requires in
    let f = dealt_few c.args.bytes.now (content_of c.args.tables) c.requires in
    record {
      lawful = ∣ c.requires ∣₁;
      few_groups = f.groups;
      few_seats = f.seats;
      few_reserves = f.reserves;
      few_trainees = f.trainees;
      few_contracts = f.contracts;
      few_bars = f.bars;
      earlier = λ g p lt. (s.groups g lt).earlier p;
      own = λ g lt. (s.groups g lt).own;
      inherited = λ g p lt. (s.groups g lt).inherited p;
      topped = λ g lt. (s.groups g lt).topped;
      group_names = λ g lt. (s.groups g lt).named.0;
      groups_printed = λ g i h. (s.groups g h.0).named.1 i h.1;
      seats_given = λ k lt. (s.seats k lt).given;
      seat_rules = λ k lt. (s.seats k lt).rule;
      reserves_given = s.reserves;
      reserves_apart = s.reserves_apart;
      trainee_names = λ t lt. (s.trainees t lt).0;
      trainees_printed = λ t i h. (s.trainees t h.0).1 i h.1;
      lots_apart = s.lots_apart;
      trainees_given = λ k lt. (s.contracts k lt).trainee;
      lots_carried = λ k lt. (s.contracts k lt).lot;
      flags_carried = λ k lt. (s.contracts k lt).flag;
      groups_given = λ k lt. (s.contracts k lt).group;
      dredgers_carried = λ k lt. (s.contracts k lt).dredger;
      terms = λ k lt. (s.contracts k lt).term;
      rising = s.rising;
      wishes_apart = s.wishes_apart;
      bar_trainees = λ k lt. (s.bars k lt).trainee;
      bars_given = λ k lt. (s.bars k lt).given;
      bars_apart = s.bars_apart;
    }
