-- The facts of a deck's entries, carried along its row.
use Rattle.std.proofs.Common.{◌≡◌, ℕ, Some, None, ◌+◌, ◌-◌, ◌<◌, ◌≤◌, Bool, true, false, cond, eqb, List, [], ◌∷◌, ◌++◌, length, get_or, sym, refl, ap, ◌∙◌, subst, inl, inr, arith, length-append, le-leb}
use Rattle.std.specs.Result.{IsOk}
use Rattle.std.proofs.lemmas.List.{get_or_append_left, get_or-append_right, get_or_push}
use Rattle.std.proofs.lemmas.Bool.{cases_Bool, eqb-false}
use Rattle.std.proofs.lemmas.Option.{none-some}
use Rattle.format.specs.declared.record.Record.{Record}
use Rattle.format.specs.declared.record.Record.TheVariants as R
use Rattle.format.specs.Layout.{encode, Formed}
use Rattle.rules.specs.declared.table.Group.{Group}
use Rattle.rules.specs.declared.table.Seat.{Seat}
use Rattle.rules.specs.declared.table.Reservation.{Reservation}
use Rattle.rules.specs.declared.table.Trainee.{Trainee}
use Rattle.rules.specs.declared.table.Contract.{Contract}
use Rattle.rules.specs.declared.table.Barring.{Barring}
use Rattle.rules.specs.Contents.{Content, parent_of, group_at, seat_at, reserve_at, trainee_at, contract_at, bar_at}
use Rattle.rules.specs.Rules.{IsDredger, Printable, Ruled, current}
use Rattle.intake.specs.Rows.{Row, none, ◌▸◌, encodes, section_of, listed, entry_of, entry_of_group, entry_of_wish, pushed, Passes, Belongs}
use Rattle.intake.proofs.Rows.{led, belongs}
use Rattle.deck.specs.Facts.{printed, ReservesApart, LotsApart, Rising, WishesApart, BarsApart}
use Rattle.deck.proofs.Pushes.{each_push, pairs_push}

-- eight bytes of 32 to 126 stand at a place
abbrev pub NameAt : List ℕ → ℕ → Type 0
NameAt all p = (p + 8 ≤ length all) × ((i : ℕ) → i < 8 → printed (get_or all (p + i) 0) ≡ true)

pub record GroupOk (all : List ℕ) (gs : List Group) (k : ℕ) (a : Group) : Type 0 where
  pub earlier : (p : ℕ) → a.parent ≡ Some p → p < k
  pub own : a.parent ≡ None → a.dredger ≡ k
  pub inherited : (p : ℕ) → a.parent ≡ Some p → a.dredger ≡ (group_at gs p).dredger
  pub topped : IsDredger gs a.dredger
  pub named : NameAt all a.name

pub record SeatOk (gs : List Group) (a : Seat) : Type 0 where
  pub given : IsDredger gs a.dredger
  pub rule : IsOk a.rule

pub record ContractOk (gs : List Group) (ts : List Trainee) (a : Contract) : Type 0 where
  pub trainee : a.trainee < length ts
  pub lot : a.lot ≡ (trainee_at ts a.trainee).lot
  pub flag : a.flag ≡ (trainee_at ts a.trainee).flag
  pub group : a.group < length gs
  pub dredger : a.dredger ≡ (group_at gs a.group).dredger
  pub term : a.term ≤ 9

pub record BarOk (gs : List Group) (ts : List Trainee) (a : Barring) : Type 0 where
  pub trainee : a.trainee < length ts
  pub given : IsDredger gs a.dredger

pub record Sound (all : List ℕ) (t : Content) : Type 0 where
  pub groups : (k : ℕ) → k < length t.groups → GroupOk all t.groups k (group_at t.groups k)
  pub seats : (k : ℕ) → k < length t.seats → SeatOk t.groups (seat_at t.seats k)
  pub reserves : (k : ℕ) → k < length t.reserves → IsDredger t.groups (reserve_at t.reserves k).dredger
  pub reserves_apart : ReservesApart t.reserves
  pub trainees : (k : ℕ) → k < length t.trainees → NameAt all (trainee_at t.trainees k).name
  pub lots_apart : LotsApart t.trainees
  pub contracts : (k : ℕ) → k < length t.contracts → ContractOk t.groups t.trainees (contract_at t.contracts k)
  pub rising : Rising t.contracts
  pub wishes_apart : WishesApart t.contracts
  pub bars : (k : ℕ) → k < length t.bars → BarOk t.groups t.trainees (bar_at t.bars k)
  pub bars_apart : BarsApart t.bars

-- more bytes, more groups, more trainees
name_wider : (b x : List ℕ) (p : ℕ) → NameAt b p → NameAt (b ++ x) p
name_wider b x p h =
    let n = length-append b x in
    let l = h.0 in
    (omega arith, λ i lt. let k : p + i < length b = omega arith in subst (λ (y : ℕ). printed y ≡ true) (sym (get_or_append_left b x 0 (p + i) k)) (h.1 i lt))

dredger_wider : (gs : List Group) (g : Group) (d : ℕ) → IsDredger gs d → IsDredger (gs ++ (g ∷ [])) d
dredger_wider gs g d h =
    let n = length-append gs (g ∷ []) in
    let l = h.0 in
    (omega arith, ap (λ (y : Group). y.parent) (get_or_append_left gs (g ∷ []) _ d h.0) ∙ h.1)

contract_groups : (gs : List Group) (ts : List Trainee) (g : Group) (a : Contract) → ContractOk gs ts a → ContractOk (gs ++ (g ∷ [])) ts a
contract_groups gs ts g a h =
    let n = length-append gs (g ∷ []) in
    let l = h.group in
    record {
      trainee = h.trainee;
      lot = h.lot;
      flag = h.flag;
      term = h.term;
      group = omega arith;
      dredger = h.dredger ∙ sym (ap (λ (y : Group). y.dredger) (get_or_append_left gs (g ∷ []) _ a.group h.group));
    }

contract_trainees : (gs : List Group) (ts : List Trainee) (t : Trainee) (a : Contract) → ContractOk gs ts a → ContractOk gs (ts ++ (t ∷ [])) a
contract_trainees gs ts t a h =
    let n = length-append ts (t ∷ []) in
    let l = h.trainee in
    let e = sym (get_or_append_left ts (t ∷ []) _ a.trainee h.trainee) in
    record {
      group = h.group;
      dredger = h.dredger;
      term = h.term;
      trainee = omega arith;
      lot = h.lot ∙ ap (λ (y : Trainee). y.lot) e;
      flag = h.flag ∙ ap (λ (y : Trainee). y.flag) e;
    }

group_wider : (all : List ℕ) (gs : List Group) (g : Group) (k : ℕ) (a : Group) → k ≤ length gs → GroupOk all gs k a → GroupOk all (gs ++ (g ∷ [])) k a
group_wider all gs g k a le h = record {
  earlier = h.earlier;
  own = h.own;
  inherited = λ p e. let lt = h.earlier p e in let l : p < length gs = omega arith in
      h.inherited p e ∙ sym (ap (λ (y : Group). y.dredger) (get_or_append_left gs (g ∷ []) _ p l));
  topped = dredger_wider gs g a.dredger h.topped;
  named = h.named;
}

-- more bytes
wider : (b x : List ℕ) (t : Content) → Sound b t → Sound (b ++ x) t
wider b x t h = record {
  groups = λ k lt. let o = h.groups k lt in record { earlier = o.earlier; own = o.own; inherited = o.inherited; topped = o.topped; named = name_wider b x _ o.named };
  trainees = λ k lt. name_wider b x _ (h.trainees k lt);
  seats = h.seats;
  reserves = h.reserves;
  reserves_apart = h.reserves_apart;
  lots_apart = h.lots_apart;
  contracts = h.contracts;
  rising = h.rising;
  wishes_apart = h.wishes_apart;
  bars = h.bars;
  bars_apart = h.bars_apart;
}

is_printed : (b : ℕ) → (32 ≤ b) × (b ≤ 126) → printed b ≡ true
is_printed b h = let e = le-leb 32 b h.0 in let f = le-leb b 126 h.1 in cc

-- the name of the record just read
name_at_lem : (b head n : List ℕ) → length head ≡ 4 → length n ≡ 8 → Printable n → NameAt (b ++ (head ++ n)) (length b + 4)
name_at_lem b head n hl nl p =
    let l = length-append b (head ++ n) in
    let m = length-append head n in (
      omega arith,
      λ i lt.
          let e : get_or (b ++ (head ++ n)) (length b + 4 + i) 0 ≡ get_or n i 0 =
          get_or-append_right b (head ++ n) (length b) (length b + 4 + i) 0 refl (omega arith)
          ∙ ap (λ (k : ℕ). get_or (head ++ n) k 0) (let z : length b + 4 + i - length b ≡ 4 + i = omega arith in z)
          ∙ get_or-append_right head n 4 (4 + i) 0 hl (omega arith)
          ∙ ap (λ (k : ℕ). get_or n k 0) (let z : 4 + i - 4 ≡ i = omega arith in z) in
          subst (λ (y : ℕ). printed y ≡ true) (sym e) (is_printed (get_or n i 0) (p i 0 (omega arith))),
    )

-- the entry of a new group
new_group : (all : List ℕ) (t : Content) (p c q : ℕ) → ((p ≡ 255 → ⊥) → p < length t.groups) → NameAt all (q + 4) → Sound all t →
    GroupOk all (t.groups ++ (entry_of_group t q p c ∷ [])) (length t.groups) (entry_of_group t q p c)
new_group all t p c q h m s = elim (cases_Bool (eqb p 255)) [ inl e ↦ root e | inr e ↦ inner e ]
  where
    root : eqb p 255 ≡ true → GroupOk all (t.groups ++ (entry_of_group t q p c ∷ [])) (length t.groups) (entry_of_group t q p c)
    root b =
        let e : parent_of p ≡ None = ap (λ (y : Bool). cond y None (Some p)) b in
        let z = ap (λ (y : Bool). cond y (length t.groups) (group_at t.groups p).dredger) b in
        let n = length-append t.groups (entry_of_group t q p c ∷ []) in
        record {
          earlier = λ a k. absurd (none-some a (sym e ∙ k));
          own = λ _. z;
          inherited = λ a k. absurd (none-some a (sym e ∙ k));
          topped = subst (λ (d : ℕ). IsDredger (t.groups ++ (entry_of_group t q p c ∷ [])) d) (sym z)
              (omega arith, ap (λ (y : Group). y.parent) (get_or_push t.groups (entry_of_group t q p c) _ (length t.groups) refl) ∙ e);
          named = m;
        }

    inner : eqb p 255 ≡ false → GroupOk all (t.groups ++ (entry_of_group t q p c ∷ [])) (length t.groups) (entry_of_group t q p c)
    inner b =
        let ne = eqb-false p 255 b in
        let e : parent_of p ≡ Some p = ap (λ (y : Bool). cond y None (Some p)) b in
        let z = ap (λ (y : Bool). cond y (length t.groups) (group_at t.groups p).dredger) b in
        let lt = h ne in
        let same : (a : ℕ) → parent_of p ≡ Some a → p ≡ a = λ a k. let u = sym e ∙ k in cc in
        record {
          earlier = λ a k. subst (λ (x : ℕ). x < length t.groups) (same a k) lt;
          own = λ k. absurd (none-some p (sym k ∙ e));
          inherited = λ a k. z ∙ sym (ap (λ (y : Group). y.dredger) (get_or_append_left t.groups (entry_of_group t q p c ∷ []) _ p lt)) ∙ ap (λ (x : ℕ). (group_at (t.groups ++ (entry_of_group t q p c ∷ [])) x).dredger) (same a k);
          topped = subst (λ (d : ℕ). IsDredger (t.groups ++ (entry_of_group t q p c ∷ [])) d) (sym z) (dredger_wider t.groups (entry_of_group t q p c) _ (s.groups p lt).topped);
          named = m;
        }

-- one record more
sound_more : (b : List ℕ) (t : Content) (r : Record) → Formed r → Ruled t r → Belongs t r → Sound b t → Sound (b ++ encode r) (pushed t (entry_of t (length b) r))
sound_more b t (R.Group p c n) f u o s0 =
    let all = b ++ encode (R.Group p c n) in
    let s = wider b (encode (R.Group p c n)) t s0 in
    let g = entry_of_group t (length b) p c in
    let m : NameAt all (length b + 4) = name_at_lem b (71 ∷ p ∷ _ ∷ _ ∷ []) n refl f u.range.1 in
    record {
      groups = each_push _ t.groups g (λ k a. GroupOk all (t.groups ++ (g ∷ [])) k a) (λ k lt. group_wider all t.groups g k _ (omega arith) (s.groups k lt)) (new_group all t p c (length b) u.range.0 m s);
      seats = λ k lt. record { given = dredger_wider t.groups g _ (s.seats k lt).given; rule = (s.seats k lt).rule };
      reserves = λ k lt. dredger_wider t.groups g _ (s.reserves k lt);
      contracts = λ k lt. contract_groups t.groups t.trainees g _ (s.contracts k lt);
      bars = λ k lt. record { trainee = (s.bars k lt).trainee; given = dredger_wider t.groups g _ (s.bars k lt).given };
      reserves_apart = s.reserves_apart;
      trainees = s.trainees;
      lots_apart = s.lots_apart;
      rising = s.rising;
      wishes_apart = s.wishes_apart;
      bars_apart = s.bars_apart;
    }
sound_more b t (R.Seat d q) f u o s0 =
    let s = wider b (encode (R.Seat d q)) t s0 in
    record {
      seats = each_push _ t.seats _ (λ k a. SeatOk t.groups a) s.seats (record { given = u.range.0; rule = refl });
      groups = s.groups;
      reserves = s.reserves;
      reserves_apart = s.reserves_apart;
      trainees = s.trainees;
      lots_apart = s.lots_apart;
      contracts = s.contracts;
      rising = s.rising;
      wishes_apart = s.wishes_apart;
      bars = s.bars;
      bars_apart = s.bars_apart;
    }
sound_more b t (R.Reserve d q) f u o s0 =
    let s = wider b (encode (R.Reserve d q)) t s0 in
    record {
      reserves = each_push _ t.reserves _ (λ k a. IsDredger t.groups a.dredger) s.reserves u.range;
      reserves_apart = pairs_push _ t.reserves _ (λ (x y : Reservation). x.dredger ≡ y.dredger → ⊥) s.reserves_apart (λ i lt. u.fresh i _ lt);
      groups = s.groups;
      seats = s.seats;
      trainees = s.trainees;
      lots_apart = s.lots_apart;
      contracts = s.contracts;
      rising = s.rising;
      wishes_apart = s.wishes_apart;
      bars = s.bars;
      bars_apart = s.bars_apart;
    }
sound_more b t (R.Trainee l g n) f u o s0 =
    let all = b ++ encode (R.Trainee l g n) in
    let s = wider b (encode (R.Trainee l g n)) t s0 in
    let e : Trainee = record { lot = l; flag = eqb g 1; name = length b + 4 } in
    let m : NameAt all (length b + 4) = name_at_lem b (84 ∷ _ ∷ _ ∷ g ∷ []) n refl f u.range.1 in
    let w = length-append t.trainees (e ∷ []) in
    record {
      trainees = each_push _ t.trainees e (λ k a. NameAt all a.name) s.trainees m;
      lots_apart = pairs_push _ t.trainees e (λ (x y : Trainee). x.lot ≡ y.lot → ⊥) s.lots_apart (λ i lt. u.fresh i _ lt);
      contracts = λ k lt. contract_trainees t.groups t.trainees e _ (s.contracts k lt);
      bars = λ k lt. let h = s.bars k lt in let i = h.trainee in record { trainee = omega arith; given = h.given };
      groups = s.groups;
      seats = s.seats;
      reserves = s.reserves;
      reserves_apart = s.reserves_apart;
      rising = s.rising;
      wishes_apart = s.wishes_apart;
      bars_apart = s.bars_apart;
    }
sound_more b t (R.Wish g p m) f u o s0 =
    let s = wider b (encode (R.Wish g p m)) t s0 in
    let e = entry_of_wish t g p m in
    let cur : current t < length t.trainees = omega arith in
    record {
      contracts = each_push _ t.contracts e (λ k a. ContractOk t.groups t.trainees a) s.contracts
          (record { trainee = cur; lot = refl; flag = refl; group = u.range.0; dredger = refl; term = u.range.1 });
      rising = pairs_push _ t.contracts e (λ (x y : Contract). x.trainee ≤ y.trainee) s.rising (λ i lt. let h = (s.contracts i lt).trainee in omega arith);
      wishes_apart = pairs_push _ t.contracts e (λ (x y : Contract). (x.trainee ≡ y.trainee) × (x.dredger ≡ y.dredger) → ⊥) s.wishes_apart (λ i lt q. u.fresh i _ lt q.0 q.1);
      groups = s.groups;
      seats = s.seats;
      reserves = s.reserves;
      reserves_apart = s.reserves_apart;
      trainees = s.trainees;
      lots_apart = s.lots_apart;
      bars = s.bars;
      bars_apart = s.bars_apart;
    }
sound_more b t (R.Bar d) f u o s0 =
    let s = wider b (encode (R.Bar d)) t s0 in
    let e : Barring = record { trainee = current t; dredger = d } in
    let cur : current t < length t.trainees = omega arith in
    record {
      bars = each_push _ t.bars e (λ k a. BarOk t.groups t.trainees a) s.bars (record { trainee = cur; given = u.range });
      bars_apart = pairs_push _ t.bars e (λ (x y : Barring). (x.trainee ≡ y.trainee) × (x.dredger ≡ y.dredger) → ⊥) s.bars_apart (λ i lt q. u.fresh i _ lt q.0 q.1);
      groups = s.groups;
      seats = s.seats;
      reserves = s.reserves;
      reserves_apart = s.reserves_apart;
      trainees = s.trainees;
      lots_apart = s.lots_apart;
      contracts = s.contracts;
      rising = s.rising;
      wishes_apart = s.wishes_apart;
    }
sound_more b t (R.End n) f u o s0 = wider b (encode (R.End n)) t s0

pub sound : (rs : Row) → Passes rs → Sound (encodes rs) (listed rs)
sound none p = record {
  groups = λ k lt. absurd (omega arith);
  seats = λ k lt. absurd (omega arith);
  reserves = λ k lt. absurd (omega arith);
  reserves_apart = λ i j ij. absurd (omega arith);
  trainees = λ k lt. absurd (omega arith);
  lots_apart = λ i j ij. absurd (omega arith);
  contracts = λ k lt. absurd (omega arith);
  rising = λ i j ij. absurd (omega arith);
  wishes_apart = λ i j ij. absurd (omega arith);
  bars = λ k lt. absurd (omega arith);
  bars_apart = λ i j ij. absurd (omega arith);
}
sound (rs ▸ r) p =
    sound_more (encodes rs) (listed rs) r p.1.formed p.1.ruled (belongs (section_of rs) (listed rs) r p.1.stands (led rs p.0)) (sound rs p.0)
