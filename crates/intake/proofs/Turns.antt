-- One turn of the reading loop: a refusal, the end, or one record more.
use Rattle.std.proofs.Common.{rules, ◌≡◌, ℕ, ◌<◌, ◌≤◌, List, length, drop, sym, refl, ap, ◌∙◌, subst, arith, length-drop}
use Rattle.format.specs.declared.record.Record.{Record}
use Rattle.format.specs.declared.record.Record.TheVariants as R
use Rattle.format.specs.declared.reader.Reader.{Reader}
use Rattle.format.specs.Layout.{kind}
use Rattle.format.specs.Reader.{SameBytes, rest_of}
use Rattle.rules.specs.declared.fault.RecordFault.{RecordFault}
use Rattle.rules.specs.declared.section.Section.{Section}
use Rattle.rules.specs.declared.section.Section.TheVariants.{Closed}
use Rattle.rules.specs.Contents.{Content}
use Rattle.rules.specs.Order.{after}
use Rattle.rules.specs.Refusals.{record_refusal}
use Rattle.rules.specs.Rules.{Allowed, RecordNo, Room}
use Rattle.intake.specs.declared.counts.Counts.{Counts}
use Rattle.intake.specs.declared.entry.Entry.{Entry}
use Rattle.intake.specs.declared.entry.Entry.TheVariants as E
use Rattle.intake.specs.declared.fault.DeckFault.{DeckFault}
use Rattle.intake.specs.declared.fault.DeckFault.TheVariants.{Records, SmallTable, TooLong, WrongCount, Trailing, OtherTables}
use Rattle.intake.specs.Refusals.{refusal}
use Rattle.intake.specs.Rows.{Row, ◌▸◌, encodes, section_of, listed, entry_of, pushed, Passes, Led, Entered}
use Rattle.intake.specs.Fillings.{Roomy, Holds, PlaceFor, counted, written}
use Rattle.intake.specs.Firsts.{firsts}
use Rattle.intake.specs.Book.{Due, wrong_count, trailing, EndNo, Fills}
use Rattle.intake.proofs.Rows.{few, led}
use Rattle.intake.proofs.Fillings.{holds-firsts, holds_more, same_written, roomy_same}
use Rattle.intake.proofs.States.{Read, State, read_more, read_all}
use Rattle.intake.proofs.Dues.{due_record}

-- only an E has an E's entry
end_of : (t : Content) (p n : ℕ) (r : Record) → entry_of t p r ≡ E.End n → r ≡ R.End n
end_of t p n (R.Group q c m) e = search rules
end_of t p n (R.Seat d q) e = search rules
end_of t p n (R.Reserve d s) e = search rules
end_of t p n (R.Trainee l f m) e = search rules
end_of t p n (R.Wish g s m) e = search rules
end_of t p n (R.Bar d) e = search rules
end_of t p n (R.End m) e = cc

-- only an E closes a deck
open_after : (t : Content) (p : ℕ) (r : Record) → ((n : ℕ) → entry_of t p r ≡ E.End n → ⊥) → after (kind r) ≡ Closed → ⊥
open_after t p (R.Group q c m) h e = search rules
open_after t p (R.Seat d q) h e = search rules
open_after t p (R.Reserve d s) h e = search rules
open_after t p (R.Trainee l f m) h e = search rules
open_after t p (R.Wish g s m) h e = search rules
open_after t p (R.Bar d) h e = search rules
open_after t p (R.End n) h e = h n refl

-- a table that is large enough has a place for an entry under its most
place_for : (x : Content) (c : Counts) (t : Content) (p : ℕ) (r : Record) → Room x (kind r) → Holds x c t → Roomy t → PlaceFor c t (entry_of x p r)
place_for x c t p (R.Group q k m) a h b = let n = h.groups.count in let l = b.groups in omega arith
place_for x c t p (R.Seat d q) a h b = let n = h.seats.count in let l = b.seats in omega arith
place_for x c t p (R.Reserve d s) a h b = let n = h.reserves.count in let l = b.reserves in omega arith
place_for x c t p (R.Trainee l f m) a h b = let n = h.trainees.count in let k = b.trainees in omega arith
place_for x c t p (R.Wish g s m) a h b = let n = h.contracts.count in let k = b.contracts in omega arith
place_for x c t p (R.Bar d) a h b = let n = h.bars.count in let k = b.bars in omega arith
place_for x c t p (R.End n) a h b = tt

-- the record that an entry came from, read
pub record Came (all : List ℕ) (q : ℕ) (rs : Row) (e : Entry) (s : Section) : Type 0 where
  pub came : Record
  pub read : Read all q (rs ▸ came)
  pub entry_is : e ≡ entry_of (listed rs) (length (encodes rs)) came
  pub section_is : s ≡ after (kind came)

module _ {all : List ℕ} {reader : Reader} {section : Section} {had : Counts} {t : Content} {rs : Row} (st : State all reader section had t rs)
    (x : Content) (past : x ≡ firsts had t) where
  past_is : x ≡ listed rs
  past_is = past ∙ holds-firsts _ _ _ st.holds

  pub few_past : length x.trainees ≤ 256
  few_past = subst (λ (y : Content). length y.trainees ≤ 256) (sym past_is) (few rs st.read.passes).trainees

  pub led_past : Led section x
  led_past = subst (λ (y : Content). Led section y) (sym past_is) (subst (λ (s : Section). Led s (listed rs)) (sym st.section_is) (led rs st.read.passes))

  pub refused : length all ≤ 15363 → (f : RecordFault) → RecordNo section x (rest_of reader) reader.place f → Due all (record_refusal f)
  refused short f h =
      due_record all (drop reader.place all) rs f (record { short = short; bytes_are = st.read.spelled; passed = st.read.passes }) st.is_open
      (subst (λ (p : ℕ). RecordNo (section_of rs) (listed rs) (drop reader.place all) p f) st.read.at
      (subst (λ (b : List ℕ). RecordNo (section_of rs) (listed rs) (drop reader.place b) reader.place f) st.same
      (subst (λ (y : Content). RecordNo (section_of rs) y (rest_of reader) reader.place f) past_is
      (subst (λ (s : Section). RecordNo s x (rest_of reader) reader.place f) st.section_is h))))

  pub came : (next : Reader) (e : Entry) (s : Section) → Entered section x reader next (e, s) → Came all next.place rs e s
  came next e s h =
      let a = h.1 in
      let allowed = subst (λ (y : Content). Allowed (section_of rs) y h.0) past_is (subst (λ (i : Section). Allowed i x h.0) st.section_is a.allowed) in
      record {
        came = h.0;
        read = read_more h.0 st.same st.read a.took allowed;
        entry_is = h.2 ∙ ap (λ (y : Content). entry_of y reader.place h.0) past_is ∙ ap (λ (p : ℕ). entry_of (listed rs) p h.0) st.read.at;
        section_is = a.next;
      }

  pub room_for : (next : Reader) (e : Entry) (s : Section) → Entered section x reader next (e, s) → PlaceFor had t e
  room_for next e s h =
      let c = came next e s h in
      subst (λ (y : Entry). PlaceFor had t y) (sym c.entry_is)
      (place_for (listed rs) had t (length (encodes rs)) c.came c.read.passes.1.ruled.room st.holds st.roomy)

  -- one record more, and its entry stored
  pub again : (next : Reader) (e : Entry) (s : Section) (had' : Counts) (t' : Content) → SameBytes reader next → Entered section x reader next (e, s) →
      ((n : ℕ) → e ≡ E.End n → ⊥) → had' ≡ counted had e → t' ≡ written had t e → (r : Row) × State all next s had' t' r
  again next e s had' t' same h more hc ht =
      let c = came next e s h in
      let holds = subst (λ (y : Entry). Holds (pushed (listed rs) y) (counted had e) (written had t e)) c.entry_is (holds_more (listed rs) had t e st.holds (room_for next e s h)) in (
        rs ▸ c.came,
        record {
          same = same ∙ st.same;
          read = c.read;
          section_is = c.section_is;
          is_open = open_after (listed rs) (length (encodes rs)) c.came (λ n z. more n (c.entry_is ∙ z));
          holds = subst (λ (y : Content). Holds (listed (rs ▸ c.came)) had' y) (sym ht) (subst (λ (d : Counts). Holds (listed (rs ▸ c.came)) d (written had t e)) (sym hc) holds);
          roomy = roomy_same t t' (same_written had t t' e ht) st.roomy;
        },
      )

  module _ (short : length all ≤ 15363) (n : ℕ) (next : Reader) (e : Entry) (s : Section) (h : Entered section x reader next (e, s)) (end : e ≡ E.End n) where
    read-end : Read all next.place (rs ▸ R.End n)
    read-end =
        let c = came next e s h in
        subst (λ (r : Record). Read all next.place (rs ▸ r)) (end_of (listed rs) (length (encodes rs)) n c.came (sym c.entry_is ∙ end)) c.read

    -- the deck is whole
    pub closed : (c : Counts) → (c ≡ had) × (n ≡ had.wishes) × (next.place ≡ length all) → Fills all c t
    closed c k =
        let r = read-end in
        let w = k.1 ∙ st.holds.contracts.count in (
          rs,
          record {
            bytes_are = read_all r k.2 ∙ ap (λ (m : ℕ). encodes (rs ▸ R.End m)) w;
            passes = subst (λ (m : ℕ). Passes (rs ▸ R.End m)) w r.passes;
          },
          subst (λ (d : Counts). Holds (listed rs) d t) (sym k.0) st.holds,
        )

    -- E has a no
    pub not_closed : next.place ≤ length all → (f : DeckFault) → EndNo n had.wishes reader.place next.place (length all) f → Due all (refusal f)
    not_closed le (WrongCount p) k =
        let r = read-end in
        subst (λ (y : ℕ). Due all (refusal (WrongCount y))) (sym (k.1 ∙ st.read.at))
        (wrong_count rs n (drop next.place all) (record { short = short; bytes_are = r.spelled; passed = r.passes }) (λ z. k.0 (z ∙ sym st.holds.contracts.count)))
    not_closed le (Trailing p) k =
        let r = read-end in
        let ne = k.1 in
        let some : 0 < length (drop next.place all) = simp length-drop (omega arith) in
        subst (λ (y : ℕ). Due all (refusal (Trailing y))) (sym (k.2 ∙ r.at))
        (trailing rs n (drop next.place all) (record { short = short; bytes_are = r.spelled; passed = r.passes }) (k.0 ∙ st.holds.contracts.count) some)
    not_closed le (Records f) k = absurd k
    not_closed le SmallTable k = absurd k
    not_closed le TooLong k = absurd k
    not_closed le OtherTables k = absurd k
