use Rattle.std.proofs.Common.{◌≡◌, ℕ, ◌≤◌, length, sym, ap, ◌∙◌, subst, arith, rules}
use Rattle.std.proofs.lemmas.Result.{err_from_is_err_and, MatchResult-weaker}
use Rattle.rules.specs.Contents.{content_of}
use Rattle.intake.specs.Lent.{content_of_lent}
use Rattle.intake.specs.Book.{too_long, EndNo}
use Rattle.intake.proofs.Fillings.{same_then, same_written}
use Rattle.intake.proofs.Turns.{few_past, led_past, refused, again, closed, not_closed}
use Rattle.intake.proofs.fill.fill.Goals as goal

pub returns-then-bytes-gt-LONGEST-clause-cases : goal.returns-then-bytes-gt-LONGEST-clause-cases
returns-then-bytes-gt-LONGEST-clause-cases c = too_long (omega arith)

pub next_entry-requires : goal.next_entry-requires
next_entry-requires c =
    let st = c.loop-entry.invariant.read.1 in
    let same : c.loop-entry.reader.bytes.now ≡ c.args.bytes.now = st.same in
    let l = ap length same in
    record {
      place = omega (arith, c.loop-entry.reader.inside);
      few = few_past st (content_of c.firsts-past.result) c.firsts-past.ensures;
      led = led_past st (content_of c.firsts-past.result) c.firsts-past.ensures;
    }

pub returns-in_err-entry-clause-cases : goal.returns-in_err-entry-clause-cases
returns-in_err-entry-clause-cases c =
    let p = err_from_is_err_and c.from_residual.result c.from_residual.ensures.1 in
    rw (p.1, p.2) (refused c.loop-entry.invariant.read.1 (content_of c.firsts-past.result) c.firsts-past.ensures (omega arith) c.in_err-entry.field-0.0 c.in_err-entry.ensures.cases)

pub returns-in-End-clause-cases : goal.returns-in-End-clause-cases
returns-in-End-clause-cases c =
    let st = c.loop-entry.invariant.read.1 in
    let x = content_of c.firsts-past.result in
    let e = c.firsts-past.ensures in
    let h = c.in_ok-entry.ensures.cases in
    let short : length c.args.bytes.now ≤ 15363 = omega arith in
    let same : c.next_entry.new.reader.bytes.now ≡ c.args.bytes.now = c.in_ok-entry.ensures.same ∙ st.same in
    let l = ap length same in
    MatchResult-weaker c.close.result c.close.ensures
    (λ k g. closed st x e short c.in-End.count c.next_entry.new.reader c.in_ok-entry.entry c.in_ok-entry.next h c.in-End.is k (g.0, g.1, sym c.place.ensures ∙ g.2))
    (λ f g. not_closed st x e short c.in-End.count c.next_entry.new.reader c.in_ok-entry.entry c.in_ok-entry.next h c.in-End.is (omega (arith, c.next_entry.new.reader.inside)) f
    (subst (λ (y : ℕ). EndNo c.in-End.count c.loop-entry.had.wishes y c.next_entry.new.reader.place (length c.args.bytes.now) f) c.place-place.ensures
    (subst (λ (y : ℕ). EndNo c.in-End.count c.loop-entry.had.wishes c.place-place.result y (length c.args.bytes.now) f) c.place.ensures g)))

pub loop-entry-preserved : goal.loop-entry-preserved
loop-entry-preserved c =
    let i = c.loop-entry.invariant in
    record {
      same = search rules;
      lengths = same_then _ _ _ i.lengths (same_written _ _ _ _ c.store-had.ensures.entries);
      read = again i.read.1 (content_of c.firsts-past.result) c.firsts-past.ensures c.next_entry.new.reader
          c.in_ok-entry.entry c.in_ok-entry.next c.store-had.result (content_of_lent c.store-had.new.self)
          c.in_ok-entry.ensures.same c.in_ok-entry.ensures.cases c.in_default.not-End c.store-had.ensures.counts c.store-had.ensures.entries;
    }
