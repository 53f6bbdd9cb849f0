use Rattle.std.proofs.Common.{List, ◌∙◌, ap, ap₂}
use Rattle.std.specs.List.{slice_range}
use Rattle.rules.specs.declared.table.Barring.{Barring}
use Rattle.bar.specs.declared.span.Span.{Span}
use Rattle.bar.specs.Bars.{bars}
use Rattle.bar.proofs.Barring.{bars_in_span}
use Rattle.bar.proofs.bars.Bars.bars.Goals as goal

pub returns : goal.returns
returns c =
    let s = c.args.self.now in
    c.any_bars.ensures
    ∙ ap₂ (λ i j. bars (slice_range c.deref.result.now i j) c.args.c.now) c.from.ensures c.from-2.ensures
    ∙ ap (λ (ps : List Barring). bars (slice_range ps c.span_of-span.result.from c.span_of-span.result.to) c.args.c.now) c.deref.ensures.0
    ∙ ap (λ (x : Span). bars (slice_range s.pairs.items x.from x.to) c.args.c.now) c.span_of-span.ensures
    ∙ bars_in_span s.spans s.pairs.items c.args.c.now s.spanned
