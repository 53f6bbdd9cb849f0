-- What a printer has written.
use Rattle.std.specs.Prelude.{◌≡◌, ℕ, List, ◌++◌, vec_items, Result, OnOk}
use Rattle.listing.specs.declared.printer.Printer.{Printer}

abbrev pub written : Printer → List ℕ
written p = vec_items p.out

-- the text was added at the end
pub record Grew (before after text : List ℕ) : Type 0 where
  pub is : after ≡ before ++ text

-- where memory did not fail, the printer wrote the text
abbrev pub Writes : {X E : Type 0} → Result X E → Printer → Printer → List ℕ → Type 0
Writes r p q text = OnOk r (Grew (written p) (written q) text)
