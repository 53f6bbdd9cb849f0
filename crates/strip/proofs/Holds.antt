-- What is true of every strip, whatever was done with it.
use Rattle.std.proofs.Common.{◌≡◌, ◌≤◌, length, ap, ◌∙◌, arith}
use Rattle.strip.specs.declared.row.Strip.{Strip}
use Rattle.strip.specs.Rows.{as_row}

-- its items never outnumber its places
pub items_le_places : {X : Type 0} (s : Strip X) → length (as_row s).items ≤ (as_row s).places
items_le_places s = omega arith

-- two with the same row are the same
pub same_row : {X : Type 0} (s t : Strip X) → as_row s ≡ as_row t → s ≡ t
same_row s t e =
    let items : s.items ≡ t.items = ap (λ r. r.items) e in
    let free : s.free ≡ t.free = omega (arith, ap length items, ap (λ r. r.places) e) in
    ap (λ xs. record { items = xs; free = s.free }) items ∙ ap (λ n. record { items = t.items; free = n }) free
