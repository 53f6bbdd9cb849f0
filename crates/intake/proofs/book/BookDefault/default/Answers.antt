use Rattle.std.proofs.Common.{◌≡◌, refl, rules}
use Rattle.rules.specs.Contents.{zero_group, zero_seat, zero_reservation, zero_trainee, zero_contract, zero_barring}
use Rattle.intake.proofs.book.BookDefault.default.Goals as goal

pub returns : goal.returns
returns c =
    let g : c.default.result ≡ zero_group = search rules in
    let s : c.default-2.result ≡ zero_seat = search rules in
    let r : c.default-3.result ≡ zero_reservation = search rules in
    let t : c.default-4.result ≡ zero_trainee = search rules in
    let k : c.default-5.result ≡ zero_contract = search rules in
    let b : c.default-6.result ≡ zero_barring = search rules in
    rw (g, s, r, t, k, b) refl
