-- A table that goes on blank where another ends.
use Rattle.std.proofs.Common.{◌≡◌, ℕ, ◌-◌, ◌≤◌, Bool, true, List, ◌++◌, length, take, drop, replicate, All, Decides, sym, refl, ap, ◌∙◌, subst, arith, take_all, length-drop, ext_get_or}
use lib.ListN.{length-replicate, get_or-replicate}
use lib.Seq.{drop-append_seam}
use Rattle.std.specs.List.{starts_with}
use Rattle.std.proofs.lemmas.List.Elements.{All-replicate}
use Rattle.std.proofs.lemmas.Slice.Eq.{starts_is}
use Rattle.deck.specs.Alike.{Front, Extends}

-- what `starts_with` tells, where equal entries are the same
pub front_is : {A : Type 0} (E : A → A → Bool) → ((x y : A) → Decides (E x y) (x ≡ y)) → (xs ys : List A) (r : Bool) → (r ≡ true → length xs ≤ length ys) → r ≡ starts_with E ys xs → Decides r (Front xs ys)
front_is E same xs ys r le e =
    let h = starts_is same ys xs r e in
    ((λ t. record { long = le t; same = h.0 t }), (λ f. h.1 (drop (length xs) ys) f.same))

module _ {A : Type 0} (d : A) (xs ys : List A) where
  rest_is : take (length ys - length xs) (drop (length xs) ys) ≡ drop (length xs) ys
  rest_is = take_all (length ys - length xs) (drop (length xs) ys) (let e = length-drop (length xs) ys in omega arith)

  after : Extends d xs ys → drop (length xs) ys ≡ replicate (length ys - length xs) d
  after e = ap (drop (length xs)) e.same ∙ drop-append_seam xs (replicate (length ys - length xs) d)

  blanks_are : (zs : List A) → All (λ (e : A). e ≡ d) zs → zs ≡ replicate (length zs) d
  blanks_are zs h = ext_get_or d zs (replicate (length zs) d) (sym (length-replicate (length zs) d)) (λ k lt. h k d lt ∙ sym (get_or-replicate (length zs) k d d lt))

  pub extended : Front xs ys → All (λ (e : A). e ≡ d) (take (length ys - length xs) (drop (length xs) ys)) → Extends d xs ys
  extended f h = record {
    long = f.long;
    same = f.same ∙ ap (λ (u : List A). xs ++ u) (blanks_are (drop (length xs) ys) (subst (λ (u : List A). All (λ (e : A). e ≡ d) u) rest_is h))
        ∙ ap (λ (m : ℕ). xs ++ replicate m d) (length-drop (length xs) ys);
  }

  pub rest_blank : Extends d xs ys → All (λ (e : A). e ≡ d) (take (length ys - length xs) (drop (length xs) ys))
  rest_blank e = subst (λ (u : List A). All (λ (x : A). x ≡ d) u) (sym (rest_is ∙ after e)) (All-replicate (λ (x : A). x ≡ d) (length ys - length xs) d refl)

  pub front_of : Extends d xs ys → Front xs ys
  front_of e = record { long = e.long; same = e.same ∙ ap (λ (u : List A). xs ++ u) (sym (after e)) }
