-- Choices made of lawful choices are lawful.
use Rattle.std.proofs.Common.{◌≡◌, ◌&&◌, ap, ◌∙◌, inl, inr}
use Rattle.std.proofs.lemmas.Bool.{both_ways, cases_Bool, and_parts, and_from, or_cases, or_parts, or_from, or_left, or_right}
use Rattle.matching.specs.Sets.{Set, union, minus, Part, Within}
use Rattle.matching.specs.Facts.{WithoutLawful, OverLawful, BesideLawful}
use Rattle.matching.proofs.Sets.{outside, minus_in, minus_of, minus_out, within_part}

pub without-lawful : WithoutLawful
without-lawful n B C law = record {
  part = λ X w k h. minus_of X B k (law.part (minus X B) (small X w) k h);
  substitutable = λ X Y w p k x f. elim (cases_Bool (B k)) [
    | inl b ↦ outside (C (minus Y B)) k (λ h. both_ways (B k) (minus_out Y B k (law.part (minus Y B) (small Y w) k h)) b)
    | inr b ↦ law.substitutable (minus X B) (minus Y B) (small Y w) (grow X Y p) k (minus_in X B k x b) f
  ];
  irrelevant = λ X Y w p q.
      law.irrelevant (minus X B) (minus Y B) (small X w) (grow Y X p)
      (λ k h. minus_in Y B k (q k h) (minus_out X B k (law.part (minus X B) (small X w) k h)));
}
  where
    small : (X : Set) → Within n X → Within n (minus X B)
    small X w = within_part n (minus X B) X w (minus_of X B)

    grow : (X Y : Set) → Part X Y → Part (minus X B) (minus Y B)
    grow X Y p k h = minus_in Y B k (p k (minus_of X B k h)) (minus_out X B k h)

pub over-lawful : OverLawful
over-lawful n R C lawR law = record {
  part = λ X w k h. elim (or_cases (R X k) (C (rest X) k) h) [
    | inl a ↦ lawR.part X w k a
    | inr b ↦ minus_of X (R X) k (law.part (rest X) (small X w) k b)
  ];
  substitutable = λ X Y w p k x f.
      let o = or_parts (R X k) (C (rest X) k) f in
      or_from (R Y k) (C (rest Y) k)
      (lawR.substitutable X Y w p k x o.0)
      (law.substitutable (rest X) (rest Y) (small Y w) (grow X Y w p) k (minus_in X (R X) k x o.0) o.1);
  irrelevant = λ X Y w p q.
      let e : R Y ≡ R X = lawR.irrelevant X Y w p (λ k h. q k (or_left (R X k) (C (rest X) k) h)) in
      let c : C (minus Y (R X)) ≡ C (rest X) =
      law.irrelevant (rest X) (minus Y (R X)) (small X w)
      (λ k h. minus_in X (R X) k (p k (minus_of Y (R X) k h)) (minus_out Y (R X) k h))
      (λ k h. minus_in Y (R X) k (q k (or_right (R X k) (C (rest X) k) h)) (minus_out X (R X) k (law.part (rest X) (small X w) k h))) in
      ap (λ Z. union Z (C (minus Y Z))) e ∙ ap (λ Z. union (R X) Z) c;
}
  where
    rest : Set → Set
    rest X = minus X (R X)

    small : (X : Set) → Within n X → Within n (rest X)
    small X w = within_part n (rest X) X w (minus_of X (R X))

    grow : (X Y : Set) → Within n Y → Part X Y → Part (rest X) (rest Y)
    grow X Y w p k h =
        minus_in Y (R Y) k (p k (minus_of X (R X) k h)) (lawR.substitutable X Y w p k (minus_of X (R X) k h) (minus_out X (R X) k h))

pub beside-lawful : BesideLawful
beside-lawful n H C D lawC law = record {
  part = λ X w k h. elim (or_cases (C (own X) k) (D (minus X H) k) h) [
    | inl a ↦ own_of X k (lawC.part (own X) (small X w) k a)
    | inr b ↦ minus_of X H k (law.part (minus X H) (small' X w) k b)
  ];
  substitutable = λ X Y w p k x f.
      let o = or_parts (C (own X) k) (D (minus X H) k) f in
      or_from (C (own Y) k) (D (minus Y H) k)
      (elim (cases_Bool (H k)) [
        | inl h ↦ lawC.substitutable (own X) (own Y) (small Y w) (grow X Y p) k (and_from (X k) (H k) x h) o.0
        | inr h ↦ outside (C (own Y)) k (λ c. both_ways (H k) h (and_parts (Y k) (H k) (lawC.part (own Y) (small Y w) k c)).1)
      ])
      (elim (cases_Bool (H k)) [
        | inl h ↦ outside (D (minus Y H)) k (λ c. both_ways (H k) (minus_out Y H k (law.part (minus Y H) (small' Y w) k c)) h)
        | inr h ↦ law.substitutable (minus X H) (minus Y H) (small' Y w) (grow' X Y p) k (minus_in X H k x h) o.1
      ]);
  irrelevant = λ X Y w p q.
      let c : C (own Y) ≡ C (own X) =
      lawC.irrelevant (own X) (own Y) (small X w) (grow Y X p)
      (λ k h. and_from (Y k) (H k) (q k (or_left (C (own X) k) (D (minus X H) k) h)) (and_parts (X k) (H k) (lawC.part (own X) (small X w) k h)).1) in
      let d : D (minus Y H) ≡ D (minus X H) =
      law.irrelevant (minus X H) (minus Y H) (small' X w) (grow' Y X p)
      (λ k h. minus_in Y H k (q k (or_right (C (own X) k) (D (minus X H) k) h)) (minus_out X H k (law.part (minus X H) (small' X w) k h))) in
      ap (λ Z. union Z (D (minus Y H))) c ∙ ap (λ Z. union (C (own X)) Z) d;
}
  where
    own : Set → Set
    own X k = X k && H k

    own_of : (X : Set) → Part (own X) X
    own_of X k h = (and_parts (X k) (H k) h).0

    small : (X : Set) → Within n X → Within n (own X)
    small X w = within_part n (own X) X w (own_of X)

    small' : (X : Set) → Within n X → Within n (minus X H)
    small' X w = within_part n (minus X H) X w (minus_of X H)

    grow : (X Y : Set) → Part X Y → Part (own X) (own Y)
    grow X Y p k h = let a = and_parts (X k) (H k) h in and_from (Y k) (H k) (p k a.0) a.1

    grow' : (X Y : Set) → Part X Y → Part (minus X H) (minus Y H)
    grow' X Y p k h = minus_in Y H k (p k (minus_of X H k h)) (minus_out X H k h)
