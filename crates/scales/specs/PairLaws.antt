-- The proof that the scale of pairs keeps the truth laws; it stands here because the implementation cites it.
use Rattle.std.proofs.Common.{◌≡◌, ◌<◌, ◌≤◌, ◌⊎◌, refl, ap, inl, inr, ⊎_elim, arith}
use Rattle.std.proofs.lemmas.Bool.{cases_lt}
use Rattle.scales.specs.Scales.{Laws}
use Rattle.scales.specs.Pairs.{below, least, most, one_more, truer_pair, pair_ops}
use Rattle.scales.specs.declared.pair.Count.{Count}
use Rattle.scales.specs.declared.pair.Count.TheVariants.{Number, Infinite, Impossible}

below_same : (x : Count) → below x x
below_same (Number a) = omega arith
below_same Infinite = tt
below_same Impossible = tt

below_more : (x y : Count) → below x y → below (one_more x) (one_more y)
below_more (Number a) (Number b) h = omega arith
below_more (Number a) Infinite h = tt
below_more (Number a) Impossible h = tt
below_more Infinite (Number b) h = h
below_more Infinite Infinite h = tt
below_more Infinite Impossible h = tt
below_more Impossible (Number b) h = h
below_more Impossible Infinite h = h
below_more Impossible Impossible h = tt

below_trans : (x y z : Count) → below x y → below y z → below x z
below_trans (Number a) (Number b) (Number c) h k = omega arith
below_trans (Number a) (Number b) Infinite h k = tt
below_trans (Number a) (Number b) Impossible h k = tt
below_trans (Number a) Infinite (Number c) h k = absurd k
below_trans (Number a) Infinite Infinite h k = tt
below_trans (Number a) Infinite Impossible h k = tt
below_trans (Number a) Impossible (Number c) h k = absurd k
below_trans (Number a) Impossible Infinite h k = absurd k
below_trans (Number a) Impossible Impossible h k = tt
below_trans Infinite (Number b) z h k = absurd h
below_trans Infinite Infinite z h k = k
below_trans Infinite Impossible (Number c) h k = absurd k
below_trans Infinite Impossible Infinite h k = absurd k
below_trans Infinite Impossible Impossible h k = tt
below_trans Impossible (Number b) z h k = absurd h
below_trans Impossible Infinite z h k = absurd h
below_trans Impossible Impossible z h k = k

-- the smaller is one of the two, and below both
least_is : (x y : Count) → ((least x y ≡ x) × below x y) ⊎ ((least x y ≡ y) × below y x)
least_is (Number a) (Number b) = ⊎_elim
    (λ (h : a < b). inl (ap Number (omega arith), omega arith))
    (λ (h : b ≤ a). inr (ap Number (omega arith), h))
    (cases_lt a b)
least_is (Number a) Infinite = inl (refl, tt)
least_is (Number a) Impossible = inl (refl, tt)
least_is Infinite (Number b) = inr (refl, tt)
least_is Infinite Infinite = inl (refl, tt)
least_is Infinite Impossible = inl (refl, tt)
least_is Impossible (Number b) = inr (refl, tt)
least_is Impossible Infinite = inr (refl, tt)
least_is Impossible Impossible = inl (refl, tt)

-- the larger is one of the two, and above both
most_is : (x y : Count) → ((most x y ≡ y) × below x y) ⊎ ((most x y ≡ x) × below y x)
most_is (Number a) (Number b) = ⊎_elim
    (λ (h : a < b). inl (ap Number (omega arith), omega arith))
    (λ (h : b ≤ a). inr (ap Number (omega arith), h))
    (cases_lt a b)
most_is (Number a) Infinite = inl (refl, tt)
most_is (Number a) Impossible = inl (refl, tt)
most_is Infinite (Number b) = inr (refl, tt)
most_is Infinite Infinite = inl (refl, tt)
most_is Infinite Impossible = inl (refl, tt)
most_is Impossible (Number b) = inr (refl, tt)
most_is Impossible Infinite = inr (refl, tt)
most_is Impossible Impossible = inl (refl, tt)

least_left : (x y : Count) → below (least x y) x
least_left x y = ⊎_elim (λ e. rw e.0 (below_same x)) (λ e. rw e.0 e.1) (least_is x y)

least_right : (x y : Count) → below (least x y) y
least_right x y = ⊎_elim (λ e. rw e.0 e.1) (λ e. rw e.0 (below_same y)) (least_is x y)

most_left : (x y : Count) → below x (most x y)
most_left x y = ⊎_elim (λ e. rw e.0 e.1) (λ e. rw e.0 (below_same x)) (most_is x y)

most_right : (x y : Count) → below y (most x y)
most_right x y = ⊎_elim (λ e. rw e.0 (below_same y)) (λ e. rw e.0 e.1) (most_is x y)

-- what is below both is below the smaller, and what is above both above the larger
least_both : (x y z w : Count) → below x y → below z w → below (least x z) (least y w)
least_both x y z w h k = ⊎_elim
    (λ e. rw e.0 (below_trans (least x z) x y (least_left x z) h))
    (λ e. rw e.0 (below_trans (least x z) z w (least_right x z) k))
    (least_is y w)

most_both : (x y z w : Count) → below y x → below w z → below (most y w) (most x z)
most_both x y z w h k = ⊎_elim
    (λ e. rw e.0 (below_trans w z (most x z) k (most_right x z)))
    (λ e. rw e.0 (below_trans y x (most x z) h (most_left x z)))
    (most_is y w)

pub pair_laws : Laws pair_ops truer_pair
pair_laws = record {
  same = λ x. (below_same x.s, below_same x.f);
  ends = (tt, tt);
  turns = λ x y h. (h.1, h.0);
  joins = λ x y z w h k. (least_both x.s y.s z.s w.s h.0 k.0, most_both x.f y.f z.f w.f h.1 k.1);
  laters = λ x y h. (below_more x.s y.s h.0, below_more y.f x.f h.1);
}
