-- The proof that the three-valued scale keeps the truth laws; it stands here because the implementation cites it.
use Rattle.std.specs.Prelude.{◌≡◌, ◌+◌, max, refl}
use Rattle.std.proofs.Common.{arith}
use Rattle.scales.specs.Scales.{Laws}
use Rattle.scales.specs.Truths.{rank, truer, mirror, upper, truth_ops}
use Rattle.scales.specs.declared.truth.Truth.{Truth}
use Rattle.scales.specs.declared.truth.Truth.TheVariants.{False, Undecided, True}

rank_mirror : (x : Truth) → rank (mirror x) + rank x ≡ 2
rank_mirror False = refl
rank_mirror Undecided = refl
rank_mirror True = refl

rank_upper : (x y : Truth) → rank (upper x y) ≡ max (rank x) (rank y)
rank_upper False False = refl
rank_upper False Undecided = refl
rank_upper False True = refl
rank_upper Undecided False = refl
rank_upper Undecided Undecided = refl
rank_upper Undecided True = refl
rank_upper True False = refl
rank_upper True Undecided = refl
rank_upper True True = refl

pub truth_laws : Laws truth_ops truer
truth_laws = record {
  same = λ x. omega arith;
  ends = omega arith;
  turns = λ x y h. omega (arith, rank_mirror x, rank_mirror y);
  joins = λ x y z w h k. omega (arith, rank_upper x z, rank_upper y w);
  laters = λ x y h. h;
}
