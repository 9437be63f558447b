-- Steps as sets: membership in a union and in a single set, and sets of signals below a width.
use Rattle.std.specs.Int.{bit_at}
use Rattle.std.proofs.Common.{◌≡◌, ◌≢◌, ℕ, ◌/◌, ◌%◌, ◌^◌, ◌<◌, ◌≤◌, max, true, false, ◌||◌, eqb, ltb, leb, ◌↔◌, sym, refl, ap, ◌∙◌, ⊎_elim, arith}
use native.Mathlib.Nat.{div-eq_of_lt}
use lib.Bits.{bit_or}
use Rattle.std.proofs.Math.Pow.{pow_mono, split}
use Rattle.std.proofs.lemmas.Nat.{pow_pos, mod_below, le-div}
use Rattle.std.proofs.lemmas.Nat.Bits.{bit_at_or, bit_at-lt, bit_at-pow_same, bit_at-pow_other, bit_at_above, bit_at_cat_low, same_from_bits}
use Rattle.std.proofs.lemmas.Bool.{cases_lt, cases_eq, eq-eqb, ne_eqb, true≢false, ltb-true, lt-ltb, le-ltb, le-leb}
use Rattle.std.proofs.lemmas.Bool.Decides.{nat_tests}
use Rattle.std.proofs.lemmas.Grind.{one_shifted}
use Rattle.ltl.specs.Steps.{has, Below}

max_bit : (x y : ℕ) → x < 2 → y < 2 → eqb (max x y) 1 ≡ (eqb x 1 || eqb y 1)
max_bit x y p q = grind (arith, nat_tests)

-- membership in a union
pub has_or : (a b k : ℕ) → has (bit_or a b) k ≡ (has a k || has b k)
has_or a b k = ap (λ n. eqb n 1) (bit_at_or a b k) ∙ max_bit (bit_at a k) (bit_at b k) (bit_at-lt a k) (bit_at-lt b k)

-- no signal from the width on is in a set below it
pub has_none : (width s k : ℕ) → s < 2 ^ width → width ≤ k → has s k ≡ false
has_none width s k h l = rw (bit_at_above s width k h l) refl

-- membership in the set of one signal
pub has_one : (j k : ℕ) → has (2 ^ j) k ≡ eqb k j
has_one j k =
    ⊎_elim
    (λ (e : k ≡ j). rw (e, bit_at-pow_same j) (sym (eq-eqb j j refl)))
    (λ (n : k ≢ j). rw (bit_at-pow_other j k n, ne_eqb k j n) refl)
    (cases_eq k j)

-- a set with no signal from the width on is below 2^width: it is its own rest
high : (width s : ℕ) → Below width s → s < 2 ^ width
high width s b =
    let rest = s % 2 ^ width in
    let below : rest < 2 ^ width = mod_below s (2 ^ width) (pow_pos width) in
    let same : s ≡ rest = same_from_bits s rest (λ i. ⊎_elim
    (λ (l : i < width). ap (λ n. bit_at n i) (sym (split s width)) ∙ bit_at_cat_low (s / 2 ^ width) width rest i l)
    (λ (l : width ≤ i). absent i l ∙ sym (bit_at_above rest width i below l))
    (cases_lt i width)) in
    omega arith
  where
    absent : (i : ℕ) → width ≤ i → bit_at s i ≡ 0
    absent i l = ⊎_elim
        (λ (z : bit_at s i < 1). omega arith)
        (λ (o : 1 ≤ bit_at s i). let one : bit_at s i ≡ 1 = omega (arith, bit_at-lt s i) in absurd (omega (arith, b i (rw one refl))))
        (cases_lt (bit_at s i) 1)

-- a signal above 63 is in no step of the program
pub has_high : (s k : ℕ) → s < 2 ^ 64 → 64 ≤ k → has s k ≡ false
has_high s k h l = has_none 64 s k h l

-- membership in a set with one signal more
pub has_more : (s j k : ℕ) → has (bit_or s (2 ^ j)) k ≡ (has s k || eqb k j)
has_more s j k = has_or s (2 ^ j) k ∙ ap (λ b. has s k || b) (has_one j k)

-- the number tells whether every signal is below the width
pub below_test : (width s : ℕ) → (ltb s (2 ^ width) ≡ true) ↔ Below width s
below_test width s = (
  (λ e k h. ⊎_elim
      (λ (l : k < width). l)
      (λ (l : width ≤ k). absurd (true≢false (sym h ∙ has_none width s k (ltb-true s (2 ^ width) e) l)))
      (cases_lt k width)),
  (λ b. lt-ltb s (2 ^ width) (high width s b)),
)

-- the two ways to test it
pub wide : (s width : ℕ) → s < 2 ^ 64 → 64 ≤ width → leb 64 width ≡ ltb s (2 ^ width)
wide s width h l = le-leb 64 width l ∙ sym (lt-ltb s (2 ^ width) (omega (arith, pow_mono l)))

pub shifted_out : (s width : ℕ) → eqb (s / 2 ^ width) 0 ≡ ltb s (2 ^ width)
shifted_out s width = ⊎_elim
    (λ (h : s < 2 ^ width). let z : s / 2 ^ width ≡ 0 = div-eq_of_lt h in eq-eqb (s / 2 ^ width) 0 z ∙ sym (lt-ltb s (2 ^ width) h))
    (λ (h : 2 ^ width ≤ s). ne_eqb (s / 2 ^ width) 0 (λ e. omega (arith, le-div 1 s (2 ^ width) (pow_pos width) (omega arith))) ∙ sym (le-ltb s (2 ^ width) h))
    (cases_lt s (2 ^ width))

-- a set with one signal more, and what the tests against a width decide
pub ruleset one_more = (has_more, one_shifted)

pub ruleset widths = (below_test, wide, has_high, shifted_out)
