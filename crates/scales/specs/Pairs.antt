-- The scale of pairs of witness counts.
use Rattle.std.specs.Prelude.{ℕ, ◌+◌, ◌≤◌, min, max}
use Rattle.scales.specs.Scales.{Ops}
use Rattle.scales.specs.declared.pair.Count.{Count}
use Rattle.scales.specs.declared.pair.Count.TheVariants.{Number, Infinite, Impossible}
use Rattle.scales.specs.declared.pair.Pair.{Pair}

-- the order of counts: number < inf < impossible
abbrev pub below : Count → Count → Type 0
below (Number a) (Number b) = a ≤ b
below (Number a) Infinite = Unit {0}
below (Number a) Impossible = Unit {0}
below Infinite (Number b) = ⊥
below Infinite Infinite = Unit {0}
below Infinite Impossible = Unit {0}
below Impossible (Number b) = ⊥
below Impossible Infinite = ⊥
below Impossible Impossible = Unit {0}

-- the smaller of two counts
abbrev pub least : Count → Count → Count
least (Number a) (Number b) = Number (min a b)
least (Number a) Infinite = Number a
least (Number a) Impossible = Number a
least Infinite (Number b) = Number b
least Infinite Infinite = Infinite
least Infinite Impossible = Infinite
least Impossible (Number b) = Number b
least Impossible Infinite = Infinite
least Impossible Impossible = Impossible

-- the larger of two counts
abbrev pub most : Count → Count → Count
most (Number a) (Number b) = Number (max a b)
most (Number a) Infinite = Infinite
most (Number a) Impossible = Impossible
most Infinite (Number b) = Infinite
most Infinite Infinite = Infinite
most Infinite Impossible = Impossible
most Impossible (Number b) = Impossible
most Impossible Infinite = Impossible
most Impossible Impossible = Impossible

-- one more, for a number below 65,535
abbrev pub one_more : Count → Count
one_more (Number a) = Number (min (a + 1) 65535)
one_more Infinite = Infinite
one_more Impossible = Impossible

-- the pair (s, f)
abbrev pub pair : Count → Count → Pair
pair s f = record { s = s; f = f }

-- the truer pair has s no larger and f no smaller
abbrev pub truer_pair : Pair → Pair → Type 0
truer_pair x y = below x.s y.s × below y.f x.f

abbrev pub pair_ops : Ops Pair
pair_ops = record {
  yes = pair (Number 0) Impossible;
  no = pair Impossible (Number 0);
  past = pair (Number 0) (Number 0);
  «open» = pair Impossible Infinite;
  turn = λ p. pair p.f p.s;
  join = λ p q. pair (least p.s q.s) (most p.f q.f);
  later = λ p. pair (one_more p.s) (one_more p.f);
}

-- the pairs that occur as values
pub data Shape : Pair → Type 0 where
  true_after : (a : ℕ) → Shape (pair (Number a) Impossible)
  false_after : (a : ℕ) → Shape (pair Impossible (Number a))
  both_numbers : (a b : ℕ) → Shape (pair (Number a) (Number b))
  never_false : (a : ℕ) → Shape (pair (Number a) Infinite)
  never_true : (b : ℕ) → Shape (pair Infinite (Number b))
  neither : Shape (pair Infinite Infinite)
