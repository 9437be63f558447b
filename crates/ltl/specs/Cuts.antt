-- Cuts of a list of steps, what they decide, and what the pairs tell of them.
use Rattle.std.specs.Prelude.{◌≡◌, ℕ, ◌+◌, ◌<◌, ◌≤◌, ◌↔◌, List, length, take}
use Rattle.scales.specs.Truths.{truth_ops}
use Rattle.scales.specs.Pairs.{pair, pair_ops}
use Rattle.ltl.specs.Trees.{Tree}
use Rattle.ltl.specs.Values.{value}
use Rattle.scales.specs.declared.truth.Truth.{Truth}
use Rattle.scales.specs.declared.truth.Truth.TheVariants.{False, True}
use Rattle.scales.specs.declared.pair.Count.TheVariants.{Number, Impossible}

-- the steps decide the formula at position i so: its three-valued value is v
abbrev pub Decide : List ℕ → Tree → ℕ → Truth → Type 0
Decide steps t i v = value truth_ops steps t i ≡ v

-- the cut after m keeps the first m steps; it is the first cut that decides so
pub record FirstCut (steps : List ℕ) (t : Tree) (i : ℕ) (v : Truth) (m : ℕ) : Type 0 where
  pub inside : m ≤ length steps
  pub decides : Decide (take m steps) t i v
  pub shortest : (k : ℕ) → k < m → ¬ Decide (take k steps) t i v

-- (a, -) is told exactly where the cut after i + a is the first to decide true; (-, a) likewise for false
pub record Counted (steps : List ℕ) (t : Tree) (i : ℕ) : Type 0 where
  pub true_at : (a : ℕ) → (value pair_ops steps t i ≡ pair (Number a) Impossible) ↔ FirstCut steps t i True (i + a)
  pub false_at : (a : ℕ) → (value pair_ops steps t i ≡ pair Impossible (Number a)) ↔ FirstCut steps t i False (i + a)

-- a pair with one side impossible is told exactly where the steps decide
pub record Agrees (steps : List ℕ) (t : Tree) (i : ℕ) : Type 0 where
  pub true_when : Decide steps t i True ↔ ((a : ℕ) × (value pair_ops steps t i ≡ pair (Number a) Impossible))
  pub false_when : Decide steps t i False ↔ ((a : ℕ) × (value pair_ops steps t i ≡ pair Impossible (Number a)))
