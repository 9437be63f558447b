-- What is promised of a formula's values at a position over the steps, on the two scales and on any.
use Rattle.std.specs.Prelude.{ℕ, List}
use Rattle.ltl.specs.Cuts.{Decide, Counted, Agrees}
use Rattle.ltl.specs.Endless.{OneSided, BothWays}
use Rattle.scales.specs.Pairs.{pair_ops, Shape}
use Rattle.scales.specs.Scales.{Ops}
use Rattle.ltl.specs.Trees.{Tree}
use Rattle.ltl.specs.Truer.{Truer}
use Rattle.ltl.specs.Values.{value}
use Rattle.scales.specs.declared.truth.Truth.TheVariants.{Undecided}

-- an undecided formula goes both ways where no signal is reached upright and turned
abbrev pub OpenTold : ℕ → List ℕ → Tree → ℕ → Type 0
OpenTold width steps t i = OneSided t → Decide steps t i Undecided → BothWays width steps t i

-- a pair: its count tells the first cut that decides, it is told where the steps decide, and it is one of six kinds
pub record PairTold (steps : List ℕ) (t : Tree) (i : ℕ) : Type 0 where
  pub counts : Counted steps t i
  pub agrees : Agrees steps t i
  pub shape : Shape (value pair_ops steps t i)

-- a value on any scale: over equally many steps that are each at least as true, it is at least as true
abbrev pub OrderTold : {V : Type 0} → Ops V → (V → V → Type 0) → List ℕ → Tree → ℕ → Type 0
OrderTold o p steps t i = (ys : List ℕ) → Truer t steps ys → p (value o ys t i) (value o steps t i)
