-- Textbook LTL on endless lists of steps, and the continuations of a list.
use Rattle.std.specs.Prelude.{◌≡◌, ℕ, zero, suc, ◌+◌, ◌*◌, ◌^◌, ◌<◌, ◌≤◌, Bool, true, cond, ◌⊎◌, List, length, nat_le}
use Rattle.ltl.specs.Steps.{has, step_at}
use Rattle.ltl.specs.Trees.{Tree, signal, not, or, next, until, eventually}
use Rattle.ltl.specs.Paths.{Reaches, reaches, upright, turned}
use Rattle.ltl.specs.Cuts.{Decide}
use Rattle.scales.specs.declared.truth.Truth.TheVariants.{False, True}

-- the formula holds at position i of the endless list w
abbrev pub Holds : (ℕ → ℕ) → Tree → ℕ → Type 0
Holds w (signal k) i = has (w i) k ≡ true
Holds w (not a) i = Holds w a i → ⊥
Holds w (or a b) i = Holds w a i ⊎ Holds w b i
Holds w (next a) i = Holds w a (suc i)
Holds w (until a b) i = (k : ℕ) × (i ≤ k) × Holds w b k × ((j : ℕ) → i ≤ j → j < k → Holds w a j)
Holds w (eventually a) i = (k : ℕ) × (i ≤ k) × Holds w a k

-- an endless list that begins with the steps
abbrev pub Continues : List ℕ → (ℕ → ℕ) → Type 0
Continues steps w = (i : ℕ) → 1 ≤ i → i ≤ length steps → w i ≡ step_at steps i

-- an endless list of sets of signals below the width that begins with the steps
pub record Continuation (width : ℕ) (steps : List ℕ) (w : ℕ → ℕ) : Type 0 where
  pub begins : Continues steps w
  pub within : (i : ℕ) → w i < 2 ^ width

-- a formula decided true holds on every continuation, one decided false on none
pub record Sound (steps : List ℕ) (t : Tree) (i : ℕ) : Type 0 where
  pub holds : Decide steps t i True → (w : ℕ → ℕ) → Continues steps w → Holds w t i
  pub fails : Decide steps t i False → (w : ℕ → ℕ) → Continues steps w → ¬ Holds w t i

-- the steps, and then one step for ever
abbrev pub onward : List ℕ → ℕ → ℕ → ℕ
onward steps u i = cond (nat_le i (length steps)) (step_at steps i) u

-- the step that has, of the signals below a width, those that pass the test
unfoldable pub step_of : ℕ → (ℕ → Bool) → ℕ
step_of zero test = 0
step_of (suc n) test = cond (test 0) 1 0 + 2 * step_of n (λ k. test (suc k))

-- the steps, and then for ever every signal reached upright and no other
abbrev pub best : ℕ → List ℕ → Tree → ℕ → ℕ
best width steps t = onward steps (step_of width (reaches t upright))

-- the steps, and then for ever every signal reached turned and no other
abbrev pub worst : ℕ → List ℕ → Tree → ℕ → ℕ
worst width steps t = onward steps (step_of width (reaches t turned))

-- the formula holds on one continuation and fails on another
pub record BothWays (width : ℕ) (steps : List ℕ) (t : Tree) (i : ℕ) : Type 0 where
  pub one : Continuation width steps (best width steps t)
  pub holds : Holds (best width steps t) t i
  pub another : Continuation width steps (worst width steps t)
  pub fails : ¬ Holds (worst width steps t) t i

-- every signal that the formula reaches lies below the width
abbrev pub SignalsBelow : ℕ → Tree → Type 0
SignalsBelow width t = (k : ℕ) → (Reaches t upright k → k < width) × (Reaches t turned k → k < width)

-- each step is a set of signals below the width
abbrev pub StepsBelow : ℕ → List ℕ → Type 0
StepsBelow width steps = (i : ℕ) → step_at steps i < 2 ^ width

-- no signal is reached both upright and turned
abbrev pub OneSided : Tree → Type 0
OneSided t = (k : ℕ) → Reaches t upright k → ¬ Reaches t turned k
