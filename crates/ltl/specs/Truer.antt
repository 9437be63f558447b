-- When one step is at least as true for a formula as another.
use Rattle.std.specs.Prelude.{◌≡◌, ℕ, ◌≤◌, true, List, length}
use Rattle.ltl.specs.Steps.{has, step_at}
use Rattle.ltl.specs.Trees.{Tree}
use Rattle.ltl.specs.Paths.{Reaches, upright, turned}

-- step y is at least as true for the formula as step x:
-- it has all signals of x with an upright path, and no signal outside x with a turned one
pub record AtLeast (t : Tree) (x y : ℕ) : Type 0 where
  pub keeps : (k : ℕ) → Reaches t upright k → has x k ≡ true → has y k ≡ true
  pub adds_none : (k : ℕ) → Reaches t turned k → has y k ≡ true → has x k ≡ true

-- equally many steps, each at least as true for the formula
pub record Truer (t : Tree) (xs ys : List ℕ) : Type 0 where
  pub size : length xs ≡ length ys
  pub each : (i : ℕ) → 1 ≤ i → i ≤ length xs → AtLeast t (step_at xs i) (step_at ys i)
