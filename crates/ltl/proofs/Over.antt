-- When one step is at least as true as another for a formula.
use Rattle.std.proofs.Common.{◌≡◌, ℕ, true, List, length}
use Rattle.ltl.specs.Steps.{has, step_at}
use Rattle.scales.specs.Scales.{Ops}
use Rattle.ltl.specs.Trees.{Tree, signal, not, or, next, until, eventually}
use Rattle.ltl.specs.Values.{value}

-- step t has what step s has on upright paths, and no more than it on turned ones
abbrev pub Over : Tree → ℕ → ℕ → Type 0
Over (signal k) s t = has s k ≡ true → has t k ≡ true
Over (not a) s t = Over a t s
Over (or a b) s t = Over a s t × Over b s t
Over (next a) s t = Over a s t
Over (until a b) s t = Over a s t × Over b s t
Over (eventually a) s t = Over a s t

-- a truer list of steps has a truer value, at every scale
abbrev pub Monotone : {V : Type 0} → Ops V → (V → V → Type 0) → Type 0
Monotone o p =
    (a : Tree) (ss ts : List ℕ) → length ss ≡ length ts →
    ((i : ℕ) → Over a (step_at ss i) (step_at ts i)) → (i : ℕ) → p (value o ts a i) (value o ss a i)
