-- When a row may stand in a formula: its operands are earlier rows, its signal lies below the width.
use Rattle.std.specs.Prelude.{ℕ, ◌<◌}
use Rattle.std.proofs.Props.{props}
use Rattle.ltl.specs.declared.row.Row.{Row}
use Rattle.ltl.specs.declared.row.Row.TheVariants.{Signal, Not, Or, Next, Until, Eventually}

-- row r may be this one, in a formula with so many signals
abbrev pub Fits : ℕ → ℕ → Row → Type 0
Fits width r (Signal k) = k < width
Fits width r (Not a) = a < r
Fits width r (Or a b) = (a < r) × (b < r)
Fits width r (Next a) = a < r
Fits width r (Until a b) = (a < r) × (b < r)
Fits width r (Eventually a) = a < r

-- at most one proof says so
pub fits_prop : (width r : ℕ) (x : Row) → IsProp (Fits width r x)
fits_prop width r (Signal k) = Prim.hlevel props
fits_prop width r (Not a) = Prim.hlevel props
fits_prop width r (Or a b) = Prim.hlevel props
fits_prop width r (Next a) = Prim.hlevel props
fits_prop width r (Until a b) = Prim.hlevel props
fits_prop width r (Eventually a) = Prim.hlevel props
