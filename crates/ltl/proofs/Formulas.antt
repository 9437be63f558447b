-- What holds of every formula that exists.
use Rattle.std.proofs.Common.{ℕ}
use Rattle.ltl.specs.Endless.{SignalsBelow}
use Rattle.ltl.specs.Formulas.{rows_of, width_of, tree}
use Rattle.ltl.specs.declared.formula.Formula.{Formula}
use Rattle.ltl.proofs.Narrow.{narrow}

-- a formula reaches only its signals
pub signals_below : (f : Formula) (r : ℕ) → SignalsBelow (width_of f) (tree f r)
signals_below f r = narrow (width_of f) f.well_formed.some_signal (rows_of f) f.well_formed.ordered r
