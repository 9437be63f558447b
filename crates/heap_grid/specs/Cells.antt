-- What stands in cells that a program makes.
use Rattle.std.specs.Prelude.{◌≡◌, ℕ, ◌+◌, ◌*◌, List, length}
use Rattle.scales.specs.Scales.{Ops}
use Rattle.ltl.specs.Formulas.{row_count}
use Rattle.ltl.specs.declared.formula.Formula.{Formula}
use Rattle.values.specs.Answers.{Filled}

-- the cells of every row at every position from 1 to n + 1, as evaluation fills them, and no others
abbrev pub AreCells : {V : Type 0} → Ops V → (V → V → Type 0) → ℕ → List ℕ → Formula → List V → Type 0
AreCells {V} o p width steps f cells =
    ((before : List V) × Filled o p width steps f before cells) × (length cells ≡ row_count f * (length steps + 1))
