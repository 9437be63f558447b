-- What evaluation answers, and what it leaves.
use Rattle.std.specs.Prelude.{◌≡◌, ℕ, ◌+◌, ◌*◌, ◌<◌, ◌≤◌, cond, List, length, drop, Ok, Err, Result, nat_le, slice_index_or}
use Rattle.scales.specs.Scales.{Ops}
use Rattle.ltl.specs.Examples.{WorkedExamples}
use Rattle.ltl.specs.Formulas.{row_count, width_of, tree}
use Rattle.ltl.specs.Endless.{Sound}
use Rattle.ltl.specs.Promises.{OpenTold, PairTold, OrderTold}
use Rattle.ltl.specs.declared.formula.Formula.{Formula}
use Rattle.values.specs.Grids.{place}
use Rattle.values.specs.Tables.{meaning}
use Rattle.values.specs.declared.fault.GridTooSmall.{GridTooSmall}

-- question 17: are there cells for every row at every position from 1 to n + 1?
abbrev pub evaluated : ℕ → ℕ → ℕ → Result (Unit {0}) GridTooSmall
evaluated rows n cells = cond (nat_le (rows * (n + 1)) cells) (Ok tt) (Err (record {}))

-- what evaluation leaves: each cell holds its row's value at its position, the last column tells the value at every
-- later position, what lies past the cells is as it was, and the promises hold of these steps and rows
pub record Filled {V : Type 0} (o : Ops V) (p : V → V → Type 0) (width : ℕ) (steps : List ℕ) (f : Formula) (before after : List V) : Type 0 where
  pub cells : (r i : ℕ) → r < row_count f → 1 ≤ i → i ≤ length steps + 1 → slice_index_or after (place (length steps + 1) r i) o.no ≡ meaning o steps f r i
  pub later : (r i : ℕ) → r < row_count f → length steps < i → slice_index_or after (place (length steps + 1) r (length steps + 1)) o.no ≡ meaning o steps f r i
  pub size : length after ≡ length before
  pub past : drop (row_count f * (length steps + 1)) after ≡ drop (row_count f * (length steps + 1)) before
  pub order : (r i : ℕ) → OrderTold o p steps (tree f r) i
  pub decided : (r i : ℕ) → 1 ≤ i → Sound steps (tree f r) i
  pub undecided : width_of f ≡ width → (r i : ℕ) → 1 ≤ i → OpenTold width steps (tree f r) i
  pub counts : (r i : ℕ) → PairTold steps (tree f r) i
  pub examples : WorkedExamples

-- and nothing is changed by a refusal
abbrev pub Left : {V : Type 0} → Ops V → (V → V → Type 0) → ℕ → List ℕ → Formula → List V → List V → Result (Unit {0}) GridTooSmall → Type 0
Left o p width steps f before after (Ok v) = Filled o p width steps f before after
Left o p width steps f before after (Err e) = after ≡ before
