-- What a grid holds of a formula's values.
use Rattle.std.specs.Prelude.{◌≡◌, ℕ, ◌*◌, List, length, drop, slice_index_or, slice_set}
use Rattle.scales.specs.Scales.{Ops}
use Rattle.ltl.specs.Formulas.{row_count, tree}
use Rattle.ltl.specs.Values.{value}
use Rattle.ltl.specs.declared.formula.Formula.{Formula}
use Rattle.values.specs.declared.grid.Grid.{Grid}
use Rattle.values.specs.Grids.{place, Inside, Known, Ready}

-- the value of row r of a formula at position i
abbrev pub meaning : {V : Type 0} → Ops V → List ℕ → Formula → ℕ → ℕ → V
meaning o steps f r i = value o steps (tree f r) i

-- row r at position i is a cell of the grid
abbrev pub HasCell : {V : Type 0} → Grid V → ℕ → ℕ → Type 0
HasCell grid r i = Inside (length grid.cells.now) grid.rows grid.positions r i

-- what stands in that cell, or d where the memory ends before it
abbrev pub cell_of : {V : Type 0} → Grid V → ℕ → ℕ → V → V
cell_of grid r i d = slice_index_or grid.cells.now (place grid.positions r i) d

-- a grid over the same memory, in which what lies past its cells is as it was
pub record Frame {V : Type 0} (before after : Grid V) : Type 0 where
  pub rows_is : after.rows ≡ before.rows
  pub positions_is : after.positions ≡ before.positions
  pub memory : after.cells.ghost_name ≡ before.cells.ghost_name
  pub size : length after.cells.now ≡ length before.cells.now
  pub past : drop (before.rows * before.positions) after.cells.now ≡ drop (before.rows * before.positions) before.cells.now

-- a grid in which only the cell of row r at position i is another, v
pub record Stored {V : Type 0} (before after : Grid V) (r i : ℕ) (v : V) : Type 0 where
  pub cells_is : after.cells.now ≡ slice_set before.cells.now (place before.positions r i) v
  pub rows_is : after.rows ≡ before.rows
  pub positions_is : after.positions ≡ before.positions
  pub memory : after.cells.ghost_name ≡ before.cells.ghost_name

-- the columns after i hold the formula's values, and column i holds them below row r
abbrev pub Held : {V : Type 0} → Ops V → List ℕ → Formula → Grid V → ℕ → ℕ → Type 0
Held o steps f grid i r = Known o.no (meaning o steps f) grid.rows grid.positions grid.cells.now i r

-- a grid for the formula's rows and for the steps, in which those cells stand
pub record Stands {V : Type 0} (o : Ops V) (steps : List ℕ) (f : Formula) (grid : Grid V) (i r : ℕ) : Type 0 where
  pub ready : Ready (row_count f) (length steps) (length grid.cells.now) grid.rows grid.positions
  pub held : Held o steps f grid i r
