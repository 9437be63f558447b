-- What a formula of the program means.
use Rattle.std.specs.Prelude.{ℕ, List}
use Rattle.arrayvec.specs.ArrayVec.{array_vec_len}
use Rattle.ltl.specs.declared.formula.Formula.{Formula}
use Rattle.ltl.specs.declared.row.Row.{Row}
use Rattle.ltl.specs.Tables.{Table}
use Rattle.ltl.specs.Trees.{Tree, trees, tree_at}

-- its rows by number
abbrev pub rows_of : Formula → List Row
rows_of f = f.rows.items

-- how many rows it has, R
abbrev pub row_count : Formula → ℕ
row_count f = array_vec_len f.rows

-- how many signals it has, W
abbrev pub width_of : Formula → ℕ
width_of f = f.width

-- all that it is made from
abbrev pub table : Formula → Table
table f = record { width = f.width; rows = rows_of f; watch = f.watch }

-- the tree of row r
abbrev pub tree : Formula → ℕ → Tree
tree f r = tree_at (trees (rows_of f)) r
