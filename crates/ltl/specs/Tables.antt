-- What a formula is made from, and when it makes one.
use Rattle.std.specs.Prelude.{ℕ, ◌<◌, ◌≤◌, List, length, slice_index_or}
use Rattle.ltl.specs.declared.row.Row.{Row}
use Rattle.ltl.specs.declared.row.Row.TheVariants.{Signal}
use Rattle.ltl.specs.Rows.{Fits}

-- so many signals, the rows by number, and the number of the watch row
pub record Table : Type 0 where
  pub width : ℕ
  pub rows : List Row
  pub watch : ℕ

-- each row's operands are before it, and its signal is below the width
abbrev pub AllFit : ℕ → List Row → Type 0
AllFit width rows = (r : ℕ) → r < length rows → Fits width r (slice_index_or rows r (Signal 0))

-- 1 to 32 signals, 1 to 64 rows, each row's operands before it and its signal below the width, and a watch row among them
pub record WellFormed (t : Table) : Type 0 where
  pub some_signal : 1 ≤ t.width
  pub few_signals : t.width ≤ 32
  pub some_row : 1 ≤ length t.rows
  pub few_rows : length t.rows ≤ 64
  pub ordered : AllFit t.width t.rows
  pub watched : t.watch < length t.rows

abbrev pub table_from : ℕ → List Row → ℕ → Table
table_from width rows watch = record { width = width; rows = rows; watch = watch }
