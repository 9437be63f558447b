-- The signals of a sheet by their names.
use Rattle.std.specs.Prelude.{ℕ, cond, List, length, Some, None, Option, nat_lt, slice_index_or}
use Rattle.ltl.specs.declared.row.Row.{Row}
use Rattle.ltl.specs.declared.row.Row.TheVariants.{Signal, Not, Or, Next, Until, Eventually}
use Rattle.sheet_reader.specs.Names.{row_named}
use Rattle.sheet_reader.specs.Sheets.{Reading}

abbrev pub signal_in : Row → Option ℕ
signal_in (Signal k) = Some k
signal_in (Not a) = None
signal_in (Or a b) = None
signal_in (Next a) = None
signal_in (Until a b) = None
signal_in (Eventually a) = None

abbrev pub signal_at : List Row → Option ℕ → Option ℕ
signal_at rows None = None
signal_at rows (Some r) = cond (nat_lt r (length rows)) (signal_in (slice_index_or rows r (Signal 0))) None

-- the signal of the row that a word names, if that row is a signal
abbrev pub signal_named : Reading → List ℕ → List ℕ → Option ℕ
signal_named r sheet t = signal_at r.table.rows (row_named sheet r.names t)
