-- The names of the bench's signals.
use Rattle.std.specs.Prelude.{ℕ, cond, List, Some, None, codes, Option}
use Rattle.std.specs.Str.{bytes_eq}

-- the names of the signals
abbrev pub signal_named : List ℕ → Option ℕ
signal_named t = cond (bytes_eq t (codes "r")) (Some 0) (cond (bytes_eq t (codes "g")) (Some 1) None)
