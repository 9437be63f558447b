-- How values are written, in the bytes of ASCII.
use Rattle.std.specs.Prelude.{ℕ, List, ◌++◌, codes, decimal}
use Rattle.scales.specs.declared.truth.Truth.{Truth}
use Rattle.scales.specs.declared.truth.Truth.TheVariants.{False, Undecided, True}
use Rattle.scales.specs.declared.pair.Count.{Count}
use Rattle.scales.specs.declared.pair.Count.TheVariants.{Number, Infinite, Impossible}
use Rattle.scales.specs.declared.pair.Pair.{Pair}

abbrev pub shown_truth : Truth → List ℕ
shown_truth False = codes "false"
shown_truth Undecided = codes "undecided"
shown_truth True = codes "true"

-- a number, inf, or - for impossible
abbrev pub shown_count : Count → List ℕ
shown_count (Number a) = decimal a
shown_count Infinite = codes "inf"
shown_count Impossible = codes "-"

-- (s, f)
abbrev pub shown_pair : Pair → List ℕ
shown_pair p = codes "(" ++ (shown_count p.s ++ (codes ", " ++ (shown_count p.f ++ codes ")")))
