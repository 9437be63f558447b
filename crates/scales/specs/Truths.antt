-- The three-valued scale: false < undecided < true.
use Rattle.std.specs.Prelude.{ℕ, ◌≤◌}
use Rattle.scales.specs.Scales.{Ops}
use Rattle.scales.specs.declared.truth.Truth.{Truth}
use Rattle.scales.specs.declared.truth.Truth.TheVariants.{False, Undecided, True}

-- the place of a value in the order
abbrev pub rank : Truth → ℕ
rank False = 0
rank Undecided = 1
rank True = 2

-- x is at least as true as y
abbrev pub truer : Truth → Truth → Type 0
truer x y = rank y ≤ rank x

abbrev pub mirror : Truth → Truth
mirror False = True
mirror Undecided = Undecided
mirror True = False

-- the larger of two
abbrev pub upper : Truth → Truth → Truth
upper False y = y
upper Undecided False = Undecided
upper Undecided Undecided = Undecided
upper Undecided True = True
upper True y = True

abbrev pub truth_ops : Ops Truth
truth_ops = record { yes = True; no = False; past = Undecided; «open» = False; turn = mirror; join = upper; later = λ x. x }
