-- Steps and lists of steps. A step is a set of signals, as a number: signal k is in it where the bit worth 2^k is 1.
use Rattle.std.specs.Prelude.{◌≡◌, ℕ, zero, suc, ◌/◌, ◌%◌, ◌^◌, ◌<◌, Bool, true, List, ◌==◌, slice_index}
use Rattle.ltl.specs.declared.step.Step.{Step}

-- signal k is in the step
abbrev pub has : ℕ → ℕ → Bool
has step k = step / 2 ^ k % 2 == 1

-- every signal of the step is below the width
abbrev pub Below : ℕ → ℕ → Type 0
Below width step = (k : ℕ) → has step k ≡ true → k < width

-- the step at a position, counted from 1; outside the list it is the empty set
abbrev pub step_at : List ℕ → ℕ → ℕ
step_at steps zero = 0
step_at steps (suc k) = slice_index steps k

-- the set that a step of the program is
abbrev pub set_of : Step → ℕ
set_of x = x.bits

-- and the step that a set is
abbrev pub step_from : ℕ → Step
step_from s = record { bits = s }
