-- Paths from a formula through operands to the signals that it reaches.
use Rattle.std.specs.Prelude.{◌≡◌, ℕ, Bool, false, ◌||◌, ◌⊎◌, ◌==◌}
use Rattle.ltl.specs.Trees.{Tree, signal, not, or, next, until, eventually}

-- a path is upright with an even number of negations on it, and turned with an odd one
pub data Side : Type 0 where
  upright turned : Side

abbrev pub other : Side → Side
other upright = turned
other turned = upright

-- a path on this side leads from the formula to signal k
abbrev pub Reaches : Tree → Side → ℕ → Type 0
Reaches (signal j) upright k = j ≡ k
Reaches (signal j) turned k = ⊥
Reaches (not a) p k = Reaches a (other p) k
Reaches (or a b) p k = Reaches a p k ⊎ Reaches b p k
Reaches (next a) p k = Reaches a p k
Reaches (until a b) p k = Reaches a p k ⊎ Reaches b p k
Reaches (eventually a) p k = Reaches a p k

-- the same as a test
abbrev pub reaches : Tree → Side → ℕ → Bool
reaches (signal j) upright k = j == k
reaches (signal j) turned k = false
reaches (not a) p k = reaches a (other p) k
reaches (or a b) p k = reaches a p k || reaches b p k
reaches (next a) p k = reaches a p k
reaches (until a b) p k = reaches a p k || reaches b p k
reaches (eventually a) p k = reaches a p k
