-- The value of a formula at a position, once for every scale.
use Rattle.std.specs.Prelude.{ℕ, zero, suc, ◌+◌, ◌-◌, cond, List, length, nat_le}
use Rattle.ltl.specs.Steps.{has, step_at}
use Rattle.scales.specs.Scales.{Ops, meet}
use Rattle.ltl.specs.Trees.{Tree, signal, not, or, next, until, eventually}

-- what comes at i where d positions lie before the one after the end:
-- f at i of later of what comes at i + 1, and of the open value after the end
unfoldable pub ahead : {V : Type 0} → Ops V → (ℕ → V → V) → ℕ → ℕ → V
ahead o f zero i = f i o.«open»
ahead o f (suc d) i = f i (o.later (ahead o f d (suc i)))

-- the value of signal k: yes or no up to the last step, and past after it
abbrev pub signal_value : {V : Type 0} → Ops V → List ℕ → ℕ → ℕ → V
signal_value o steps k i = cond (nat_le i (length steps)) (cond (has (step_at steps i) k) o.yes o.no) o.past

-- the value at position i, from 1, over the steps
unfoldable pub value : {V : Type 0} → Ops V → List ℕ → Tree → ℕ → V
value o steps (signal k) i = signal_value o steps k i
value o steps (not a) i = o.turn (value o steps a i)
value o steps (or a b) i = o.join (value o steps a i) (value o steps b i)
value o steps (next a) i = o.later (value o steps a (suc i))
value o steps (until a b) i =
    ahead o (λ j x. o.join (value o steps b j) (meet o (value o steps a j) x)) (length steps + 1 - i) i
value o steps (eventually a) i = ahead o (λ j x. o.join (value o steps a j) x) (length steps + 1 - i) i
