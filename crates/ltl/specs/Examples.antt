-- Worked examples of the definitions.
use Rattle.std.specs.Prelude.{◌≡◌, [], ◌∷◌}
use Rattle.scales.specs.Scales.{meet}
use Rattle.scales.specs.Pairs.{pair, pair_ops}
use Rattle.ltl.specs.Trees.{signal, not, or, until, eventually}
use Rattle.ltl.specs.Values.{value}
use Rattle.scales.specs.declared.pair.Count.TheVariants.{Number, Infinite, Impossible}

pub record WorkedExamples : Type 0 where
  -- (inf, 1) join (7, -) is (7, -), and their meet is (inf, 1)
  pub joined : pair_ops.join (pair Infinite (Number 1)) (pair (Number 7) Impossible) ≡ pair (Number 7) Impossible
  pub met : meet pair_ops (pair Infinite (Number 1)) (pair (Number 7) Impossible) ≡ pair Infinite (Number 1)
  -- later of (inf, 1) is (inf, 2)
  pub later : pair_ops.later (pair Infinite (Number 1)) ≡ pair Infinite (Number 2)
  -- eventually a, three steps without a
  pub never_yet : value pair_ops (0 ∷ 0 ∷ 0 ∷ []) (eventually (signal 0)) 1 ≡ pair (Number 3) Infinite
  -- always a, three steps with a
  pub always_so_far : value pair_ops (1 ∷ 1 ∷ 1 ∷ []) (not (eventually (not (signal 0)))) 1 ≡ pair Infinite (Number 3)
  -- or a not a, no steps
  pub no_steps : value pair_ops [] (or (signal 0) (not (signal 0))) 1 ≡ pair (Number 0) (Number 0)
  -- until a b, one step {a}
  pub one_step : value pair_ops (1 ∷ []) (until (signal 0) (signal 1)) 1 ≡ pair (Number 1) (Number 1)
