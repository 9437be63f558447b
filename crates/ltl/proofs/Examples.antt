-- The worked examples, by computation.
use Rattle.std.proofs.Common.{refl}
use Rattle.ltl.specs.Values.{value, ahead}
use Rattle.ltl.specs.Examples.{WorkedExamples}

pub worked : WorkedExamples
unfolding value ahead
worked = record { joined = refl; met = refl; later = refl; never_yet = refl; always_so_far = refl; no_steps = refl; one_step = refl }
