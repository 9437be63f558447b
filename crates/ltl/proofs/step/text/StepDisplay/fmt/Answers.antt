-- Not found alone: that the signal just written, with the comma before it, is the next of the step's signals.
use Rattle.std.proofs.Common.{true, sym, refl, rules}
use Rattle.ltl.proofs.Signals.{shown_present}
use Rattle.ltl.proofs.step.text.StepDisplay.fmt.Goals as goal

pub loop-k-preserved : goal.loop-k-preserved
loop-k-preserved g c = (
  search rules,
  λ plain.
      let shown = c.loop-k.invariant.1 plain in
      shown_present _ _ _ _ _ _ shown _ c.loop-k-test.true (sym c.if-not-has.ensures) (c.in_ok-write.ensures.writes shown.wrote.plain (refl {a = true})),
)
