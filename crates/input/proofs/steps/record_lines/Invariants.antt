use Rattle.sheet.specs.Parts.{parts}
use Rattle.sheet.specs.Cuts.{parts_left}
use Rattle.input.proofs.Taken.{SoFar}
use Rattle.input.proofs.steps.record_lines.Given as goal

abbrev pub invariant-loop-line : goal.invariant-loop-line
invariant-loop-line g l =
    (goal.iterator-loop-line g).can_next l.line-iterator ×
    (goal.iterator-loop-line g).is_finite l.line-iterator ×
    SoFar (g.N.SignalNames.named l.names) (parts 10 0 l.lines) (parts_left l.line-iterator) (g.R.Recording.steps l.fn.recorder) (g.R.Recording.steps l.recorder)
