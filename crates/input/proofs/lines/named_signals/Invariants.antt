use Rattle.std.proofs.Common.{◌≡◌}
use Rattle.ltl.specs.Steps.{set_of}
use Rattle.sheet.specs.Parts.{parts}
use Rattle.sheet.specs.Cuts.{parts_left}
use Rattle.input.specs.Lines.{with_named}
use Rattle.input.proofs.lines.named_signals.Given as goal

abbrev pub invariant-loop-word : goal.invariant-loop-word
invariant-loop-word g l =
    (goal.iterator-loop-word g).can_next l.word-iterator ×
    (goal.iterator-loop-word g).is_finite l.word-iterator ×
    (with_named (g.N.SignalNames.named l.names) (set_of l.step) (parts_left l.word-iterator) ≡ with_named (g.N.SignalNames.named l.names) 0 (parts 32 0 l.line))
