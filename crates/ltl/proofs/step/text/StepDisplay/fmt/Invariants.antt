use denote.Text.{Utf8}
use denote.Shadow.{shadow}
use Rattle.std.specs.Fmt.{IsPlainFormatter}
use Rattle.ltl.proofs.Signals.{ShownBelow}
use Rattle.ltl.proofs.step.text.StepDisplay.fmt.Given as goal

abbrev pub invariant-loop-k : goal.invariant-loop-k
invariant-loop-k g l =
    shadow (Utf8 l.before) × (IsPlainFormatter l.fn.f → ShownBelow g.W.Write.write_str_gives l.fn.f l.f l.before l.k-counter l.self.bits)
