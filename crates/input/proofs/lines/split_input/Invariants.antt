use Rattle.std.proofs.Common.{◌≡◌, length}
use Rattle.sheet.specs.Cuts.{parts_left}
use Rattle.sheet.proofs.Texts.{Each, Inside}
use Rattle.input.specs.Splits.{split_at, split_of}
use Rattle.input.proofs.lines.split_input.Given as goal

abbrev pub invariant-loop-line : goal.invariant-loop-line
invariant-loop-line l =
    (goal.iterator-loop-line).can_next l.line-iterator ×
    (goal.iterator-loop-line).is_finite l.line-iterator ×
    Each (Inside 0 l.input) (parts_left l.line-iterator) ×
    (split_at (length l.input) (parts_left l.line-iterator) ≡ split_of l.input)
