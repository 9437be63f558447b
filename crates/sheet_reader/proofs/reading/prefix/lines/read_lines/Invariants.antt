use Rattle.std.proofs.Common.{◌≡◌, length}
use Rattle.sheet.specs.Cuts.{parts_left, end_of}
use Rattle.sheet_reader.specs.Sheets.{start, lines, by_lines}
use Rattle.sheet_reader.specs.States.{state_of}
use Rattle.sheet_reader.proofs.reading.prefix.lines.read_lines.Given as goal

abbrev pub invariant-loop-words : goal.invariant-loop-words
invariant-loop-words l = (end_of l.lines ≡ length l.sheet) × (by_lines l.sheet (state_of l.plan) (parts_left l.lines) ≡ by_lines l.sheet start (lines l.sheet))

abbrev pub decreases-loop-words : goal.decreases-loop-words
decreases-loop-words l = length (parts_left l.lines)
