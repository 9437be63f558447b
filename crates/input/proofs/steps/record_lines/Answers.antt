-- One line more is taken: the check does not find which lines were.
use Rattle.sheet.specs.Parts.{parts}
use Rattle.sheet.specs.Cuts.{part_of, parts_left}
use Rattle.input.proofs.Taken.{one_taken}
use Rattle.input.proofs.steps.record_lines.Goals as goal

pub loop-line-preserved : goal.loop-line-preserved
loop-line-preserved g c =
    let e = c.in_ok-record_line.ensures in
    (tt, tt, one_taken (g.N.SignalNames.named c.args.names.now) (parts 10 0 c.args.lines.now) (parts_left c.loop-line.line-iterator) _ _ _ (part_of c.in-Some.line) _ c.loop-line.invariant.2 c.in-Some.ensures.steps e.0 e.1)
