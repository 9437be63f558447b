use Rattle.values.specs.Tables.{Stands, Frame}
use Rattle.values.proofs.grid.columns.Evaluation.fill.Given as goal

abbrev pub invariant-loop-i : goal.invariant-loop-i
invariant-loop-i g l = record {
  stands : Stands g.S.Scale.ops (g.R.Recording.steps l.self.recording.now) l.self.formula.now l.grid l.i 0;
  frame : Frame l.initial.grid l.grid;
}
