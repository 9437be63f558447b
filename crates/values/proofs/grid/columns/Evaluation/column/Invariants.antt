use Rattle.values.specs.Tables.{Stands, Frame}
use Rattle.values.proofs.grid.columns.Evaluation.column.Given as goal

abbrev pub invariant-loop-r : goal.invariant-loop-r
invariant-loop-r g l = record {
  stands : Stands g.S.Scale.ops (g.R.Recording.steps l.self.recording.now) l.self.formula.now l.grid l.i l.r;
  frame : Frame l.initial.grid l.grid;
}
