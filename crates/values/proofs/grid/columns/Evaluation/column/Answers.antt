-- Not found alone: that the cell just written is one row more of the column, and that the others stay.
use Rattle.std.proofs.Common.{length, ap, arith}
use Rattle.values.proofs.Columns.{frame_trans, frame_stored, stands_stored, column_has}
use Rattle.values.proofs.grid.columns.Evaluation.column.Goals as goal

pub loop-r-preserved : goal.loop-r-preserved
loop-r-preserved g c =
    let inv = c.loop-r.invariant in
    let size = ap length c.rows-row-items.ensures.value in
    let h = column_has _ _ _ c.loop-r.r inv.stands (omega arith) (omega arith) (omega (arith, inv.frame.positions_is)) in
    let s = c.put.ensures in
    record {
      stands = stands_stored _ _ _ _ _ s h g.S.Scale.ops _ c.args.self.now.formula.now inv.stands c.cell-v.ensures;
      frame = frame_trans _ _ _ inv.frame (frame_stored _ _ _ _ _ s h);
    }
