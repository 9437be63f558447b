-- The check does not find the step of the loop: the first of the rows that agree is taken from a list that is not known.
use Rattle.std.proofs.Common.{◌++◌, take, arith}
use Rattle.sheet_reader.specs.Drafts.{kept}
use Rattle.sheet_reader.proofs.Drafts.{left_more, left_none, kept_few}
use Rattle.sheet_reader.proofs.reading.Draft.push_rows.Goals as goal

pub loop-row-preserved : goal.loop-row-preserved
loop-row-preserved c =
    let inv = c.loop-row.invariant in
    let d = c.loop-row.self in
    let k = kept c.args.self.now in (
      omega arith,
      λ xs a. left_more (kept d) _ d.count _ c.args.rows.now xs c.loop-row.row-index (take 64 (k ++ xs)) c.loop-row-test.true c.push.ensures.count c.push.ensures.rows (inv.1 xs a),
    )

pub returns-clause-rows : goal.returns-clause-rows
returns-clause-rows c =
    let d = c.loop-row.self in
    λ xs a. left_none (kept d) d.count c.args.rows.now xs c.loop-row.row-index (take 64 (kept c.args.self.now ++ xs)) (kept_few d) c.loop-row-test.false (c.loop-row.invariant.1 xs a)
