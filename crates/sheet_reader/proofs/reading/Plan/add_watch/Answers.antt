-- The check does not find that the names asked are those of the plan, so that the line is the watch line on its state.
use Rattle.std.proofs.Common.{rules}
use Rattle.sheet.specs.Cuts.{parts_left, end_of}
use Rattle.sheet_reader.proofs.Plans.{watch_full, watch_makes}
use Rattle.sheet_reader.proofs.reading.Plan.add_watch.Goals as goal

pub returns-in_err-room : goal.returns-in_err-room
returns-in_err-room c =
    let l = c.args.line in
    let row = rw (c.new-declared.ensures, c.copied-draft.ensures.count, c.copied-draft.ensures.rows) at c.in_ok-row.ensures in
    let full = watch_full l.sheet.now c.args.self.now l.first (parts_left l.words) (end_of l.words) row c.in_err-room.ensures.0 in
    search (rules, full)

pub returns : goal.returns
returns c =
    let l = c.args.line in
    let row = rw (c.new-declared.ensures, c.copied-draft.ensures.count, c.copied-draft.ensures.rows) at c.in_ok-row.ensures in
    watch_makes l.sheet.now c.args.self.now l.first (parts_left l.words) (end_of l.words) row c.in_ok-room.ensures
