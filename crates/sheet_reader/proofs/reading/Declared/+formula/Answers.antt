-- The check does not find the formula that was read: it is built from those of the operands, each with where its words end.
use Rattle.std.proofs.Common.{Some, sym, ap, ◌∙◌}
use Rattle.sheet.specs.Cuts.{end_of}
use Rattle.sheet.specs.Tokens.{operator}
use Rattle.sheet_reader.specs.Drafts.{kept}
use Rattle.sheet_reader.specs.Names.{names_in}
use Rattle.sheet_reader.proofs.Drafts.{kept_few}
use Rattle.sheet_reader.proofs.Prefix.{word_one, word_two, word_name, got_one, got_two, got_earlier, got_end}
use Rattle.sheet_reader.proofs.reading.Declared.+formula.Goals as goal

pub returns-in_ok-a-in-Operator-One-clause-formula : goal.returns-in_ok-a-in-Operator-One-clause-formula
returns-in_ok-a-in-Operator-One-clause-formula t c =
    let d = c.args.self.now in
    let w = c.in_ok-word.ensures in
    let e = word_one d.sheet.now (names_in d.names.now) w.word (ap operator (sym c.in-Operator-One.field-0-is) ∙ c.in-Operator-One.ensures) in
    let g = c.in_ok-a-in-Operator-One.ensures.formula in
    let k = rw c.in-Operator-One.operator-is at c.close_one.ensures in
    got_one e (got_end w.end g) k.count k.rows k.last

pub returns-in_ok-b-in-Operator-Two-clause-formula : goal.returns-in_ok-b-in-Operator-Two-clause-formula
returns-in_ok-b-in-Operator-Two-clause-formula t c =
    let d = c.args.self.now in
    let w = c.in_ok-word.ensures in
    let e = word_two d.sheet.now (names_in d.names.now) w.word (ap operator (sym c.in-Operator-Two.field-0-is) ∙ c.in-Operator-Two.ensures) in
    let g = c.in_ok-a-in-Operator-Two.ensures in
    let h = c.in_ok-b-in-Operator-Two.ensures in
    let k = rw c.in-Operator-Two.operator-is at c.close_two.ensures in
    got_two e (got_end w.end g.formula) (got_end (g.end ∙ w.end) h.formula) k.count k.rows k.last

pub returns-in_ok-row_of-in-Name-clause-formula : goal.returns-in_ok-row_of-in-Name-clause-formula
returns-in_ok-row_of-in-Name-clause-formula t c =
    let self = c.args.self.now in
    let d = c.args.draft.now in
    let w = c.in_ok-word.ensures in
    let f = c.in_ok-row_of-in-Name.ensures in
    let e = word_name self.sheet.now (names_in self.names.now) w.word (Some c.in_ok-row_of-in-Name.field-0) c.in-Name.ensures f in
    got_earlier (end_of c.args.words.now) d.count (kept d) e (kept_few d)
