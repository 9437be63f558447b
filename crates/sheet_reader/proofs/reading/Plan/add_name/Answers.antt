-- The check does not find that the names asked are those of the plan where no formula follows, and gives up at its limit on `Sound`.
use Rattle.std.proofs.Common.{rules, [], ◌∷◌, ◌++◌, sym, ap, ◌∙◌}
use Rattle.sheet.specs.Cuts.{parts_left, end_of}
use Rattle.sheet_reader.specs.Names.{names_in}
use Rattle.sheet_reader.proofs.Plans.{name_no, name_sound}
use Rattle.sheet_reader.proofs.reading.Plan.add_name.Goals as goal

pub returns-in_err-row : goal.returns-in_err-row
returns-in_err-row c =
    let l = c.args.line in
    let name = rw c.new-declared.ensures at c.in_ok-name.ensures.name in
    let row = rw c.new-declared.ensures at c.in_err-row.ensures in
    let no = name_no l.sheet.now c.args.self.now l.first (parts_left l.words) (end_of l.words) _ _ name c.in_ok-name.ensures.end (sym c.in_ok-operator_first.ensures) row in
    search (rules, no)

pub invariant_of-self-clause-sound : goal.invariant_of-self-clause-sound
invariant_of-self-clause-sound c =
    let p = c.args.self.now in
    let l = c.args.line in
    let name = rw c.new-declared.ensures at c.in_ok-name.ensures.name in
    let row = rw (c.new-declared.ensures, c.copied-draft.ensures.count, c.copied-draft.ensures.rows) at c.in_ok-row.ensures in
    let names = c.push.ensures.items ∙ ap (λ n. names_in p.names ++ n ∷ []) c.new.ensures in
    name_sound l.sheet.now p l.first (parts_left l.words) (end_of l.words) name c.in_ok-name.ensures.end (sym c.in_ok-operator_first.ensures) row c.in_ok-room.ensures names
