-- The check gives up at its limit on `Sound`: that the names asked are those of the plan is said here.
use Rattle.std.proofs.Common.{[], ◌∷◌, ◌++◌, sym, refl, ap, ◌∙◌, arith}
use Rattle.sheet.specs.Cuts.{parts_left, end_of}
use Rattle.sheet_reader.specs.Names.{names_in}
use Rattle.sheet_reader.proofs.Plans.{signal_sound}
use Rattle.sheet_reader.proofs.reading.Plan.add_signal.Goals as goal

pub invariant_of-self-clause-sound : goal.invariant_of-self-clause-sound
invariant_of-self-clause-sound c =
    let p = c.args.self.now in
    let l = c.args.line in
    let name = rw c.new-declared.ensures at c.in_ok-name.ensures.name in
    let names = c.push.ensures.items ∙ ap (λ n. names_in p.names ++ n ∷ []) c.new.ensures in
    signal_sound l.sheet.now p l.first (parts_left l.words) (end_of l.words) name (sym c.in_ok-nothing_more.ensures) (omega arith) (omega arith) (c.push-2.ensures.rows _ (λ h. refl)) names
