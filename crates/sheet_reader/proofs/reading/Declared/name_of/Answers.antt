-- The check does not find what the first element of the names that are left is.
use Rattle.std.proofs.Common.{sym, refl, ap, ◌∙◌, arith, eq-eqb, ne_eqb}
use Rattle.std.proofs.lemmas.List.{drop_more, drop_all}
use Rattle.sheet_reader.specs.Names.{name_of}
use Rattle.sheet_reader.specs.declared.reading.Name.{Name}
use Rattle.sheet_reader.proofs.reading.Declared.name_of.Goals as goal

abbrev blank : Name
blank = record { at = 0; len = 0; row = 0 }

pub loop-name-init : goal.loop-name-init
loop-name-init c = ap (λ l. name_of l c.args.row) (sym c.deref-name-items.ensures.0)

pub returns-then-name-row : goal.returns-then-name-row
returns-then-name-row c =
    let xs = c.deref-name-items.result.now in
    sym (c.loop-name.invariant ∙ ap (λ l. name_of l c.args.row) (drop_more xs c.loop-name.name-index blank c.loop-name-test.true) ∙ rw (eq-eqb _ _ c.if-name-row.true) refl)

pub loop-name-preserved : goal.loop-name-preserved
loop-name-preserved c =
    let xs = c.deref-name-items.result.now in
    c.loop-name.invariant ∙ ap (λ l. name_of l c.args.row) (drop_more xs c.loop-name.name-index blank c.loop-name-test.true) ∙ rw (ne_eqb _ _ c.if-name-row.false) refl

pub returns : goal.returns
returns c =
    let xs = c.deref-name-items.result.now in
    sym (c.loop-name.invariant ∙ ap (λ l. name_of l c.args.row) (drop_all c.loop-name.name-index xs (omega arith)))
