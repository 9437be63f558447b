-- Not found alone: that the item of `enumerate` at place r is r and row r, so that all of them fit, or one does not.
use Rattle.std.proofs.Common.{◌≡◌, ℕ, ◌<◌, Bool, true, false, List, length, get_or, MatchBool, ◌∙◌, zero-add, arith, rules}
use Rattle.std.specs.List.{AllWithin, HoldsAt, enumerate_from}
use Rattle.std.proofs.lemmas.Iterator.{cases_from_all, YieldsList-from_slice}
use Rattle.std.proofs.lemmas.Iterator.Consumers.{YieldsList-from_enumerate}
use Rattle.std.proofs.lemmas.List.FromFn.{get_or-enumerate_from, length-enumerate_from}
use Rattle.ltl.specs.Rows.{Fits}
use Rattle.ltl.specs.Tables.{AllFit}
use Rattle.ltl.specs.declared.row.Row.{Row}
use Rattle.ltl.specs.declared.row.Row.TheVariants.{Signal}
use Rattle.ltl.proofs.formula.table.all_fit.Goals as goal

abbrev Yes : ℕ → ℕ × Row → Type 0
Yes width p = Fits width p.0 p.1

abbrev No : ℕ → ℕ × Row → Type 0
No width p = ¬ Fits width p.0 p.1

at_number : (rows : List Row) (r : ℕ) → r < length rows → get_or (enumerate_from 0 rows) r (0, Signal 0) ≡ (r, get_or rows r (Signal 0))
at_number rows r h = get_or-enumerate_from 0 rows r (0, Signal 0) h ∙ rw (zero-add r)

by_number : (answer : Bool) (width : ℕ) (rows : List Row) → MatchBool answer (AllWithin (Yes width) (enumerate_from 0 rows) 0 (length (enumerate_from 0 rows))) ((k : ℕ) × (k < length (enumerate_from 0 rows)) × HoldsAt (No width) (enumerate_from 0 rows) k) → MatchBool answer (AllFit width rows) (¬ AllFit width rows)
by_number true width rows h = λ r l. rw (at_number rows r l) at (h r (0, Signal 0) (omega arith) (omega (arith, length-enumerate_from 0 rows)))
by_number false width rows h = λ all.
    let l : h.0 < length rows = omega (arith, h.1, length-enumerate_from 0 rows) in
    (rw (at_number rows h.0 l) at (h.2 (0, Signal 0))) (all h.0 l)

pub returns : goal.returns
returns c =
    let rows = c.args.rows.now in
    let width = c.args.width in
    by_number _ width rows (cases_from_all _ _ _ (Yes width) (No width) c.all.ensures.ran
    (YieldsList-from_enumerate (YieldsList-from_slice rows cc) cc)
    (λ x q k. search rules)
    (λ x q k. search rules))
