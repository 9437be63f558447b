-- One cell from those that stand.
use Rattle.std.proofs.Common.{◌≡◌, ℕ, ◌+◌, ◌<◌, ◌≤◌, cond, leb, List, length, get_or, sym, ap, ◌∙◌, subst, ⊎_elim, arith}
use Rattle.std.proofs.lemmas.Bool.{cases_lt, le-leb, lt-leb}
use Rattle.scales.specs.Scales.{Ops, meet}
use Rattle.ltl.specs.Formulas.{tree, rows_of, width_of}
use Rattle.ltl.specs.Rows.{Fits}
use Rattle.ltl.specs.Values.{signal_value}
use Rattle.ltl.specs.declared.formula.Formula.{Formula}
use Rattle.ltl.specs.declared.row.Row.{Row}
use Rattle.ltl.specs.declared.row.Row.TheVariants.{Signal, Not, Or, Next, Until, Eventually}
use Rattle.values.specs.Tables.{meaning, HasCell, cell_of, Stands}
use Rattle.values.specs.declared.grid.Grid.{Grid}
use Rattle.values.proofs.Places.{seen}
use Rattle.ltl.proofs.Trees.{rest, row_law, unrolled}
use Rattle.ltl.proofs.Unfold.{after_same}

module _ {V : Type 0} (o : Ops V) (steps : List ℕ) (f : Formula) (grid : Grid V) (r i : ℕ) (has : HasCell grid r i) (stands : Stands o steps f grid i r) where
  -- a lower row at this position
  pub look : (a : ℕ) (v : V) → a < r → v ≡ cell_of grid a i v → v ≡ meaning o steps f a i
  look a v h e =
      let b : HasCell grid a i = record { wide = has.wide; row = omega arith; first = has.first; last = has.last } in
      seen grid.cells.now grid.rows o.no b e ∙ stands.held.here a h

  -- a row at the next position, or at this one after the end
  pub look_next : (a j : ℕ) (v : V) → a < r → (i ≤ length steps → j ≡ i + 1) → (length steps < i → j ≡ i) → v ≡ cell_of grid a j v → v ≡ meaning o steps f a (i + 1)
  look_next a j v h e e' q =
      ⊎_elim
      (λ l. let z : j ≡ i + 1 = e (omega arith) in
      let b : HasCell grid a (i + 1) = record { wide = has.wide; row = omega arith; first = omega arith; last = omega arith } in
      seen grid.cells.now grid.rows o.no b (rw z at q) ∙ stands.held.after a (i + 1) (omega arith) (omega arith) (omega arith))
      (λ l. let z : j ≡ i = e' (omega arith) in
      look a v h (rw z at q) ∙ after_same o steps (tree f a) i (i + 1) (omega arith) (omega arith))
      (cases_lt i (length steps + 1))

  -- what comes after this position for the row itself
  pub look_ahead : cond (leb i (length steps)) (o.later (cell_of grid r (i + 1) o.no)) o.«open» ≡ rest o (length steps) (meaning o steps f r) i
  look_ahead =
      ⊎_elim
      (λ l. let t = lt-leb i (length steps) l in rw t)
      (λ l. let t = le-leb i (length steps) l in rw t (ap o.later (stands.held.after r (i + 1) (omega arith) (omega arith) (omega arith))))
      (cases_lt (length steps) i)

  module _ (row : Row) (row_is : row ≡ get_or (rows_of f) r (Signal 0)) where
    within : r < length (rows_of f)
    within = omega (arith, has.row, stands.ready.rows_is)

    stored : (x : Row) → row ≡ x → get_or (rows_of f) r (Signal 0) ≡ x
    stored x e = sym row_is ∙ e

    fitting : (x : Row) → row ≡ x → Fits (width_of f) r x
    fitting x e = subst (λ y. Fits (width_of f) r y) (stored x e) (f.well_formed.ordered r within)

    by_operands : (x : Row) → row ≡ x → meaning o steps f r i ≡ unrolled o steps (meaning o steps f) r x i
    by_operands x e = row_law o steps (rows_of f) r (width_of f) x i within (sym (stored x e)) (fitting x e)

    -- the value of each kind of row from those of its operands
    pub of_signal : (k : ℕ) (v : V) → row ≡ Signal k → v ≡ signal_value o steps k i → v ≡ meaning o steps f r i
    of_signal k v e q = q ∙ sym (by_operands (Signal k) e)

    pub of_not : (a : ℕ) (x v : V) → row ≡ Not a → x ≡ cell_of grid a i x → v ≡ o.turn x → v ≡ meaning o steps f r i
    of_not a x v e p q = q ∙ ap o.turn (look a x (fitting (Not a) e) p) ∙ sym (by_operands (Not a) e)

    pub of_or : (a b : ℕ) (x y v : V) → row ≡ Or a b → x ≡ cell_of grid a i x → y ≡ cell_of grid b i y → v ≡ o.join x y → v ≡ meaning o steps f r i
    of_or a b x y v e p p' q =
        let u = fitting (Or a b) e in
        q ∙ rw (look a x u.0 p, look b y u.1 p') (sym (by_operands (Or a b) e))

    pub of_next : (a j : ℕ) (x v : V) → row ≡ Next a → (i ≤ length steps → j ≡ i + 1) → (length steps < i → j ≡ i) → x ≡ cell_of grid a j x → v ≡ o.later x → v ≡ meaning o steps f r i
    of_next a j x v e h l p q = q ∙ ap o.later (look_next a j x (fitting (Next a) e) h l p) ∙ sym (by_operands (Next a) e)

    pub of_until : (a b : ℕ) (x y z m v : V) → row ≡ Until a b → x ≡ cell_of grid a i x → y ≡ cell_of grid b i y → z ≡ cond (leb i (length steps)) (o.later (cell_of grid r (i + 1) o.no)) o.«open» → m ≡ meet o x z → v ≡ o.join y m → v ≡ meaning o steps f r i
    of_until a b x y z m v e p p' n k q =
        let u = fitting (Until a b) e in
        q ∙ rw (k, look a x u.0 p, look b y u.1 p', n ∙ look_ahead) (sym (by_operands (Until a b) e))

    pub of_eventually : (a : ℕ) (x z v : V) → row ≡ Eventually a → x ≡ cell_of grid a i x → z ≡ cond (leb i (length steps)) (o.later (cell_of grid r (i + 1) o.no)) o.«open» → v ≡ o.join x z → v ≡ meaning o steps f r i
    of_eventually a x z v e p n q = q ∙ rw (look a x (fitting (Eventually a) e) p, n ∙ look_ahead) (sym (by_operands (Eventually a) e))

-- a row from those of its operands
pub ruleset of_row = (of_signal, of_not, of_or, of_next, of_until, of_eventually)
