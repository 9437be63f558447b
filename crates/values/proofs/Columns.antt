-- One cell more, and one column more.
use Rattle.std.proofs.Common.{◌≡◌, ℕ, ◌+◌, ◌*◌, ◌<◌, ◌≤◌, List, length, get_or, sym, refl, ◌∙◌, subst, arith}
use Rattle.std.proofs.lemmas.List.{length-set, drop-set-lt}
use Rattle.scales.specs.Scales.{Ops}
use Rattle.ltl.specs.Formulas.{row_count}
use Rattle.ltl.specs.declared.formula.Formula.{Formula}
use Rattle.values.specs.Grids.{place, Inside, Ready}
use Rattle.values.specs.Tables.{meaning, HasCell, Held, Frame, Stored, Stands}
use Rattle.values.specs.declared.grid.Grid.{Grid}
use Rattle.values.proofs.Places.{inside, known_more, known_next}

pub frame_same : {V : Type 0} (a : Grid V) → Frame a a
frame_same a = record { rows_is = refl; positions_is = refl; memory = refl; size = refl; past = refl }

module _ {V : Type 0} (a b c : Grid V) where
  pub frame_trans : Frame a b → Frame b c → Frame a c
  frame_trans f h = record {
    rows_is = h.rows_is ∙ f.rows_is;
    positions_is = h.positions_is ∙ f.positions_is;
    memory = h.memory ∙ f.memory;
    size = h.size ∙ f.size;
    past = rw (f.rows_is, f.positions_is) at h.past ∙ f.past;
  }

module _ {V : Type 0} (before after : Grid V) (r i : ℕ) (v : V) (s : Stored before after r i v) (h : HasCell before r i) where
  pub frame_stored : Frame before after
  frame_stored = record {
    rows_is = s.rows_is;
    positions_is = s.positions_is;
    memory = s.memory;
    size = rw s.cells_is (length-set _ _ _);
    past =
        let t : Inside (before.rows * before.positions) before.rows before.positions r i = record { wide = omega arith; row = h.row; first = h.first; last = h.last } in
        rw s.cells_is (drop-set-lt (before.rows * before.positions) before.cells.now (place before.positions r i) v (omega (arith, inside _ _ _ _ _ t, h.first)));
  }

  pub stands_stored : (o : Ops V) (steps : List ℕ) (f : Formula) → Stands o steps f before i r → v ≡ meaning o steps f r i → Stands o steps f after i (r + 1)
  stands_stored o steps f stands e = record {
    ready = record {
      rows_is = s.rows_is ∙ stands.ready.rows_is;
      positions_is = s.positions_is ∙ stands.ready.positions_is;
      wide = rw (s.rows_is, s.positions_is, frame_stored.size) stands.ready.wide;
    };
    held = rw (s.rows_is, s.positions_is, s.cells_is) (known_more o.no (meaning o steps f) before.rows before.positions before.cells.now i r v stands.held h e);
  }

module _ {V : Type 0} (o : Ops V) (steps : List ℕ) (f : Formula) (grid : Grid V) where
  -- nothing is known before the last column
  pub stands_none : (i : ℕ) → Ready (row_count f) (length steps) (length grid.cells.now) grid.rows grid.positions → length steps < i → Stands o steps f grid i 0
  stands_none i h l = record { ready = h; held = record { after = λ a j b m q. absurd (omega arith); here = λ a b. absurd (omega arith) } }

  pub stands_next : (i k : ℕ) → i ≡ k + 1 → Stands o steps f grid i (row_count f) → Stands o steps f grid k 0
  stands_next i k e stands = record {
    ready = stands.ready;
    held = known_next _ _ _ _ _ i k e (subst (λ m. Held o steps f grid i m) (sym stands.ready.rows_is) stands.held);
  }

  pub stands_all : (r i : ℕ) → Stands o steps f grid 0 0 → r < row_count f → 1 ≤ i → i ≤ length steps + 1 → get_or grid.cells.now (place (length steps + 1) r i) o.no ≡ meaning o steps f r i
  stands_all r i stands b l m =
      let h = stands.ready in
      rw (← h.positions_is) (stands.held.after r i (omega arith) l (omega arith))

-- a row of a column is in the grid
pub column_has : {V : Type 0} {o : Ops V} {steps : List ℕ} {f : Formula} (grid : Grid V) (i k r : ℕ) → Stands o steps f grid i k → r < row_count f → 1 ≤ i → i ≤ grid.positions → HasCell grid r i
column_has grid i k r stands b l m = record { wide = stands.ready.wide; row = omega (arith, stands.ready.rows_is); first = l; last = m }

-- what the filling of a grid keeps from column to column
pub ruleset one_column_more = (frame_same, frame_trans, stands_none, stands_next)
