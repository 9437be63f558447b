-- What lines that were read have made.
use Rattle.std.specs.Prelude.{◌≡◌, ℕ, suc, ◌<◌, ◌≤◌, List, [], ◌∷◌, length, Some}
use Rattle.std.proofs.Props.{props}
use Rattle.ltl.specs.Rows.{Fits, fits_prop}
use Rattle.ltl.specs.declared.row.Row.{Row}
use Rattle.sheet_reader.specs.Sheets.{State}
use Rattle.sheet_reader.specs.declared.reading.Name.{Name}

-- each row, from row n on, has its operands before it and its signal below the width
abbrev pub Ordered : ℕ → ℕ → List Row → Type 0
Ordered width n [] = Unit {0}
Ordered width n (x ∷ xs) = Fits width n x × Ordered width (suc n) xs

-- each name is one of a row below n
abbrev pub NamedBelow : ℕ → List Name → Type 0
NamedBelow n [] = Unit {0}
NamedBelow n (x ∷ xs) = (x.row < n) × NamedBelow n xs

-- a formula's table once there is a watch row
pub record Sound (st : State) : Type 0 where
  pub few_rows : length st.rows ≤ 64
  pub few_signals : st.width ≤ 32
  pub few_names : length st.names ≤ length st.rows
  pub ordered : Ordered st.width 0 st.rows
  pub named : NamedBelow (length st.rows) st.names
  pub some_signal : 0 < length st.rows → 1 ≤ st.width
  pub watched : (w : ℕ) → st.watch ≡ Some w → w < length st.rows

-- at most one proof says so
ordered_prop : (width n : ℕ) (xs : List Row) → IsProp (Ordered width n xs)
ordered_prop width n [] = Prim.hlevel props
ordered_prop width n (x ∷ xs) =
    let row = fits_prop width n x in
    let rows = ordered_prop width (suc n) xs in
    Prim.hlevel (props, row, rows)

named_prop : (n : ℕ) (xs : List Name) → IsProp (NamedBelow n xs)
named_prop n [] = Prim.hlevel props
named_prop n (x ∷ xs) =
    let names = named_prop n xs in
    Prim.hlevel (props, names)

pub sound_prop : (st : State) → IsProp (Sound st)
sound_prop st =
    let ordered = ordered_prop st.width 0 st.rows in
    let named = named_prop (length st.rows) st.names in
    Prim.hlevel (props, ordered, named)
