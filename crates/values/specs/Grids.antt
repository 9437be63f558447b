-- Where a grid holds a cell, and what is known of the cells while it is filled.
use Rattle.std.specs.Prelude.{◌≡◌, ℕ, ◌+◌, ◌-◌, ◌*◌, ◌<◌, ◌≤◌, List, slice_index_or}

-- row r, from 0, at position i, from 1, where a row has p positions
abbrev pub place : ℕ → ℕ → ℕ → ℕ
place p r i = r * p + i - 1

-- row r at position i is one of a grid with so many cells, rows and positions
pub record Inside (cells rows p r i : ℕ) : Type 0 where
  pub wide : rows * p ≤ cells
  pub row : r < rows
  pub first : 1 ≤ i
  pub last : i ≤ p

-- the columns after i hold w, and column i holds it below row r
pub record Known {V : Type 0} (d : V) (w : ℕ → ℕ → V) (rows p : ℕ) (cells : List V) (i r : ℕ) : Type 0 where
  pub after : (a j : ℕ) → a < rows → i < j → j ≤ p → slice_index_or cells (place p a j) d ≡ w a j
  pub here : (a : ℕ) → a < r → slice_index_or cells (place p a i) d ≡ w a i

-- a grid with so many cells, rows and positions is one for len rows and n steps
pub record Ready (len n cells rows p : ℕ) : Type 0 where
  pub rows_is : rows ≡ len
  pub positions_is : p ≡ n + 1
  pub wide : rows * p ≤ cells
