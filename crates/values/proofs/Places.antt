-- Places of cells.
use Rattle.std.proofs.Common.{◌≡◌, ℕ, ◌+◌, ◌-◌, ◌*◌, ◌/◌, ◌%◌, ◌<◌, ◌≤◌, ◌≢◌, List, length, get_or, set, sym, ap, ◌∙◌, ⊎_elim, mul_comm, arith, below_more}
use Rattle.std.proofs.lemmas.Bool.{cases_lt}
use Rattle.std.proofs.lemmas.List.{get_or_read, get_or-set_same, get_or-set_other}
use Rattle.std.proofs.lemmas.Nat.{mul-add-lt, div-mul-add, mod-mul-add}
use Rattle.values.specs.Grids.{place, Inside, Known}

-- a cell's place is below what its grid has, and so is what leads to it
pub inside : (cells rows p r i : ℕ) → Inside cells rows p r i → r * p + i ≤ cells
inside cells rows p r i h =
    let b : i - 1 < p = omega arith in
    omega (arith, mul-add-lt r p (i - 1) rows h.row b, mul_comm p rows)

-- what a read gave, at any default
pub seen : {V : Type 0} (cells : List V) (rows : ℕ) {p r i : ℕ} {v : V} (d : V) → Inside (length cells) rows p r i → v ≡ get_or cells (place p r i) v → v ≡ get_or cells (place p r i) d
seen cells rows {p} {r} {i} {v} d h e = let k = inside (length cells) rows p r i h in get_or_read cells (place p r i) v (omega (arith, h.first)) e d

-- two columns share no place
pub columns_apart : (p a j r i : ℕ) → 1 ≤ j → j ≤ p → 1 ≤ i → i ≤ p → j ≢ i → place p a j ≢ place p r i
columns_apart p a j r i h h' l l' ne e =
    let x : j - 1 < p = omega arith in
    let y : i - 1 < p = omega arith in
    let s : a * p + (j - 1) ≡ r * p + (i - 1) = omega arith in
    ne (omega (arith, sym (mod-mul-add a p (j - 1) x) ∙ ap (λ k. k % p) s ∙ mod-mul-add r p (i - 1) y))

-- nor do two rows
pub rows_apart : (p a r i : ℕ) → 1 ≤ i → i ≤ p → a ≢ r → place p a i ≢ place p r i
rows_apart p a r i l l' ne e =
    let y : i - 1 < p = omega arith in
    let s : a * p + (i - 1) ≡ r * p + (i - 1) = omega arith in
    ne (sym (div-mul-add a p (i - 1) y) ∙ ap (λ k. k / p) s ∙ div-mul-add r p (i - 1) y)

module _ {V : Type 0} (d : V) (w : ℕ → ℕ → V) (rows p : ℕ) (cells : List V) (i : ℕ) where
  -- one row more
  pub known_more : (r : ℕ) (v : V) → Known d w rows p cells i r → Inside (length cells) rows p r i → v ≡ w r i → Known d w rows p (set cells (place p r i) v) i (r + 1)
  known_more r v known h e = record {
    after = λ a j b l m.
        get_or-set_other cells (place p r i) (place p a j) v d (columns_apart p a j r i (omega arith) m h.first h.last (omega arith)) ∙ known.after a j b l m;
    here = below_more (λ a. get_or (set cells (place p r i) v) (place p a i) d ≡ w a i) r
        (λ a b. get_or-set_other cells (place p r i) (place p a i) v d (rows_apart p a r i h.first h.last (omega arith)) ∙ known.here a b)
        (get_or-set_same cells (place p r i) v d (omega (arith, inside (length cells) rows p r i h)) ∙ e);
  }

  -- one column more
  pub known_next : (k : ℕ) → i ≡ k + 1 → Known d w rows p cells i rows → Known d w rows p cells k 0
  known_next k e known = record {
    after = λ a j b l m. ⊎_elim
        (λ q. known.after a j b q m)
        (λ q. let z : j ≡ i = omega arith in rw z (known.here a b))
        (cases_lt i j);
    here = λ a b. absurd (omega arith);
  }
