-- The trees of rows whose signals lie below the width reach no other signals.
use Rattle.std.proofs.Common.{ℕ, suc, ◌<◌, ◌≤◌, List, [], ◌∷◌, ◌++◌, length, get_or, sym, ⊎_elim, arith}
use Rattle.std.proofs.lemmas.List.{get_or_append_left, get_or_push, get_or_past, length_push}
use Rattle.std.proofs.lemmas.Bool.{cases_order, cases_lt}
use Rattle.ltl.specs.Endless.{SignalsBelow}
use Rattle.ltl.specs.Rows.{Fits}
use Rattle.ltl.specs.Trees.{Tree, signal, tree_at, tree_of, trees_after, trees}
use Rattle.ltl.specs.declared.row.Row.{Row}
use Rattle.ltl.specs.declared.row.Row.TheVariants.{Signal, Not, Or, Next, Until, Eventually}

-- a row's signal lies below the width
abbrev RowBelow : ℕ → Row → Type 0
RowBelow width (Signal k) = k < width
RowBelow width (Not a) = Unit {0}
RowBelow width (Or a b) = Unit {0}
RowBelow width (Next a) = Unit {0}
RowBelow width (Until a b) = Unit {0}
RowBelow width (Eventually a) = Unit {0}

row_below : (width r : ℕ) (x : Row) → Fits width r x → RowBelow width x
row_below width r (Signal k) h = h
row_below width r (Not a) h = tt
row_below width r (Or a b) h = tt
row_below width r (Next a) h = tt
row_below width r (Until a b) h = tt
row_below width r (Eventually a) h = tt

module _ (width : ℕ) (some : 1 ≤ width) where
  default_below : SignalsBelow width (signal 0)
  default_below k = ((λ e. omega arith), (λ e. absurd e))

  tree_below : (ts : List Tree) → ((k : ℕ) → SignalsBelow width (tree_at ts k)) → (x : Row) → RowBelow width x → SignalsBelow width (tree_of ts x)
  tree_below ts h (Signal j) l k = ((λ e. omega arith), (λ e. absurd e))
  tree_below ts h (Not a) l k = ((h a k).1, (h a k).0)
  tree_below ts h (Or a b) l k = (⊎_elim (h a k).0 (h b k).0, ⊎_elim (h a k).1 (h b k).1)
  tree_below ts h (Next a) l k = h a k
  tree_below ts h (Until a b) l k = (⊎_elim (h a k).0 (h b k).0, ⊎_elim (h a k).1 (h b k).1)
  tree_below ts h (Eventually a) l k = h a k

  push_below : (ts : List Tree) → ((k : ℕ) → SignalsBelow width (tree_at ts k)) → (t : Tree) → SignalsBelow width t → (k : ℕ) → SignalsBelow width (tree_at (ts ++ t ∷ []) k)
  push_below ts h t l k =
      ⊎_elim
      (λ e. rw (get_or_push ts t (signal 0) k (sym e)) l)
      (⊎_elim
      (λ e. rw (get_or_append_left ts (t ∷ []) (signal 0) k e) (h k))
      (λ e. let z = length_push ts t in rw (get_or_past (ts ++ t ∷ []) k (signal 0) (omega arith)) default_below))
      (cases_order k (length ts))

  after_below : (ts : List Tree) (xs : List Row) → ((k : ℕ) → SignalsBelow width (tree_at ts k)) → ((r : ℕ) → RowBelow width (get_or xs r (Signal 0))) → (k : ℕ) → SignalsBelow width (tree_at (trees_after ts xs) k)
  unfolding trees_after
  after_below ts [] h l k = h k
  after_below ts (x ∷ xs) h l k = after_below (ts ++ tree_of ts x ∷ []) xs (push_below ts h (tree_of ts x) (tree_below ts h x (l 0))) (λ r. l (suc r)) k

  each_below : (rows : List Row) → ((r : ℕ) → r < length rows → Fits width r (get_or rows r (Signal 0))) → (r : ℕ) → RowBelow width (get_or rows r (Signal 0))
  each_below rows fit r = ⊎_elim
      (λ (h : r < length rows). row_below width r (get_or rows r (Signal 0)) (fit r h))
      (λ (h : length rows ≤ r). rw (get_or_past rows r (Signal 0) h) some)
      (cases_lt r (length rows))

  pub narrow : (rows : List Row) → ((r : ℕ) → r < length rows → Fits width r (get_or rows r (Signal 0))) → (r : ℕ) → SignalsBelow width (tree_at (trees rows) r)
  narrow rows fit r = after_below [] rows (λ k. default_below) (each_below rows fit) r
