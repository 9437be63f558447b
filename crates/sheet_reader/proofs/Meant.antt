-- The row of a formula has the tree that the formula means.
use Rattle.std.proofs.Common.{◌≡◌, ℕ, ◌+◌, ◌-◌, ◌<◌, List, [], ◌∷◌, ◌++◌, length, get_or, sym, refl, ap, ◌∙◌, append_assoc, arith, length-append}
use Rattle.std.proofs.lemmas.List.{get_or_append_left, get_or-append-add}
use Rattle.ltl.specs.Tables.{AllFit}
use Rattle.ltl.specs.Trees.{Tree, not, or, eventually, tree_at, tree_of, trees}
use Rattle.ltl.specs.declared.row.Row.{Row}
use Rattle.ltl.specs.declared.row.Row.TheVariants.{Signal}
use Rattle.ltl.proofs.Trees as ltl_trees
use Rattle.sheet.specs.declared.token.Unary.{Unary}
use Rattle.sheet.specs.declared.token.Unary.TheVariants as unary
use Rattle.sheet.specs.declared.token.Binary.{Binary}
use Rattle.sheet.specs.declared.token.Binary.TheVariants as binary
use Rattle.sheet_reader.specs.Grammar.{Written, earlier, one, two}
use Rattle.sheet_reader.specs.Rows.{rows1, rows2, size1, size2, size, top, made, meant1, meant2, meant}
use Rattle.sheet_reader.proofs.Ordered.{length_made}

module _ (width : ℕ) (rows : List Row) (fit : AllFit width rows) where
  abbrev env : ℕ → Tree
  env = tree_at (trees rows)

  -- the rows xs stand from row m on
  record Stand (m : ℕ) (xs : List Row) : Type 0 where
    before : List Row
    behind : List Row
    splits : rows ≡ before ++ (xs ++ behind)
    count : length before ≡ m

  -- row j of these
  stand_at : (m : ℕ) (xs : List Row) → Stand m xs → (j r : ℕ) → j < length xs → r ≡ m + j → env r ≡ tree_of (trees rows) (get_or xs j (Signal 0))
  stand_at m xs s j r h e =
      let all : length rows ≡ length s.before + (length xs + length s.behind) = ap length s.splits ∙ length-append s.before (xs ++ s.behind) ∙ ap (λ k. length s.before + k) (length-append xs s.behind) in
      let place : r ≡ length s.before + j = omega (arith, s.count) in
      let in_rows : r < length rows = omega arith in
      let is : get_or rows r (Signal 0) ≡ get_or xs j (Signal 0) =
      ap (λ l. get_or l r (Signal 0)) s.splits ∙ ap (λ k. get_or (s.before ++ (xs ++ s.behind)) k (Signal 0)) place ∙ get_or-append-add s.before (xs ++ s.behind) j (Signal 0) ∙ get_or_append_left xs s.behind (Signal 0) j h in
      ltl_trees.made width rows r in_rows (fit r in_rows) ∙ ap (tree_of (trees rows)) is

  stand_left : (m : ℕ) (xs ys : List Row) → Stand m (xs ++ ys) → Stand m xs
  stand_left m xs ys s = record { before = s.before; behind = ys ++ s.behind; splits = s.splits ∙ ap (λ l. s.before ++ l) (append_assoc xs ys s.behind); count = s.count }

  stand_right : (m : ℕ) (xs ys : List Row) (k : ℕ) → Stand m (xs ++ ys) → k ≡ m + length xs → Stand k ys
  stand_right m xs ys k s e = record {
    before = s.before ++ xs;
    behind = s.behind;
    splits = s.splits ∙ ap (λ l. s.before ++ l) (append_assoc xs ys s.behind) ∙ sym (append_assoc s.before xs (ys ++ s.behind));
    count = length-append s.before xs ∙ omega (arith, s.count);
  }

  -- an operator's own row
  row1 : (u : Unary) (a m r : ℕ) → Stand m (rows1 u a m) → r ≡ m + size1 u - 1 → env r ≡ meant1 u (env a)
  row1 unary.Not a m r s e = stand_at m (rows1 unary.Not a m) s 0 r (omega arith) (omega arith)
  row1 unary.Next a m r s e = stand_at m (rows1 unary.Next a m) s 0 r (omega arith) (omega arith)
  row1 unary.Eventually a m r s e = stand_at m (rows1 unary.Eventually a m) s 0 r (omega arith) (omega arith)
  row1 unary.Always a m r s e =
      let xs = rows1 unary.Always a m in
      let last = stand_at m xs s 2 r (omega arith) (omega arith) in
      let mid = stand_at m xs s 1 (m + 1) (omega arith) refl in
      let low = stand_at m xs s 0 m (omega arith) (omega arith) in
      last ∙ ap not (mid ∙ ap eventually low)

  row2 : (o : Binary) (a b m r : ℕ) → Stand m (rows2 o a b m) → r ≡ m + size2 o - 1 → env r ≡ meant2 o (env a) (env b)
  row2 binary.Or a b m r s e = stand_at m (rows2 binary.Or a b m) s 0 r (omega arith) (omega arith)
  row2 binary.Until a b m r s e = stand_at m (rows2 binary.Until a b m) s 0 r (omega arith) (omega arith)
  row2 binary.Implies a b m r s e =
      let xs = rows2 binary.Implies a b m in
      let last = stand_at m xs s 1 r (omega arith) (omega arith) in
      let low = stand_at m xs s 0 m (omega arith) (omega arith) in
      last ∙ ap (λ x. or x (env b)) low
  row2 binary.And a b m r s e =
      let xs = rows2 binary.And a b m in
      let last = stand_at m xs s 3 r (omega arith) (omega arith) in
      let either = stand_at m xs s 2 (m + 2) (omega arith) refl in
      let right = stand_at m xs s 1 (m + 1) (omega arith) refl in
      let left = stand_at m xs s 0 m (omega arith) (omega arith) in
      last ∙ ap not (either ∙ ap (λ x. or x (env (m + 1))) left ∙ ap (λ x. or (not (env a)) x) right)

  -- the rows of the formula stand from row n on
  stands_meant : (n : ℕ) (t : Written) → Stand n (made n t) → env (top n t) ≡ meant env t
  stands_meant n (earlier r) s = refl
  stands_meant n (one u t) s =
      let xs = rows1 u (top n t) (n + size t) in
      let a = stands_meant n t (stand_left n (made n t) xs s) in
      let own = stand_right n (made n t) xs (n + size t) s (omega (arith, length_made n t)) in
      row1 u (top n t) (n + size t) (top n (one u t)) own (omega arith) ∙ ap (meant1 u) a
  stands_meant n (two o l r) s =
      let k = n + size l in
      let m = n + size l + size r in
      let xs = rows2 o (top n l) (top k r) m in
      let a = stands_meant n l (stand_left n (made n l) (made k r ++ xs) s) in
      let rest = stand_right n (made n l) (made k r ++ xs) k s (omega (arith, length_made n l)) in
      let b = stands_meant k r (stand_left k (made k r) xs rest) in
      let own = stand_right k (made k r) xs m rest (omega (arith, length_made k r)) in
      row2 o (top n l) (top k r) m (top n (two o l r)) own (omega arith) ∙ ap (λ x. meant2 o x (env (top k r))) a ∙ ap (λ x. meant2 o (meant env l) x) b

-- the formula's rows behind n others and before more
pub formula_meant : (width : ℕ) (rows : List Row) → AllFit width rows → (before behind : List Row) (t : Written) → rows ≡ (before ++ made (length before) t) ++ behind → tree_at (trees rows) (top (length before) t) ≡ meant (tree_at (trees rows)) t
formula_meant width rows fit before behind t e =
    stands_meant width rows fit (length before) t
    (record { before = before; behind = behind; splits = e ∙ append_assoc before (made (length before) t) behind; count = refl })

-- the signal row behind others and before more
pub signal_meant : (width : ℕ) (rows : List Row) → AllFit width rows → (before behind : List Row) (k : ℕ) → rows ≡ (before ++ Signal k ∷ []) ++ behind → tree_at (trees rows) (length before) ≡ tree_of (trees rows) (Signal k)
signal_meant width rows fit before behind k e =
    stand_at width rows fit (length before) (Signal k ∷ [])
    (record { before = before; behind = behind; splits = e ∙ append_assoc before (Signal k ∷ []) behind; count = refl }) 0 (length before) (omega arith) (omega arith)
