-- The tree of a row is made from the trees of its operands.
use Rattle.std.proofs.Common.{◌≡◌, ℕ, zero, suc, ◌+◌, ◌<◌, cond, leb, List, [], ◌∷◌, ◌++◌, length, get_or, sym, refl, ap, ◌∙◌, subst, ⊎_elim, add-one, arith}
use Rattle.std.proofs.lemmas.Bool.{le-leb, lt-leb, cases_lt, cond-true, cond-false}
use Rattle.std.proofs.lemmas.List.{get_or_append_left, get_or_push, length_push}
use Rattle.scales.specs.Scales.{Ops, meet}
use Rattle.ltl.specs.Trees.{Tree, signal, not, next, until, eventually, tree_at, tree_of, trees_after, trees}
use Rattle.ltl.specs.Rows.{Fits}
use Rattle.ltl.specs.Values.{signal_value, value}
use Rattle.ltl.specs.declared.row.Row.{Row}
use Rattle.ltl.specs.declared.row.Row.TheVariants.{Signal, Not, Or, Next, Until, Eventually}
use Rattle.ltl.proofs.Back.{eventually_in, eventually_past, until_in, until_past}
use Rattle.ltl.proofs.Unfold.{next_at}

-- a tree that is made stays
kept : (ts : List Tree) (xs : List Row) (k : ℕ) → k < length ts → tree_at (trees_after ts xs) k ≡ tree_at ts k
unfolding trees_after
kept ts [] k h = refl
kept ts (x ∷ xs) k h =
    let l = length_push ts (tree_of ts x) in
    kept (ts ++ tree_of ts x ∷ []) xs k (omega arith) ∙ get_or_append_left ts (tree_of ts x ∷ []) (signal 0) k h

-- two lists with the same trees below r make the same tree of a row
alike : (width : ℕ) (ts us : List Tree) (r : ℕ) → ((k : ℕ) → k < r → tree_at ts k ≡ tree_at us k) → (x : Row) → Fits width r x → tree_of ts x ≡ tree_of us x
alike width ts us r e (Signal k) u = refl
alike width ts us r e (Not a) u = ap not (e a u)
alike width ts us r e (Or a b) u = let p = e a u.0 in let q = e b u.1 in cc
alike width ts us r e (Next a) u = ap next (e a u)
alike width ts us r e (Until a b) u = let p = e a u.0 in let q = e b u.1 in cc
alike width ts us r e (Eventually a) u = ap eventually (e a u)

made_after : (width : ℕ) (ts : List Tree) (xs : List Row) (k : ℕ) → k < length xs → Fits width (length ts + k) (get_or xs k (Signal 0)) → tree_at (trees_after ts xs) (length ts + k) ≡ tree_of (trees_after ts xs) (get_or xs k (Signal 0))
unfolding trees_after
made_after width ts [] k h u = absurd (omega arith)
made_after width ts (x ∷ xs) zero h u =
    let us = ts ++ tree_of ts x ∷ [] in
    let l = length_push ts (tree_of ts x) in
    let z : length ts + 0 ≡ length ts = omega arith in
    let here : tree_at (trees_after us xs) (length ts) ≡ tree_of ts x = kept us xs (length ts) (omega arith) ∙ get_or_push ts (tree_of ts x) (signal 0) (length ts) refl in
    let same : tree_of ts x ≡ tree_of (trees_after us xs) x =
    alike width ts (trees_after us xs) (length ts) (λ k b. sym (kept us xs k (omega arith) ∙ get_or_append_left ts (tree_of ts x ∷ []) (signal 0) k b)) x (rw z at u) in
    rw z (here ∙ same)
made_after width ts (x ∷ xs) (suc k) h u =
    let us = ts ++ tree_of ts x ∷ [] in
    let l = length_push ts (tree_of ts x) in
    let z : length us + k ≡ length ts + suc k = omega arith in
    rw (← z) (made_after width us xs k (omega arith) (rw (← z) at u))

pub made : (width : ℕ) (rows : List Row) (r : ℕ) → r < length rows → Fits width r (get_or rows r (Signal 0)) → tree_at (trees rows) r ≡ tree_of (trees rows) (get_or rows r (Signal 0))
made width rows r h u =
    let z : length {A = Tree} [] + r ≡ r = omega arith in
    rw z at (made_after width [] rows r h (rw z u))

-- the value of row r of a table at position i
abbrev pub row_value : {V : Type 0} → Ops V → List ℕ → List Row → ℕ → ℕ → V
row_value o steps rows r i = value o steps (tree_at (trees rows) r) i

-- later of the row itself, or open after the end
abbrev pub rest : {V : Type 0} → Ops V → ℕ → (ℕ → V) → ℕ → V
rest o n w i = cond (leb i n) (o.later (w (i + 1))) o.«open»

-- a row by its operands and by itself at the next position
abbrev pub unrolled : {V : Type 0} → Ops V → List ℕ → (ℕ → ℕ → V) → ℕ → Row → ℕ → V
unrolled o steps w r (Signal k) i = signal_value o steps k i
unrolled o steps w r (Not a) i = o.turn (w a i)
unrolled o steps w r (Or a b) i = o.join (w a i) (w b i)
unrolled o steps w r (Next a) i = o.later (w a (i + 1))
unrolled o steps w r (Until a b) i = o.join (w b i) (meet o (w a i) (rest o (length steps) (w r) i))
unrolled o steps w r (Eventually a) i = o.join (w a i) (rest o (length steps) (w r) i)

module _ {V : Type 0} (o : Ops V) (steps : List ℕ) where
  -- both ways in one
  eventually_rest : (a : Tree) (i : ℕ) → value o steps (eventually a) i ≡ o.join (value o steps a i) (rest o (length steps) (value o steps (eventually a)) i)
  eventually_rest a i =
      ⊎_elim
      (λ h. eventually_past o steps a i h ∙ ap (o.join (value o steps a i)) (sym (cond-false (leb i (length steps)) _ _ (lt-leb i (length steps) h))))
      (λ h. rw add-one (eventually_in o steps a i h) ∙ ap (o.join (value o steps a i)) (sym (cond-true (leb i (length steps)) _ _ (le-leb i (length steps) h))))
      (cases_lt (length steps) i)

  until_rest : (a b : Tree) (i : ℕ) → value o steps (until a b) i ≡ o.join (value o steps b i) (meet o (value o steps a i) (rest o (length steps) (value o steps (until a b)) i))
  until_rest a b i =
      ⊎_elim
      (λ h. until_past o steps a b i h ∙ ap (λ x. o.join (value o steps b i) (meet o (value o steps a i) x)) (sym (cond-false (leb i (length steps)) _ _ (lt-leb i (length steps) h))))
      (λ h. rw add-one (until_in o steps a b i h) ∙ ap (λ x. o.join (value o steps b i) (meet o (value o steps a i) x)) (sym (cond-true (leb i (length steps)) _ _ (le-leb i (length steps) h))))
      (cases_lt (length steps) i)

module _ {V : Type 0} (o : Ops V) (steps : List ℕ) (rows : List Row) (r : ℕ) where
  by_row : (x : Row) (i : ℕ) → tree_at (trees rows) r ≡ tree_of (trees rows) x → row_value o steps rows r i ≡ unrolled o steps (row_value o steps rows) r x i
  unfolding value
  by_row (Signal k) i e = rw e
  by_row (Not a) i e = rw e
  by_row (Or a b) i e = rw e
  by_row (Next a) i e = ap (λ t. value o steps t i) e ∙ next_at o steps (tree_at (trees rows) a) i
  by_row (Until a b) i e =
      let P : Tree → Type 0 = λ t. value o steps t i ≡ o.join (row_value o steps rows b i) (meet o (row_value o steps rows a i) (rest o (length steps) (value o steps t) i)) in
      subst P (sym e) (until_rest o steps (tree_at (trees rows) a) (tree_at (trees rows) b) i)
  by_row (Eventually a) i e =
      let P : Tree → Type 0 = λ t. value o steps t i ≡ o.join (row_value o steps rows a i) (rest o (length steps) (value o steps t) i) in
      subst P (sym e) (eventually_rest o steps (tree_at (trees rows) a) i)

  pub row_law : (width : ℕ) (x : Row) (i : ℕ) → r < length rows → x ≡ get_or rows r (Signal 0) → Fits width r x → row_value o steps rows r i ≡ unrolled o steps (row_value o steps rows) r x i
  row_law width x i h e u = by_row x i (made width rows r h (rw e at u) ∙ ap (tree_of (trees rows)) (sym e))
