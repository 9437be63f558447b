-- The rows that a formula makes have their operands before them.
use Rattle.std.proofs.Common.{◌≡◌, ℕ, zero, suc, ◌+◌, ◌<◌, ◌≤◌, List, [], ◌∷◌, ◌++◌, length, get_or, Some, None, Option, sym, refl, ap, ◌∙◌, subst, append_assoc, append-nil, arith, length-append}
use Rattle.ltl.specs.Rows.{Fits}
use Rattle.ltl.specs.Tables.{AllFit}
use Rattle.ltl.specs.declared.row.Row.{Row}
use Rattle.ltl.specs.declared.row.Row.TheVariants.{Signal, Not, Or, Next, Until, Eventually}
use Rattle.sheet.specs.Parts.{Part}
use Rattle.sheet.specs.Tokens.{Sort, operator, keyword, name, token_of}
use Rattle.sheet.specs.declared.token.Operator.TheVariants.{One, Two}
use Rattle.sheet.specs.declared.token.Unary.{Unary}
use Rattle.sheet.specs.declared.token.Unary.TheVariants as unary
use Rattle.sheet.specs.declared.token.Binary.{Binary}
use Rattle.sheet.specs.declared.token.Binary.TheVariants as binary
use Rattle.sheet_reader.specs.Grammar.{Written, earlier, one, two, Symbol, takes0, spelt, bare, symbol, symbols, known}
use Rattle.sheet_reader.specs.Lines.{Operated}
use Rattle.sheet_reader.specs.Rows.{rows1, rows2, size1, size2, size, top, made}
use Rattle.sheet_reader.specs.Sound.{Ordered}
use Rattle.sheet_reader.proofs.Prefix.{few1, few2}

-- rows behind rows
pub ordered_append : (width n : ℕ) (xs ys : List Row) → Ordered width n xs → Ordered width (n + length xs) ys → Ordered width n (xs ++ ys)
ordered_append width n [] ys o p = subst (λ k. Ordered width k ys) (omega arith) p
ordered_append width n (x ∷ xs) ys o p = (o.0, ordered_append width (suc n) xs ys o.1 (subst (λ k. Ordered width k ys) (omega arith) p))

fits_wider : (width n : ℕ) (x : Row) → Fits width n x → Fits (suc width) n x
fits_wider width n (Signal k) h = omega arith
fits_wider width n (Not a) h = h
fits_wider width n (Or a b) h = h
fits_wider width n (Next a) h = h
fits_wider width n (Until a b) h = h
fits_wider width n (Eventually a) h = h

-- one signal more
pub ordered_wider : (width n : ℕ) (xs : List Row) → Ordered width n xs → Ordered (suc width) n xs
ordered_wider width n [] o = tt
ordered_wider width n (x ∷ xs) o = (fits_wider width n x o.0, ordered_wider width (suc n) xs o.1)

ordered_at : (width n : ℕ) (xs : List Row) (r : ℕ) → Ordered width n xs → r < length xs → Fits width (n + r) (get_or xs r (Signal 0))
ordered_at width n [] r o h = absurd (omega arith)
ordered_at width n (x ∷ xs) zero o h = subst (λ k. Fits width k x) (omega arith) o.0
ordered_at width n (x ∷ xs) (suc r) o h = subst (λ k. Fits width k (get_or xs r (Signal 0))) (omega arith) (ordered_at width (suc n) xs r o.1 (omega arith))

pub all_fit : (width : ℕ) (xs : List Row) → Ordered width 0 xs → AllFit width xs
all_fit width xs o r h = subst (λ k. Fits width k (get_or xs r (Signal 0))) (omega arith) (ordered_at width 0 xs r o h)

-- every earlier row that a formula names is below n
abbrev pub Below : ℕ → Written → Type 0
Below n (earlier r) = r < n
Below n (one u t) = Below n t
Below n (two b l r) = Below n l × Below n r

below_more : (n m : ℕ) → n ≤ m → (t : Written) → Below n t → Below m t
below_more n m h (earlier r) b = omega arith
below_more n m h (one u t) b = below_more n m h t b
below_more n m h (two o l r) b = (below_more n m h l b.0, below_more n m h r b.1)

length1 : (u : Unary) (a n : ℕ) → length (rows1 u a n) ≡ size1 u
length1 unary.Not a n = refl
length1 unary.Next a n = refl
length1 unary.Eventually a n = refl
length1 unary.Always a n = refl

length2 : (o : Binary) (a b n : ℕ) → length (rows2 o a b n) ≡ size2 o
length2 binary.Or a b n = refl
length2 binary.And a b n = refl
length2 binary.Implies a b n = refl
length2 binary.Until a b n = refl

-- a formula makes as many rows as its size says
pub length_made : (n : ℕ) (t : Written) → length (made n t) ≡ size t
length_made n (earlier r) = refl
length_made n (one u t) =
    let rows = rows1 u (top n t) (n + size t) in
    omega (arith, length-append (made n t) rows, length_made n t, length1 u (top n t) (n + size t))
length_made n (two b l r) =
    let m = n + size l in
    let rows = rows2 b (top n l) (top m r) (n + size l + size r) in
    omega (arith, length-append (made n l) (made m r ++ rows), length-append (made m r) rows, length_made n l, length_made m r, length2 b (top n l) (top m r) (n + size l + size r))

-- its own row is one of these, or an earlier one
pub top_below : (n : ℕ) (t : Written) → Below n t → top n t < n + size t
top_below n (earlier r) b = omega arith
top_below n (one u t) b = omega (arith, (few1 u).0)
top_below n (two o l r) b = omega (arith, (few2 o).0)

-- and with an operator a new one
pub top_above : (n : ℕ) (t : Written) → Operated t → n ≤ top n t
top_above n (earlier r) h = absurd h
top_above n (one u t) h = omega (arith, (few1 u).0)
top_above n (two o l r) h = omega (arith, (few2 o).0)

ordered1 : (width : ℕ) (u : Unary) (a n : ℕ) → a < n → Ordered width n (rows1 u a n)
ordered1 width unary.Not a n h = (h, tt)
ordered1 width unary.Next a n h = (h, tt)
ordered1 width unary.Eventually a n h = (h, tt)
ordered1 width unary.Always a n h = (h, (omega arith, (omega arith, tt)))

ordered2 : (width : ℕ) (o : Binary) (a b n : ℕ) → a < n → b < n → Ordered width n (rows2 o a b n)
ordered2 width binary.Or a b n h k = ((h, k), tt)
ordered2 width binary.And a b n h k = (h, (omega arith, ((omega arith, omega arith), (omega arith, tt))))
ordered2 width binary.Implies a b n h k = (h, ((omega arith, omega arith), tt))
ordered2 width binary.Until a b n h k = ((h, k), tt)

pub ordered_made : (width n : ℕ) (t : Written) → Below n t → Ordered width n (made n t)
ordered_made width n (earlier r) b = tt
ordered_made width n (one u t) b =
    ordered_append width n (made n t) (rows1 u (top n t) (n + size t)) (ordered_made width n t b)
    (subst (λ k. Ordered width (n + k) (rows1 u (top n t) (n + size t))) (sym (length_made n t)) (ordered1 width u (top n t) (n + size t) (top_below n t b)))
ordered_made width n (two o l r) b =
    let m = n + size l in
    let below_r = below_more n m (omega arith) r b.1 in
    let rows = rows2 o (top n l) (top m r) (n + size l + size r) in
    let last = ordered2 width o (top n l) (top m r) (n + size l + size r) (omega (arith, top_below n l b.0)) (top_below m r below_r) in
    let right = ordered_append width m (made m r) rows (ordered_made width m r below_r) (subst (λ k. Ordered width (m + k) rows) (sym (length_made m r)) last) in
    ordered_append width n (made n l) (made m r ++ rows) (ordered_made width n l b.0) (subst (λ k. Ordered width (n + k) (made m r ++ rows)) (sym (length_made n l)) right)

-- a formula that words spell names only rows that the words name
module _ (find : List ℕ → Option ℕ) (n : ℕ) (low : (x : List ℕ) (r : ℕ) → find x ≡ Some r → r < n) where
  named_low : (x : Sort) (r : ℕ) → symbol find x ≡ takes0 r → r < n
  named_low (operator (One u)) r e = cc
  named_low (operator (Two b)) r e = cc
  named_low (keyword k) r e = cc
  named_low (name v p) r e = found (find v) refl e
    where
      found : (o : Option ℕ) → find v ≡ o → known o ≡ takes0 r → r < n
      found None q e = cc
      found (Some j) q e = low v r (q ∙ ap Some (cc))

  record Rest (t : Written) (ss : List Symbol) : Type 0 where
    below : Below n t
    words : List Part
    are : bare (symbols find words) ≡ ss

  spelt_rest : (t : Written) (ws : List Part) (ss : List Symbol) → bare (symbols find ws) ≡ spelt t ++ ss → Rest t ss
  spelt_rest (earlier r) [] ss e = cc
  spelt_rest (earlier r) (w ∷ ws) ss e = record { below = named_low (token_of w.text w.at) r (cc); words = ws; are = cc }
  spelt_rest (one u t) [] ss e = cc
  spelt_rest (one u t) (w ∷ ws) ss e = let q = spelt_rest t ws ss (cc) in record { below = q.below; words = q.words; are = q.are }
  spelt_rest (two b l r) [] ss e = cc
  spelt_rest (two b l r) (w ∷ ws) ss e =
      let tail : bare (symbols find ws) ≡ (spelt l ++ spelt r) ++ ss = cc in
      let q = spelt_rest l ws (spelt r ++ ss) (tail ∙ append_assoc (spelt l) (spelt r) ss) in
      let v = spelt_rest r q.words ss q.are in
      record { below = (q.below, v.below); words = v.words; are = v.are }

  pub spelt_below : (t : Written) (ws : List Part) → bare (symbols find ws) ≡ spelt t → Below n t
  spelt_below t ws e = (spelt_rest t ws [] (e ∙ sym (append-nil (spelt t)))).below
